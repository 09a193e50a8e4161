-- The floating-point door. A step is what one reading comes to (`step_at`); `number_of` and `handed_back` give each case of a step its number and its float.
use Rattle.std.proofs.Common.{Ok, Err}
use mathlib.Core.Path.{◌≡◌, refl}
use mathlib.Core.Logic.{◌↔◌}
use mathlib.Core.Bool.{Bool, true, false, not, cond, ◌&&◌}
use mathlib.Core.List.{List, ◌∷◌, ◌++◌}
use Prim.Native.Nat.{ℕ, ◌<◌}
use lib.Dec.{eqb}
use lib.IntN.{ℤ, pos, negsuc, ◌+ℤ◌, ◌*ℤ◌}
use lib.ListN.{length, get_or}
use lib.Signed.{le_z, ◌≤ℤ◌, ◌<ℤ◌}
use lib.Ieee.{Float, fin, is_nan, of_int}
use lib.Ieee.Scale.{finite}
use Rattle.whole.specs.Nearest.{nearest_away, IsNearestAway}
use Rattle.polynomials.specs.Sum.{listed}
use Rattle.polynomials.specs.Groups.{total}
use Rattle.layout.specs.Shape.{table_length, cumulus}
use Rattle.layout.specs.Limits.{lowest, highest, cut, fine_cut, good}
use Rattle.layout.specs.Blocks.{low, coefficient}
use Rattle.layout.specs.Sound.{light}
use Rattle.layout.specs.Refusals.{◌when◌, first, wrong_table, bad_limits, too_heavy, outside}
use Rattle.layout.specs.Reading.{inside, piece_at, read_number, read_output}
use Rattle.rounding.specs.Value.{numerator, denominator}
use Rattle.rounding.specs.Reading.{whole_of, step_of}
use Rattle.rounding.specs.Answer.{nearest_even, float_of}
use Rattle.rounding.specs.declared.Unread.TheVariants.{NotFinite, Outside}
use Rattle.rounding.proofs.Nearest.{reading-nearest, reading-unique}
use Rattle.rounding.proofs.Steps.{step_is, zero-step}
use Rattle.rounding.proofs.Answers.{zero-positive}
use Rattle.thousandths.specs.Thousandths.{at_most_thousandths}
use Rattle.door.specs.Steps.{not_finite, positive_zero, number_of, handed_back, is_not_finite, is_outside}
use Rattle.door.specs.Door.{rounded_all, step_at, door_number, door_reading, true_piece, door_value}
use Rattle.door.proofs.Pieces.{piece-told, same-below, same_above, same_whole}
use Rattle.door.proofs.Answers.{number-told, number_read, value-in-piece, value_read, zero-on-refusal, reading_step, reading-elsewhere, value-number, reading-number}

-- ════ The step of one reading
-- Positive and negative zero both read as 0.
pub door-reads-both-zeros : (negative : Bool) (lowest highest : ℤ) → le_z lowest (pos 0) && le_z (pos 0) highest ≡ true → step_of (fin negative 0 (pos 0)) lowest highest ≡ Ok (pos 0)
door-reads-both-zeros = zero-step

module _ (t : List ℤ) (x : ℕ → Float) where
  -- Each reading is rounded to the nearest whole number: within a half of its exact value and, just a half away, farther from zero than it.
  pub door-rounds-to-nearest : (i : ℕ) → IsNearestAway (denominator (x i)) (numerator (x i)) (rounded_all x i)
  door-rounds-to-nearest i = reading-nearest (x i)

  -- Only one whole number is nearest so.
  pub door-rounding-unique : (i : ℕ) (z : ℤ) → IsNearestAway (denominator (x i)) (numerator (x i)) z → z ≡ rounded_all x i
  door-rounding-unique i z = reading-unique (x i) z

  -- A finite reading is that whole number where it is inside the limits, and otherwise outside with the float as given; any other is not finite.
  pub door-step : (i : ℕ) → step_at cumulus t x i ≡ cond (finite (x i)) (cond (inside cumulus t (rounded_all x) i) (Ok (rounded_all x i)) (Err (Outside (x i)))) (Err NotFinite)
  door-step i = step_is (x i) (lowest cumulus t i) (highest cumulus t i)

  -- ════ The number
  -- The refusals, in their order: the table's length, limits and weights, then over all five a step that is not finite, then one that is outside.
  pub door-refusals : door_number cumulus t x
      ≡ first
      ((wrong_table when not (eqb (length t) (table_length cumulus)))
      ∷ (bad_limits when not (good cumulus t))
      ∷ (too_heavy when not (light cumulus t))
      ∷ (listed cumulus.variables (λ i. number_of cumulus i (step_at cumulus t x i) when is_not_finite (step_at cumulus t x i)) ++ listed cumulus.variables (λ i. number_of cumulus i (step_at cumulus t x i) when is_outside (step_at cumulus t x i))))
  unfolding door_number
  door-refusals = refl

  -- The same told of the floats: 21 to 25 for one that is not finite, 11 to 15 for one that is outside when rounded.
  pub door-refusals-of-floats : door_number cumulus t x
      ≡ first
      ((wrong_table when not (eqb (length t) (table_length cumulus)))
      ∷ (bad_limits when not (good cumulus t))
      ∷ (too_heavy when not (light cumulus t))
      ∷ (listed cumulus.variables (λ i. not_finite cumulus i when not (finite (x i))) ++ listed cumulus.variables (λ i. outside cumulus i when not (inside cumulus t (rounded_all x) i))))
  door-refusals-of-floats = number-told t x

  -- Five finite readings are given the number of the whole-number read of the rounded readings.
  pub door-number-of-rounded : ((i : ℕ) → i < cumulus.variables → finite (x i) ≡ true) → door_number cumulus t x ≡ read_number cumulus t (rounded_all x) (listed cumulus.blocks (λ b. pos 0))
  door-number-of-rounded = number_read t x

  -- ════ The piece
  -- It is the low one exactly where alpha as given, as an exact number, is at most the fine cut in thousandths.
  pub door-piece : (true_piece cumulus t (x 0) ≡ low) ↔ ((pos 1000 *ℤ numerator (x 0)) ≤ℤ (fine_cut cumulus t *ℤ pos (denominator (x 0))))
  door-piece = piece-told t (x 0)

  -- The whole-number read has the same piece where the rounded alpha is below the cut,
  pub door-piece-below-the-cut : good cumulus t ≡ true → rounded_all x 0 <ℤ cut cumulus t → true_piece cumulus t (x 0) ≡ piece_at cumulus t (rounded_all x)
  door-piece-below-the-cut = same-below t x

  -- where it is past the number after the cut,
  pub door-piece-past-the-cut : good cumulus t ≡ true → (cut cumulus t +ℤ pos 1) <ℤ rounded_all x 0 → true_piece cumulus t (x 0) ≡ piece_at cumulus t (rounded_all x)
  door-piece-past-the-cut = same_above t x

  -- and where alpha is a whole number as given.
  pub door-piece-of-wholes : good cumulus t ≡ true → numerator (x 0) ≡ rounded_all x 0 *ℤ pos (denominator (x 0)) → true_piece cumulus t (x 0) ≡ piece_at cumulus t (rounded_all x)
  door-piece-of-wholes = same_whole t x

  -- ════ The six floats
  -- Each is that of the piece of alpha as given, at the rounded readings, made a float and divided once.
  pub door-values-in-piece : door_number cumulus t x ≡ 0 → (b : ℕ) → door_value cumulus t x b ≡ float_of (total (coefficient cumulus t b (true_piece cumulus t (x 0))) (rounded_all x))
  door-values-in-piece = value-in-piece t x

  -- Wherever both choose the same piece they are the whole-number read of the rounded readings.
  pub door-values-of-rounded : ((i : ℕ) → i < cumulus.variables → finite (x i) ≡ true) → true_piece cumulus t (x 0) ≡ piece_at cumulus t (rounded_all x) → (b : ℕ) → b < cumulus.blocks
      → door_value cumulus t x b ≡ float_of (get_or (read_output cumulus t (rounded_all x) (listed cumulus.blocks (λ b. pos 0))) b (pos 0))
  door-values-of-rounded = value_read t x

  -- The six are positive zero on a refusal.
  pub door-zero-on-refusal : (door_number cumulus t x ≡ 0 → ⊥) → (b : ℕ) → door_value cumulus t x b ≡ positive_zero
  door-zero-on-refusal = zero-on-refusal t x

  -- ════ The reading handed back
  -- With 11 to 15 the step of that variable is outside, and what it carries, the float as given, is handed back.
  pub door-hands-back-outside : (i : ℕ) → i < cumulus.variables → door_number cumulus t x ≡ outside cumulus i → (step_at cumulus t x i ≡ Err (Outside (x i))) × (door_reading cumulus t x ≡ handed_back (step_at cumulus t x i))
  door-hands-back-outside = reading_step t x

  -- With every other number, 0 included, that place is positive zero.
  pub door-hands-back-nothing-else : ((i : ℕ) → i < cumulus.variables → door_number cumulus t x ≡ outside cumulus i → ⊥) → door_reading cumulus t x ≡ positive_zero
  door-hands-back-nothing-else = reading-elsewhere t x

  -- None of the seven floats is a NaN: a NaN stands for many patterns of bits in the kit's model, any other float for one, so the answer is known to the bit.
  pub door-never-nan : (is_nan (door_reading cumulus t x) ≡ false) × ((b : ℕ) → is_nan (door_value cumulus t x b) ≡ false)
  door-never-nan = (reading-number t x, value-number t x)

-- A zero gives positive zero.
pub door-zero-is-positive : float_of (pos 0) ≡ positive_zero
door-zero-is-positive = zero-positive

-- The float 313.269 lies above 313269 thousandths, and the one before it below; the kit's model writes them 1377771632487039·2⁻⁴² and 5511086529948155·2⁻⁴⁴.
pub door-floats-at-the-fine-cut : (at_most_thousandths (fin false 1377771632487039 (negsuc 41)) (pos 313_269) ≡ false) × (at_most_thousandths (fin false 5511086529948155 (negsuc 43)) (pos 313_269) ≡ true)
unfolding at_most_thousandths
door-floats-at-the-fine-cut = (refl, refl)

-- ════ Two roundings
-- A half of a reading goes away from zero: 0.5, which the kit's model writes 1·2⁻¹, reads as 1, and -0.5 as -1. So what is promised of moved tables cannot
-- be promised here: a move of 1 takes the reading 0.5 to -0.5, which reads as -1 where 0 would answer as before.
pub door-half-across-zero : (whole_of (fin false 1 (negsuc 0)) ≡ pos 1) × (whole_of (fin true 1 (negsuc 0)) ≡ negsuc 0)
unfolding whole_of nearest_away
door-half-across-zero = (refl, refl)

-- A half of an answer goes to the even float: 2⁵³ + 1 lies half-way between the floats 2⁵³ and 2⁵³ + 2, and becomes 2⁵³.
pub door-answers-half-to-even : nearest_even (pos 9007199254740993) ≡ fin false 1 (pos 53)
unfolding of_int
door-answers-half-to-even = refl
