-- What the contract of the door says, in the words of the paper. The contract gives every answer by `door_answer`, whose parts these are.
--   number-told        the number, by the tests in their order
--   number_read        five finite readings are given the number of the whole-number read of the rounded readings
--   value-in-piece     and the six floats are those of the piece of alpha as given, at the rounded readings
--   value_read         which are those of the whole-number read where both choose the same piece
--   zero-on-refusal    the six on a refusal
--   reading_step, reading-elsewhere   the place that hands a reading back
--   value-number, reading-number   none of the seven floats is a NaN
--   one_answer         the contract allows one answer
use Rattle.std.proofs.Common.{Err}
use mathlib.Core.Path.{◌≡◌, refl, sym, ◌∙◌, ap}
use mathlib.Core.Bool.{Bool, true, false, not, cond}
use mathlib.Core.List.{List, ◌∷◌, ◌++◌}
use Prim.Native.Nat.{ℕ, ◌-◌, ◌<◌}
use native.Mathlib.Decide.{dec_lt}
use native.Mathlib.Omega.{arith}
use borrow.Author.Tests.{not-false, eq-eqb}
use lib.Dec.{eqb}
use lib.IntN.{ℤ, pos}
use lib.ListN.{length, get_or}
use lib.Ieee.{Float, is_nan}
use lib.Ieee.Scale.{finite}
use Rattle.polynomials.specs.Sum.{listed}
use Rattle.polynomials.specs.Groups.{total}
use Rattle.polynomials.proofs.Listed.{length-listed, get_or-listed}
use Rattle.layout.specs.Shape.{cumulus, table_length}
use Rattle.layout.specs.Limits.{lowest, highest, good}
use Rattle.layout.specs.Sound.{light}
use Rattle.layout.specs.Refusals.{Refusal, ◌when◌, first, wrong_table, wrong_output, bad_limits, too_heavy, outside}
use Rattle.layout.specs.Blocks.{coefficient}
use Rattle.layout.specs.Reading.{inside, piece_at, values, read_number, read_output}
use Rattle.laws.proofs.Refused.{read-given, read_kept}
use Rattle.limits.proofs.Firsts.{first_past, first-none, first-at}
use Rattle.tables.proofs.Steps.{first-apart}
use Rattle.rounding.specs.Answer.{float_of}
use Rattle.rounding.specs.declared.Unread.TheVariants.{Outside}
use Rattle.rounding.proofs.Answers.{zero-positive, never-nan}
use Rattle.door.specs.declared.Answer.{Answer}
use Rattle.door.specs.Steps.{positive_zero, not_finite, handed_back}
use Rattle.door.specs.Door.{rounded_all, step_at, not_finites, outsides, door_number, for_outside, reading_for, door_reading, true_piece, float_at, door_value, door_answer}
use Rattle.door.proofs.Firsts.{Found, none, at, found}
use Rattle.door.proofs.Numbers.{refused_not_finite, refused_outside, named-not-finite, named-outside, past-finite, back_below, back_above, back-given, zero-refused, value-done, reading-is}
use Rattle.door.proofs.Told.{not-finite-told, outside_told, outside-step, number_step, first-same, outside-found}

-- the tests of the table give no number of a reading outside
past-tests : (a b c : Bool) (n i : ℕ) → cond a wrong_table (cond b bad_limits (cond c too_heavy n)) ≡ outside cumulus i → n ≡ outside cumulus i
past-tests true b c n i e = absurd (omega arith)
past-tests false true c n i e = absurd (omega arith)
past-tests false false true n i e = absurd (omega arith)
past-tests false false false n i e = e

module _ (t : List ℤ) (x : ℕ → Float) where
  abbrev plain_not_finite : ℕ → Refusal
  plain_not_finite i = not_finite cumulus i when not (finite (x i))

  abbrev plain_outside : ℕ → Refusal
  plain_outside i = outside cumulus i when not (inside cumulus t (rounded_all x) i)

  module _ (n : ℕ) where
    not-finites-same : first (not_finites cumulus n (step_at cumulus t x)) ≡ first (listed n plain_not_finite)
    not-finites-same =
        first-same (refused_not_finite (step_at cumulus t x)) plain_not_finite n (λ i h. not-finite-told (x i) (lowest cumulus t i) (highest cumulus t i)) (λ i e. named-not-finite i (step_at cumulus t x i) e)

    outsides-same : ((i : ℕ) → i < n → finite (x i) ≡ true) → first (outsides cumulus n (step_at cumulus t x)) ≡ first (listed n plain_outside)
    outsides-same f =
        first-same (refused_outside (step_at cumulus t x)) plain_outside n (λ i h. outside_told (x i) (lowest cumulus t i) (highest cumulus t i) (f i h)) (λ i e. named-outside i (step_at cumulus t x i) e)

    tested : first (not_finites cumulus n (step_at cumulus t x) ++ outsides cumulus n (step_at cumulus t x)) ≡ first (listed n plain_not_finite ++ listed n plain_outside)
    tested = go (found plain_not_finite n)
      where
        go : Found plain_not_finite n → first (not_finites cumulus n (step_at cumulus t x) ++ outsides cumulus n (step_at cumulus t x)) ≡ first (listed n plain_not_finite ++ listed n plain_outside)
        go (none all) =
            past-finite (step_at cumulus t x) n (not-finites-same ∙ first-none plain_not_finite n all) ∙ outsides-same (λ i h. not-false (finite (x i)) (all i h))
            ∙ sym (first_past plain_not_finite n all (listed n plain_outside))
        go (at k b before one) =
            let apart : first (listed n plain_not_finite) ≡ 0 → ⊥ = λ z. omega (arith, first-at plain_not_finite k before one n b) in
            first-apart (not_finites cumulus n (step_at cumulus t x)) (outsides cumulus n (step_at cumulus t x)) (λ z. apart (sym not-finites-same ∙ z)) ∙ not-finites-same
            ∙ sym (first-apart (listed n plain_not_finite) (listed n plain_outside) apart)

  -- The number is the first of these: the table's length, its limits, its weights, then over all five a float that is not finite, then a rounded
  -- reading outside its limits.
  pub number-told : door_number cumulus t x
      ≡ first
      ((wrong_table when not (eqb (length t) (table_length cumulus)))
      ∷ (bad_limits when not (good cumulus t))
      ∷ (too_heavy when not (light cumulus t))
      ∷ (listed cumulus.variables (λ i. not_finite cumulus i when not (finite (x i))) ++ listed cumulus.variables (λ i. outside cumulus i when not (inside cumulus t (rounded_all x) i))))
  unfolding door_number first
  number-told =
      ap (λ n. cond (not (eqb (length t) (table_length cumulus))) wrong_table (cond (not (good cumulus t)) bad_limits (cond (not (light cumulus t)) too_heavy n))) (tested cumulus.variables)

  -- six zeros, as the whole-number read is given them
  abbrev zeros : List ℤ
  zeros = listed cumulus.blocks (λ b. pos 0)

  -- An accepted reading is answered in the piece of alpha as given, at the rounded readings.
  pub value-in-piece : door_number cumulus t x ≡ 0 → (b : ℕ) → door_value cumulus t x b ≡ float_of (total (coefficient cumulus t b (true_piece cumulus t (x 0))) (rounded_all x))
  value-in-piece = value-done t x

  get_or-values : (b : ℕ) → b < cumulus.blocks → get_or (values cumulus t (rounded_all x)) b (pos 0) ≡ total (coefficient cumulus t b (piece_at cumulus t (rounded_all x))) (rounded_all x)
  unfolding values
  get_or-values b h = get_or-listed cumulus.blocks (λ k. total (coefficient cumulus t k (piece_at cumulus t (rounded_all x))) (rounded_all x)) b (pos 0) h

  module _ (f : (i : ℕ) → i < cumulus.variables → finite (x i) ≡ true) where
    -- Five finite readings are given the number of the whole-number read at the rounded readings.
    pub number_read : door_number cumulus t x ≡ read_number cumulus t (rounded_all x) zeros
    unfolding door_number read_number first
    number_read =
        let rest : ℕ → ℕ = λ n. cond (not (good cumulus t)) bad_limits (cond (not (light cumulus t)) too_heavy n) in
        ap (λ n. cond (not (eqb (length t) (table_length cumulus))) wrong_table (rest n))
        (past-finite (step_at cumulus t x) cumulus.variables (not-finites-same cumulus.variables ∙ first-none plain_not_finite cumulus.variables (λ i h. ap not (f i h))) ∙ outsides-same cumulus.variables f)
        ∙ ap (λ q. cond (not (eqb (length t) (table_length cumulus))) wrong_table (cond (not q) wrong_output (rest (first (listed cumulus.variables plain_outside)))))
        (sym (eq-eqb (length zeros) cumulus.blocks (length-listed cumulus.blocks (λ b. pos 0))))

    -- And where both choose the same piece, each of the six floats is that of the number which the whole-number read leaves in six zeros.
    pub value_read : true_piece cumulus t (x 0) ≡ piece_at cumulus t (rounded_all x) → (b : ℕ) → b < cumulus.blocks → door_value cumulus t x b ≡ float_of (get_or (read_output cumulus t (rounded_all x) zeros) b (pos 0))
    value_read p b h = go (dec_lt 0 (door_number cumulus t x))
      where
        go : Dec (0 < door_number cumulus t x) → door_value cumulus t x b ≡ float_of (get_or (read_output cumulus t (rounded_all x) zeros) b (pos 0))
        go (no n) =
            let e : door_number cumulus t x ≡ 0 = omega arith in
            value-done t x e b ∙ ap (λ q. float_of (total (coefficient cumulus t b q) (rounded_all x))) p ∙ ap float_of (sym (get_or-values b h)) ∙ ap (λ l. float_of (get_or l b (pos 0))) (sym (read-given cumulus t (rounded_all x) zeros (sym number_read ∙ e)))
        go (yes n) =
            zero-refused t x (door_number cumulus t x) refl n b ∙ sym zero-positive ∙ ap float_of (sym (get_or-listed cumulus.blocks (λ k. pos 0) b (pos 0) h))
            ∙ ap (λ l. float_of (get_or l b (pos 0))) (sym (read_kept cumulus t (rounded_all x) zeros (sym number_read) n))

  -- On a refusal the six are positive zero.
  pub zero-on-refusal : (door_number cumulus t x ≡ 0 → ⊥) → (b : ℕ) → door_value cumulus t x b ≡ positive_zero
  zero-on-refusal h = zero-refused t x (door_number cumulus t x) refl (omega (arith, h))

  -- Where the reading of variable i is refused as outside, its step carries it as given, and hands it back.
  pub reading_step : (i : ℕ) → i < cumulus.variables → door_number cumulus t x ≡ outside cumulus i → (step_at cumulus t x i ≡ Err (Outside (x i))) × (door_reading cumulus t x ≡ handed_back (step_at cumulus t x i))
  unfolding door_number first
  reading_step i h e =
      let step = outside-found (step_at cumulus t x) cumulus.variables i (omega arith) (past-tests (not (eqb (length t) (table_length cumulus))) (not (good cumulus t)) (not (light cumulus t)) _ i e) in
      (outside-step (x i) (lowest cumulus t i) (highest cumulus t i) step, reading-is t x (outside cumulus i) e ∙ back-given (step_at cumulus t x) i h)

  -- With every other number, 0 included, positive zero is handed back.
  pub reading-elsewhere : ((i : ℕ) → i < cumulus.variables → door_number cumulus t x ≡ outside cumulus i → ⊥) → door_reading cumulus t x ≡ positive_zero
  reading-elsewhere h = reading-is t x (door_number cumulus t x) refl ∙ go (dec_lt (door_number cumulus t x) (outside cumulus 0)) (dec_lt (door_number cumulus t x) (outside cumulus cumulus.variables))
    where
      go : Dec (door_number cumulus t x < outside cumulus 0) → Dec (door_number cumulus t x < outside cumulus cumulus.variables) → reading_for cumulus (step_at cumulus t x) (door_number cumulus t x) ≡ positive_zero
      go (yes a) b = back_below (step_at cumulus t x) (door_number cumulus t x) a
      go (no a) (no b) = back_above (step_at cumulus t x) (door_number cumulus t x) (omega arith)
      go (no a) (yes b) = absurd (h (door_number cumulus t x - outside cumulus 0) (omega arith) (omega arith))

  -- None of the seven floats is a NaN.
  pub value-number : (b : ℕ) → is_nan (door_value cumulus t x b) ≡ false
  unfolding door_value is_nan
  value-number b = go (eqb (door_number cumulus t x) 0)
    where
      go : (c : Bool) → is_nan (cond c (float_at cumulus t (true_piece cumulus t (x 0)) (rounded_all x) b) positive_zero) ≡ false
      go true = never-nan (total (coefficient cumulus t b (true_piece cumulus t (x 0))) (rounded_all x))
      go false = refl

  pub reading-number : is_nan (door_reading cumulus t x) ≡ false
  unfolding door_reading is_nan
  reading-number = go (for_outside cumulus (door_number cumulus t x)) (door_number cumulus t x - outside cumulus 0)
    where
      go : (c : Bool) (i : ℕ) → is_nan (cond c (handed_back (step_at cumulus t x i)) positive_zero) ≡ false
      go true i = number_step (x i) (lowest cumulus t i) (highest cumulus t i)
      go false i = refl

  -- Any two answers that the contract allows are equal.
  pub one_answer : (a b : Answer) → a ≡ door_answer t x → b ≡ door_answer t x → a ≡ b
  one_answer a b e g = e ∙ sym g
