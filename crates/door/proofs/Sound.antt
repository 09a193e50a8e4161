-- A state of floats at a sound table, by the steps that the code has.
--   refuses        what the code refuses by is the door's answer
--   done           where no step refuses the door gives 0,
--   state-is       the whole readings are the rounded ones,
--   near, within   and alpha is near, and they lie within the reaches of its piece
use mathlib.Core.Path.{◌≡◌, sym, ◌∙◌, ap, ap₂}
use mathlib.Core.Bool.{true}
use mathlib.Core.List.{List, ◌++◌}
use Prim.Native.Nat.{ℕ, ◌≤◌, ◌<◌}
use native.Mathlib.Decide.{dec_lt}
use native.Mathlib.Omega.{arith}
use lib.IntN.{ℤ, pos, nat_abs}
use lib.ListN.{length, take, get_or}
use lib.Ieee.{Float}
use Rattle.std.proofs.Common.{Result, Ok}
use Rattle.polynomials.specs.Sum.{listed}
use Rattle.polynomials.proofs.Listed.{get_or-listed, listed-ext}
use Rattle.layout.specs.Shape.{cumulus, table_length}
use Rattle.layout.specs.Numbers.{limits_room}
use Rattle.layout.specs.Limits.{good}
use Rattle.layout.specs.Sound.{light, reach}
use Rattle.layout.specs.Refusals.{first, ◌when◌}
use Rattle.layout.specs.Reading.{readings, inside}
use Rattle.laws.proofs.LimitLaws.{limits-take, lowest-same, highest-same}
use Rattle.laws.proofs.Refused.{refused-positive}
use Rattle.tables.proofs.Steps.{first-apart}
use Rattle.rounding.specs.Reading.{step_of}
use Rattle.rounding.specs.Ready.{Near}
use Rattle.rounding.specs.declared.Unread.{Unread}
use Rattle.rounding.specs.declared.Unread.TheVariants.{NotFinite, Outside}
use Rattle.door.specs.declared.Unanswered.{Unanswered}
use Rattle.door.specs.declared.Unanswered.TheVariants.{Table, Reading}
use Rattle.door.specs.Steps.{number_of, whole_in, is_not_finite, is_outside, steps_of, number_given, back_given, Refuses}
use Rattle.door.specs.Door.{rounded_all, step_at, not_finites, outsides, steps_number, door_number, reading_for, true_piece, refused_with, door_answer}
use Rattle.door.proofs.Numbers.{door-sound, past-finite, back-agreed, refused-answer}
use Rattle.door.proofs.Wholes.{step-finite, step-whole, rounded-inside}
use Rattle.door.proofs.Pieces.{near-alpha, within-piece}

number-pos : (why : Unanswered) → Refuses why → 0 < number_given why
number-pos (Table r) h = refused-positive r
number-pos (Reading i NotFinite) h = omega arith
number-pos (Reading i (Outside x)) h = omega arith

module _ (t : List ℤ) (x : ℕ → Float) (long : length t ≡ table_length cumulus) (sound : (good cumulus t ≡ true) × (light cumulus t ≡ true)) (numbers : List ℤ) (o : numbers ≡ take limits_room t) (steps : List (Result ℤ Unread)) (e : steps ≡ listed cumulus.variables (step_at cumulus numbers x)) where
  abbrev s : ℕ → Result ℤ Unread
  s = step_at cumulus t x

  step_is : (i : ℕ) → i < cumulus.variables → steps_of steps i ≡ s i
  step_is i h =
      ap (λ l. steps_of l i) e ∙ get_or-listed cumulus.variables (step_at cumulus numbers x) i (Ok (pos 0)) h ∙ ap (λ l. step_at cumulus l x i) o
      ∙ ap₂ (step_of (x i)) (lowest-same (limits-take cumulus t) i h) (highest-same (limits-take cumulus t) i h)

  number_is : steps_number cumulus (steps_of steps) ≡ door_number cumulus t x
  number_is =
      ap₂ (λ a b. first (a ++ b)) (listed-ext (0 when true) cumulus.variables _ _ (λ i h. ap (λ r. number_of cumulus i r when is_not_finite r) (step_is i h)))
      (listed-ext (0 when true) cumulus.variables _ _ (λ i h. ap (λ r. number_of cumulus i r when is_outside r) (step_is i h)))
      ∙ sym (door-sound t x long sound)

  pub refuses : (why : Unanswered) → Refuses why → steps_number cumulus (steps_of steps) ≡ number_given why → reading_for cumulus (steps_of steps) (number_given why) ≡ back_given why
      → refused_with (number_given why) (back_given why) ≡ door_answer t x
  refuses why h n b =
      refused-answer t x (number_given why) (back_given why) (sym number_is ∙ n) (number-pos why h) (sym (back-agreed (steps_of steps) s step_is (number_given why)) ∙ b)

  module _ (z : steps_number cumulus (steps_of steps) ≡ 0) where
    pub done : door_number cumulus t x ≡ 0
    done = sym number_is ∙ z

    none : first (not_finites cumulus cumulus.variables s ++ outsides cumulus cumulus.variables s) ≡ 0
    none = sym (door-sound t x long sound) ∙ done

    finite : first (not_finites cumulus cumulus.variables s) ≡ 0
    finite = go (dec_lt 0 (first (not_finites cumulus cumulus.variables s)))
      where
        go : Dec (0 < first (not_finites cumulus cumulus.variables s)) → first (not_finites cumulus cumulus.variables s) ≡ 0
        go (no b) = omega arith
        go (yes b) =
            let apart : first (not_finites cumulus cumulus.variables s) ≡ 0 → ⊥ = λ q. omega arith in
            absurd (omega (arith, none, first-apart (not_finites cumulus cumulus.variables s) (outsides cumulus cumulus.variables s) apart))

    inside-all : first (outsides cumulus cumulus.variables s) ≡ 0
    inside-all = sym (past-finite s cumulus.variables finite) ∙ none

    in-limits : (i : ℕ) → i < cumulus.variables → inside cumulus t (rounded_all x) i ≡ true
    in-limits = rounded-inside t x finite inside-all

    pub near : Near (x 0)
    near = near-alpha t x sound.0 in-limits (step-finite t x finite inside-all 0 (omega arith))

    pub state-is : (state : List ℤ) → state ≡ listed cumulus.variables (λ i. whole_in (steps_of steps i)) → (i : ℕ) → i < cumulus.variables → readings state i ≡ rounded_all x i
    state-is state q i h =
        ap (λ l. get_or l i (pos 0)) q ∙ get_or-listed cumulus.variables (λ k. whole_in (steps_of steps k)) i (pos 0) h
        ∙ ap whole_in (step_is i h ∙ step-whole t x finite inside-all i h)

    pub within : (i : ℕ) → i < cumulus.variables → nat_abs (rounded_all x i) ≤ reach cumulus t (true_piece cumulus t (x 0)) i
    within = within-piece t x sound.0 in-limits
