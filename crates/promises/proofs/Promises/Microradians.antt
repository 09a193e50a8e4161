-- The published table read in microradians: `fine_number` is given back, and `fine_output` is what the lent space holds afterwards. Answers are whole units
-- of 10⁻⁹; `fine_value` is the printed model at the readings, in units of 10⁻²⁹, the same as `model_value` is at milliradians.
use mathlib.Core.Path.{◌≡◌, refl, sym, subst}
use mathlib.Core.Logic.{◌↔◌}
use mathlib.Core.Bool.{true, false}
use mathlib.Core.List.{List}
use Prim.Native.Nat.{ℕ, ◌*◌, ◌^◌, ◌≤◌, ◌<◌}
use native.Mathlib.Omega.{arith}
use lib.IntN.{ℤ, pos, nat_abs, ◌-ℤ◌, ◌*ℤ◌}
use lib.ListN.{length, get_or}
use lib.Signed.{◌≤ℤ◌}
use Rattle.whole.specs.Nearest.{IsNearestAway}
use Rattle.whole.proofs.Nearest.{nearest-is}
use Rattle.layout.specs.declared.Model.TheVariants.{Cumulus}
use Rattle.layout.specs.Shape.{cumulus}
use Rattle.layout.specs.Limits.{lowest, highest}
use Rattle.layout.specs.Refusals.{done, wrong_output, outside}
use Rattle.layout.specs.Reading.{inside, read_number, read_output}
use Rattle.laws.proofs.Accepted.{same-exactly}
use Rattle.cumulus_page.specs.Model.{microradians, coefficient_at, fine_value}
use Rattle.cumulus_page.specs.Published.{published}
use Rattle.microradians.specs.Fixed.{◌⊛◌}
use Rattle.microradians.specs.Answer.{fine_limits, fine_number, fine_output}
use Rattle.microradians.proofs.Answers.{wrong-room, refused, room-number, accepted}
use Rattle.microradians.proofs.Exact.{near-followed, near-counted, near-asked}
use Rattle.microradians.proofs.Whole.{lowest-whole, highest-whole, number-whole, near-whole}
use Rattle.promises.proofs.Promises.Tables.{every-model-is-well-formed, inside-rule, outside-named}

-- A reading is inside where it is in the envelope times 1000, ends included.
pub fine-inside-rule : (x : ℕ → ℤ) (i : ℕ) → i < cumulus.variables → (inside cumulus fine_limits x i ≡ true) ↔ (((pos 1000 *ℤ lowest cumulus published i) ≤ℤ x i) × (x i ≤ℤ (pos 1000 *ℤ highest cumulus published i)))
fine-inside-rule x i h =
    let r = inside-rule cumulus fine_limits x i in (
      λ e. (subst (λ z. z ≤ℤ x i) (lowest-whole i h) (r.0 e).0, subst (λ z. x i ≤ℤ z) (highest-whole i h) (r.0 e).1),
      λ g. r.1 (subst (λ z. z ≤ℤ x i) (sym (lowest-whole i h)) g.0, subst (λ z. x i ≤ℤ z) (sym (highest-whole i h)) g.1),
    )

-- Each product is rounded to the nearest unit, a half away from zero, as a reading with floats is to the nearest milliradian.
pub fine-products-to-nearest : (a r : ℤ) → IsNearestAway microradians.radian (a *ℤ r) (a ⊛ r)
fine-products-to-nearest a r = nearest-is microradians.radian (omega arith) (a *ℤ r)

module _ (x : ℕ → ℤ) (out : List ℤ) where
  -- With room for more or fewer than six numbers: 2, and nothing is written.
  pub fine-needs-room : (length out ≡ cumulus.blocks → ⊥) → (fine_number x out ≡ wrong_output) × (fine_output x out ≡ out)
  fine-needs-room h = let w = wrong-room x out h in (sym w.0, sym w.1)

  -- With room, a state is read exactly where all its readings are inside,
  pub fine-read-exactly : length out ≡ cumulus.blocks → (fine_number x out ≡ done) ↔ ((i : ℕ) → i < cumulus.variables → inside cumulus fine_limits x i ≡ true)
  fine-read-exactly six = (λ e. ((accepted x out).0 e).1, (accepted x out).1 six)

  -- and 11 to 15 are given exactly for the first reading that is outside.
  pub fine-outside-is-named : length out ≡ cumulus.blocks → (i : ℕ) → i < cumulus.variables
      → (fine_number x out ≡ outside cumulus i) ↔ (((k : ℕ) → k < i → inside cumulus fine_limits x k ≡ true) × (inside cumulus fine_limits x i ≡ false))
  fine-outside-is-named six i h = same-exactly (room-number x out six) (outside-named cumulus (every-model-is-well-formed Cumulus) fine_limits x i h)

  -- A refusal writes nothing into the lent space.
  pub refused-fine-read-writes-nothing : 0 < fine_number x out → fine_output x out ≡ out
  refused-fine-read-writes-nothing h = sym (refused x out (fine_number x out) refl (λ e. omega arith)).1

  -- No answer is farther than 10⁻⁷ from what the printed polynomials come to at its readings,
  pub fine-answers-within-asked : fine_number x out ≡ done → (b : ℕ) → b < cumulus.blocks
      → nat_abs (get_or (fine_output x out) b (pos 0) *ℤ pos (10 ^ 20) -ℤ fine_value (coefficient_at b) x) ≤ 10 ^ 22
  fine-answers-within-asked = near-asked x out

  -- nor than half a unit for each of 37 products, 18.5 × 10⁻⁹,
  pub fine-answers-within-halves : fine_number x out ≡ done → (b : ℕ) → b < cumulus.blocks
      → 2 * nat_abs (get_or (fine_output x out) b (pos 0) *ℤ pos (10 ^ 20) -ℤ fine_value (coefficient_at b) x) ≤ 37 * 10 ^ 20
  fine-answers-within-halves = near-counted x out

  -- nor, since a reading reaches no farther than its limits, than 6.91 × 10⁻⁹.
  pub fine-answers-within-reaches : fine_number x out ≡ done → (b : ℕ) → b < cumulus.blocks
      → nat_abs (get_or (fine_output x out) b (pos 0) *ℤ pos (10 ^ 20) -ℤ fine_value (coefficient_at b) x) ≤ 691 * 10 ^ 18
  fine-answers-within-reaches = near-followed x out

-- At 1000 times whole milliradians, with room, the number given back is that of the whole-number read,
pub fine-number-of-whole : (x : ℕ → ℤ) (out : List ℤ) → length out ≡ cumulus.blocks → fine_number (λ i. pos 1000 *ℤ x i) out ≡ read_number cumulus published x out
fine-number-of-whole = number-whole

-- and each answer is within the same 6.91 × 10⁻⁹ of that read's.
pub fine-near-whole : (x : ℕ → ℤ) (out : List ℤ) → fine_number (λ i. pos 1000 *ℤ x i) out ≡ done → (b : ℕ) → b < cumulus.blocks
    → nat_abs (get_or (fine_output (λ i. pos 1000 *ℤ x i) out) b (pos 0) *ℤ pos (10 ^ 8) -ℤ get_or (read_output cumulus published x out) b (pos 0)) ≤ 691 * 10 ^ 6
fine-near-whole = near-whole
