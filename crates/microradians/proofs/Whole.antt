-- At 1000 times a state of whole milliradians.
--   lowest-whole, highest-whole   the limits are the published ones times 1000
--   number-whole  the same number is given back as by the whole-number read of the published table
--   near-whole    and each answer is within the same bound of that read's
use mathlib.Core.Path.{◌≡◌, refl, sym, ◌∙◌, ap, ap₂}
use mathlib.Core.Bool.{not, ◌&&◌}
use mathlib.Core.List.{List}
use Prim.Native.Nat.{ℕ, ◌*◌, ◌^◌, ◌≤◌, ◌<◌}
use native.Mathlib.Omega.{arith}
use lib.IntN.{ℤ, pos, nat_abs, ◌-ℤ◌, ◌*ℤ◌}
use lib.ListN.{length, get_or}
use lib.Signed.{le_z, ◌≤ℤ◌}
use Rattle.whole.proofs.Identity.{quote, quote-pos, by, ring2}
use Rattle.whole.proofs.Linear.{zarith}
use Rattle.whole.proofs.Magnitudes.{nat_abs-*}
use Rattle.polynomials.specs.Sum.{listed}
use Rattle.polynomials.proofs.Listed.{get_or-listed, listed-ext}
use Rattle.layout.specs.Shape.{cumulus}
use Rattle.layout.specs.Limits.{lowest, highest}
use Rattle.layout.specs.Refusals.{◌when◌, first, done, outside}
use Rattle.layout.specs.Reading.{inside, read_number, read_output}
use Rattle.laws.proofs.Tests.{true-iff, le_z-fact, fact-le_z}
use Rattle.cumulus_page.specs.Model.{coefficient_at, model_value, fine_value}
use Rattle.cumulus_page.specs.Published.{published}
use Rattle.cumulus_page.proofs.Envelope.{read_number_lem, read-inside}
use Rattle.cumulus_page.proofs.Model.{read-model}
use Rattle.cumulus_page.proofs.Units.{fine-value}
use Rattle.microradians.specs.Answer.{fine_limits, fine_number, fine_output}
use Rattle.microradians.proofs.Answers.{room-number, accepted}
use Rattle.microradians.proofs.Exact.{near-followed}

-- ════ limits and readings, both times 1000
times-le : (a b : ℤ) → (pos 1000 *ℤ a) ≤ℤ (pos 1000 *ℤ b) → a ≤ℤ b
times-le a b = ring2 a b (λ ρ e f. simp (quote, quote-pos ρ, e, f) (omega zarith))

le-times : (a b : ℤ) → a ≤ℤ b → (pos 1000 *ℤ a) ≤ℤ (pos 1000 *ℤ b)
le-times a b = ring2 a b (λ ρ e f. simp (quote, quote-pos ρ, e, f) (omega zarith))

same_test : (a b : ℤ) → le_z (pos 1000 *ℤ a) (pos 1000 *ℤ b) ≡ le_z a b
same_test a b = true-iff _ _ (λ e. fact-le_z (times-le a b (le_z-fact e))) (λ e. fact-le_z (le-times a b (le_z-fact e)))

lowest-all : listed cumulus.variables (lowest cumulus fine_limits) ≡ listed cumulus.variables (λ i. pos 1000 *ℤ lowest cumulus published i)
unfolding listed published
lowest-all = refl

highest-all : listed cumulus.variables (highest cumulus fine_limits) ≡ listed cumulus.variables (λ i. pos 1000 *ℤ highest cumulus published i)
unfolding listed published
highest-all = refl

one_of : (f g : ℕ → ℤ) → listed cumulus.variables f ≡ listed cumulus.variables g → (i : ℕ) → i < cumulus.variables → f i ≡ g i
one_of f g e i h =
    sym (get_or-listed cumulus.variables f i (pos 0) h) ∙ ap (λ r. get_or r i (pos 0)) e ∙ get_or-listed cumulus.variables g i (pos 0) h

pub lowest-whole : (i : ℕ) → i < cumulus.variables → lowest cumulus fine_limits i ≡ pos 1000 *ℤ lowest cumulus published i
lowest-whole = one_of (lowest cumulus fine_limits) (λ i. pos 1000 *ℤ lowest cumulus published i) lowest-all

pub highest-whole : (i : ℕ) → i < cumulus.variables → highest cumulus fine_limits i ≡ pos 1000 *ℤ highest cumulus published i
highest-whole = one_of (highest cumulus fine_limits) (λ i. pos 1000 *ℤ highest cumulus published i) highest-all

module _ (x : ℕ → ℤ) where
  abbrev pub thousandfold : ℕ → ℤ
  thousandfold i = pos 1000 *ℤ x i

  inside-whole : (i : ℕ) → i < cumulus.variables → inside cumulus fine_limits thousandfold i ≡ inside cumulus published x i
  inside-whole i h =
      ap₂ ◌&&◌
      (ap (λ z. le_z z (thousandfold i)) (lowest-whole i h) ∙ same_test (lowest cumulus published i) (x i))
      (ap (le_z (thousandfold i)) (highest-whole i h) ∙ same_test (x i) (highest cumulus published i))

  pub number-whole : (out : List ℤ) → length out ≡ cumulus.blocks → fine_number thousandfold out ≡ read_number cumulus published x out
  number-whole out six =
      room-number thousandfold out six
      ∙ ap first (listed-ext (done when not (inside cumulus published x 0)) cumulus.variables _ _ (λ i h. ap (λ b. outside cumulus i when not b) (inside-whole i h)))
      ∙ sym (read_number_lem x out six)

  -- ════ the answers
  split : (a v : ℤ) → a *ℤ pos (10 ^ 20) -ℤ v *ℤ pos (1000 ^ 4) ≡ pos (10 ^ 12) *ℤ (a *ℤ pos (10 ^ 8) -ℤ v)
  split a v = ring2 a v (λ ρ e f. simp (quote, quote-pos ρ, e, f) (by _ _ _ tt))

  module _ (out : List ℤ) (e : fine_number thousandfold out ≡ done) (b : ℕ) (h : b < cumulus.blocks) where
    six : length out ≡ cumulus.blocks
    six = ((accepted thousandfold out).0 e).0

    read_at : get_or (read_output cumulus published x out) b (pos 0) ≡ model_value (coefficient_at b) x
    unfolding listed
    read_at =
        ap (λ r. get_or r b (pos 0)) (read-model x out six ((read-inside x out six).0 (sym (number-whole out six) ∙ e))).1
        ∙ get_or-listed cumulus.blocks (λ b. model_value (coefficient_at b) x) b (pos 0) h

    abbrev answer : ℤ
    answer = get_or (fine_output thousandfold out) b (pos 0)

    pub near-whole : nat_abs (answer *ℤ pos (10 ^ 8) -ℤ get_or (read_output cumulus published x out) b (pos 0)) ≤ 691 * 10 ^ 6
    near-whole =
        let d = answer *ℤ pos (10 ^ 8) -ℤ model_value (coefficient_at b) x in
        let same : nat_abs (answer *ℤ pos (10 ^ 20) -ℤ fine_value (coefficient_at b) thousandfold) ≡ 10 ^ 12 * nat_abs d =
        ap (λ w. nat_abs (answer *ℤ pos (10 ^ 20) -ℤ w)) (fine-value x b h) ∙ ap nat_abs (split answer (model_value (coefficient_at b) x)) ∙ nat_abs-* (pos (10 ^ 12)) d in
        rw read_at (omega (arith, same, near-followed thousandfold out e b h))
