-- Which number the read gives back, what it leaves, and what is known of readings that it accepts.
--   wrong-room, room-number   the output's length is tested first, then the readings
--   refused, number-given     what the output holds then: as it was, or the answers
--   accepted                  with room for six: none is refused exactly where all readings are inside
--   within-reach, all_near    an accepted reading is within the reach of its piece, and at most a radian
--   piece-given               the answers, block by block
use mathlib.Core.Path.{◌≡◌, refl, sym, ◌∙◌, ap}
use mathlib.Core.Bool.{true, false, not, cond}
use mathlib.Core.List.{List, map}
use Prim.Native.Nat.{ℕ, ◌≤◌, ◌<◌}
use native.Mathlib.Nat as N
use native.Mathlib.Omega.{arith}
use borrow.Author.Tests.{eq-eqb, ne_eqb, eqb-true, leb-true, not-false}
use lib.Dec.{leb}
use lib.IntN.{ℤ, nat_abs}
use lib.ListN.{length, get_or}
use Rattle.polynomials.specs.Sum.{listed}
use Rattle.layout.specs.Shape.{cumulus}
use Rattle.layout.specs.Limits.{every}
use Rattle.layout.specs.Blocks.{Piece, low, high, piece}
use Rattle.layout.specs.Sound.{reach}
use Rattle.layout.specs.Refusals.{◌when◌, first, unless_refused, done, wrong_output, outside}
use Rattle.layout.specs.Reading.{inside, piece_at}
use Rattle.laws.proofs.Tests.{every-all}
use Rattle.laws.proofs.Reaches.{inside-reach}
use Rattle.laws.proofs.Refused.{first-skip, first-hit, first-none, refused_readings, length-refused_readings, get_or-refused_readings}
use Rattle.laws.proofs.Accepted.{first-passed, first_done}
use Rattle.cumulus_page.specs.Model.{coefficients, coefficient_at, microradians}
use Rattle.microradians.specs.Answer.{fine_limits, answer_in, fine_answers, fine_number, fine_output}
use Rattle.microradians.specs.Ready.{AllNear}

module _ (x : ℕ → ℤ) (out : List ℤ) where
  pub number-given : fine_number x out ≡ done → fine_output x out ≡ fine_answers x
  unfolding fine_output
  number-given e = ap (λ n. unless_refused n (fine_answers x) out) e

  pub refused : (n : ℕ) → fine_number x out ≡ n → (n ≡ done → ⊥) → (n ≡ fine_number x out) × (out ≡ fine_output x out)
  unfolding fine_output
  refused n e h = (sym e, sym (ap (λ b. cond b (fine_answers x) out) (ne_eqb (fine_number x out) done (λ d. h (sym e ∙ d)))))

  pub wrong-room : (length out ≡ cumulus.blocks → ⊥) → (wrong_output ≡ fine_number x out) × (out ≡ fine_output x out)
  unfolding fine_number
  wrong-room h = refused wrong_output (first-hit wrong_output _ (ne_eqb (length out) cumulus.blocks h)) (λ e. omega arith)

  pub room-number : length out ≡ cumulus.blocks → fine_number x out ≡ first (refused_readings cumulus fine_limits x)
  unfolding fine_number
  room-number e = first-skip wrong_output _ (eq-eqb (length out) cumulus.blocks e)

  tested : (i : ℕ) → i < cumulus.variables → get_or (refused_readings cumulus fine_limits x) i (done when false) ≡ outside cumulus i when not (inside cumulus fine_limits x i)
  tested = get_or-refused_readings cumulus fine_limits x (done when false)

  pub accepted : (fine_number x out ≡ done → (length out ≡ cumulus.blocks) × ((i : ℕ) → i < cumulus.variables → inside cumulus fine_limits x i ≡ true))
      × (length out ≡ cumulus.blocks → ((i : ℕ) → i < cumulus.variables → inside cumulus fine_limits x i ≡ true) → fine_number x out ≡ done)
  unfolding fine_number
  accepted = (
    λ e. let p = first-passed 1 _ _ e in (eqb-true (length out) cumulus.blocks p.0, λ i h. all p.1 i h),
    λ six h. room-number six ∙ first-none (done when false) (refused_readings cumulus fine_limits x) (λ k m. let l : k < cumulus.variables = omega (arith, length-refused_readings cumulus fine_limits x) in ap (λ r. r.holds) (tested k l) ∙ ap not (h k l)),
  )
    where
      all : first (refused_readings cumulus fine_limits x) ≡ done → (i : ℕ) → i < cumulus.variables → inside cumulus fine_limits x i ≡ true
      all e i h =
          not-false (inside cumulus fine_limits x i)
          (sym (ap (λ r. r.holds) (tested i h)) ∙ first_done (done when false) (refused_readings cumulus fine_limits x) (λ k m. rw (tested k (omega (arith, length-refused_readings cumulus fine_limits x))) (omega arith)) e i (omega (arith, length-refused_readings cumulus fine_limits x)))

  -- ════ readings that are accepted
  pub within-reach : fine_number x out ≡ done → (i : ℕ) → i < cumulus.variables → nat_abs (x i) ≤ reach cumulus fine_limits (piece_at cumulus fine_limits x) i
  within-reach e i h = inside-reach cumulus fine_limits x i ((accepted.0 e).1 i h)

reaches-tested : every 2 (λ n. every cumulus.variables (λ i. leb (reach cumulus fine_limits (piece n) i) microradians.radian)) ≡ true
unfolding every
reaches-tested = refl

pub reach_near : (p : Piece) (i : ℕ) → i < cumulus.variables → reach cumulus fine_limits p i ≤ microradians.radian
reach_near low i h = leb-true (reach cumulus fine_limits low i) microradians.radian (every-all cumulus.variables _ (every-all 2 _ reaches-tested 0 (omega arith)) i h)
reach_near high i h = leb-true (reach cumulus fine_limits high i) microradians.radian (every-all cumulus.variables _ (every-all 2 _ reaches-tested 1 (omega arith)) i h)

module _ (x : ℕ → ℤ) (out : List ℤ) where
  pub all_near : fine_number x out ≡ done → AllNear x
  all_near e i h = N.le_trans (within-reach x out e i h) (reach_near (piece_at cumulus fine_limits x) i h)

  pub piece-given : fine_number x out ≡ done → (n : ℕ) → piece n ≡ piece_at cumulus fine_limits x → listed cumulus.blocks (λ b. answer_in (piece n) (coefficient_at b) x) ≡ fine_output x out
  unfolding listed
  piece-given e n h = ap (λ p. map (λ C. answer_in p C x) coefficients) h ∙ sym (number-given x out e)
