-- The piece of a reading as it was given, where no step refuses.
--   piece-told    it is the low one exactly where the reading is at most the fine cut
--   near-alpha    the first reading is near, so that it can be held against thousandths
--   within-piece  the rounded readings are within the reaches of that piece
--   same-below, same_above, same_whole   where it is the piece of the rounded reading: off the cut and the number after it, and at whole readings
use mathlib.Core.Path.{◌≡◌, refl, sym, ◌∙◌, ap, subst}
use mathlib.Core.Logic.{◌↔◌}
use mathlib.Core.Bool.{Bool, true, false, cond}
use mathlib.Core.List.{List}
use Prim.Native.Nat.{ℕ, zero, suc, ◌≤◌, ◌<◌}
use native.Mathlib.Omega.{arith}
use lib.Dec.{T}
use lib.IntN.{ℤ, pos, nat_abs, ◌+ℤ◌, ◌*ℤ◌}
use lib.Signed.{le_z, ◌≤ℤ◌, ◌<ℤ◌}
use lib.Ieee.{Float}
use lib.Ieee.Scale.{finite}
use Rattle.whole.specs.Down.{thousand, rounded_down}
use Rattle.whole.proofs.Down.{down_is}
use Rattle.whole.proofs.Identity.{quote, quote-pos, ring2}
use Rattle.whole.proofs.Linear.{zarith}
use Rattle.whole.proofs.Order.{two-sided, from-two, ≤ℤ-trans, <ℤ-≤ℤ}
use Rattle.layout.specs.Shape.{cumulus}
use Rattle.layout.specs.Limits.{lowest, highest, cut, fine_cut, farthest_limit, good}
use Rattle.layout.specs.Blocks.{Piece, low, high}
use Rattle.layout.specs.Sound.{reach}
use Rattle.layout.specs.Reading.{inside, piece_at}
use Rattle.laws.proofs.Tests.{&&-left, &&-right, le_z-fact, fact-le_z}
use Rattle.laws.proofs.LimitLaws.{good-facts, lowest-within, highest-within}
use Rattle.laws.proofs.Reaches.{low-reach, high-reach, inside-reach}
use Rattle.rounding.specs.Value.{numerator, denominator}
use Rattle.rounding.specs.Ready.{Near}
use Rattle.rounding.proofs.Nearest.{near-reading}
use Rattle.rounding.proofs.Steps.{not-le}
use Rattle.thousandths.specs.Thousandths.{at_most_thousandths}
use Rattle.thousandths.proofs.Readings.{low-whole, high-whole, below-same, above_same, exact-whole}
use Rattle.door.specs.Door.{rounded_all, true_piece}

-- the pieces are two
abbrev HighPiece : Piece → Type 0
HighPiece low = ⊥
HighPiece high = Unit

low_told : (b : Bool) → cond b low high ≡ low → b ≡ true
low_told true e = refl
low_told false e = absurd (subst HighPiece e tt)

pub piece-told : (t : List ℤ) (x : Float) → (true_piece cumulus t x ≡ low) ↔ ((pos thousand *ℤ numerator x) ≤ℤ (fine_cut cumulus t *ℤ pos (denominator x)))
unfolding at_most_thousandths
piece-told t x = (λ e. le_z-fact (low_told (at_most_thousandths x (fine_cut cumulus t)) e), λ h. ap (λ b. cond b low high) (fact-le_z h))

-- from a lowest to a highest that are both in range
between-within : (l h z : ℤ) → nat_abs l ≤ farthest_limit → nat_abs h ≤ farthest_limit → l ≤ℤ z → z ≤ℤ h → nat_abs z ≤ farthest_limit
between-within l h z a b c d = from-two {r = z} (≤ℤ-trans (two-sided l a).0 c) (≤ℤ-trans d (two-sided h b).1)

past : (c r : ℤ) → (c +ℤ pos 1) <ℤ r → c <ℤ r
past c r = ring2 c r (λ ρ e f. simp (quote, quote-pos ρ, e, f) (omega zarith))

module _ (t : List ℤ) (x : ℕ → Float) (g : good cumulus t ≡ true) where
  cuts-agree : cut cumulus t ≡ rounded_down thousand (fine_cut cumulus t)
  cuts-agree = (good-facts cumulus t g).cuts-agree refl

  module _ (in-limits : (i : ℕ) → i < cumulus.variables → inside cumulus t (rounded_all x) i ≡ true) where
    from : (i : ℕ) → i < cumulus.variables → lowest cumulus t i ≤ℤ rounded_all x i
    from i h = le_z-fact (&&-left (le_z (lowest cumulus t i) (rounded_all x i)) (le_z (rounded_all x i) (highest cumulus t i)) (in-limits i h))

    to : (i : ℕ) → i < cumulus.variables → rounded_all x i ≤ℤ highest cumulus t i
    to i h = le_z-fact (&&-right (le_z (lowest cumulus t i) (rounded_all x i)) (le_z (rounded_all x i) (highest cumulus t i)) (in-limits i h))

    pub near-alpha : T (finite (x 0)) → Near (x 0)
    near-alpha f =
        let range = (good-facts cumulus t g).range in
        let alpha : 0 < cumulus.variables = omega arith in
        near-reading (x 0) f (between-within (lowest cumulus t 0) (highest cumulus t 0) (rounded_all x 0) (lowest-within cumulus t range 0 alpha) (highest-within cumulus t range 0 alpha) (from 0 alpha) (to 0 alpha))

    -- beside alpha the pieces have the same reaches
    other : (p q : Piece) (i : ℕ) → reach cumulus t p (suc i) ≡ reach cumulus t q (suc i)
    other low low i = refl
    other low high i = refl
    other high low i = refl
    other high high i = refl

    alpha-within : (b : Bool) → at_most_thousandths (x 0) (fine_cut cumulus t) ≡ b → nat_abs (rounded_all x 0) ≤ reach cumulus t (cond b low high) 0
    alpha-within true e =
        let d = rw (← cuts-agree) at (down_is thousand (omega arith) (fine_cut cumulus t)) in
        low-reach cumulus t (rounded_all x 0) (from 0 (omega arith)) (low-whole (x 0) (fine_cut cumulus t) (cut cumulus t) e d.1)
    alpha-within false e =
        let d = rw (← cuts-agree) at (down_is thousand (omega arith) (fine_cut cumulus t)) in
        high-reach cumulus t (rounded_all x 0) (high-whole (x 0) (fine_cut cumulus t) (cut cumulus t) e d.0) (to 0 (omega arith))

    pub within-piece : (i : ℕ) → i < cumulus.variables → nat_abs (rounded_all x i) ≤ reach cumulus t (true_piece cumulus t (x 0)) i
    within-piece zero h = alpha-within (at_most_thousandths (x 0) (fine_cut cumulus t)) refl
    within-piece (suc i) h = rw (other (true_piece cumulus t (x 0)) (piece_at cumulus t (rounded_all x)) i) (inside-reach cumulus t (rounded_all x) (suc i) (in-limits (suc i) h))

  -- ════ where both choose the same piece
  same_test : {b : Bool} → at_most_thousandths (x 0) (fine_cut cumulus t) ≡ b → le_z (rounded_all x 0) (cut cumulus t) ≡ b → true_piece cumulus t (x 0) ≡ piece_at cumulus t (rounded_all x)
  same_test e f = ap (λ b. cond b low high) (e ∙ sym f)

  pub same-below : rounded_all x 0 <ℤ cut cumulus t → true_piece cumulus t (x 0) ≡ piece_at cumulus t (rounded_all x)
  same-below h = same_test (below-same (x 0) (fine_cut cumulus t) (cut cumulus t) h cuts-agree) (fact-le_z (<ℤ-≤ℤ h))

  pub same_above : (cut cumulus t +ℤ pos 1) <ℤ rounded_all x 0 → true_piece cumulus t (x 0) ≡ piece_at cumulus t (rounded_all x)
  same_above h = same_test (above_same (x 0) (fine_cut cumulus t) (cut cumulus t) h cuts-agree) (not-le (past (cut cumulus t) (rounded_all x 0) h))

  pub same_whole : numerator (x 0) ≡ rounded_all x 0 *ℤ pos (denominator (x 0)) → true_piece cumulus t (x 0) ≡ piece_at cumulus t (rounded_all x)
  same_whole e = ap (λ b. cond b low high) (exact-whole (x 0) (rounded_all x 0) (fine_cut cumulus t) (cut cumulus t) e cuts-agree)
