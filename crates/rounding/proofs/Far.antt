-- A float beyond `farthest_near` either way lies outside of any limits, and every other finite float is near.
--   far-below, far-above   beyond it, the whole number passes any such limit
--   near                   within it, the float can be rounded
use Rattle.std.proofs.Common.{◌≡◌, ℕ, ◌*◌, ◌<◌, ◌≤◌, true, false, T, ℤ, pos, neg_ℤ, nat_abs, ◌<ℤ◌, le_trans, le-div_iff_mul-le, arith, ltb-false, ltb-true}
use mathlib.Core.Bool.{false≢true}
use lib.Ieee.{Float, nan, inf, fin, up, down, lt}
use lib.Ieee.Fits.{down_pos}
use lib.Ieee.Scale.{finite}
use Rattle.whole.proofs.Identity.{quote-pos, quote-minus, ring1}
use Rattle.whole.proofs.Linear.{zarith, quote-nat_abs}
use Rattle.whole.specs.Nearest.{nearest_up, nearest_away}
use Rattle.rounding.specs.Reading.{whole_of}
use Rattle.rounding.specs.Ready.{farthest_end, farthest_near, Near}
use Rattle.rounding.proofs.Sides.{whole-part-le}
use Rattle.rounding.proofs.Signs.{nearest-neg}

beyond : (a b : ℕ) → 0 < b → farthest_near * b < a → farthest_near ≤ nearest_up b a
beyond a b p h = le_trans ((le-div_iff_mul-le p).1 (let g : farthest_near * b ≤ a = omega arith in g)) (whole-part-le a b p)

past-highest : (z : ℤ) (r : ℕ) → nat_abs z ≤ farthest_end → farthest_near ≤ r → z <ℤ pos r
past-highest z r = ring1 z (λ ρ e. simp (quote-pos ρ, e, quote-nat_abs) (omega zarith))

past-lowest : (z : ℤ) (r : ℕ) → nat_abs z ≤ farthest_end → farthest_near ≤ r → neg_ℤ (pos r) <ℤ z
past-lowest z r = ring1 z (λ ρ e. simp (quote-minus ρ, e, quote-nat_abs) (omega zarith))

pub far-above : (x : Float) (z : ℤ) → nat_abs z ≤ farthest_end → T (finite x) → lt (fin false farthest_near (pos 0)) x ≡ true → z <ℤ whole_of x
unfolding lt whole_of nearest_away
far-above nan z l f h = absurd f
far-above (inf s) z l f h = absurd f
far-above (fin true m e) z l f h = absurd (false≢true h)
far-above (fin false m e) z l f h =
    past-highest z (nearest_up (down e) (m * up e)) l
    (beyond (m * up e) (down e) (down_pos e) (omega (arith, ltb-true)))

pub far-below : (x : Float) (z : ℤ) → nat_abs z ≤ farthest_end → T (finite x) → lt x (fin true farthest_near (pos 0)) ≡ true → whole_of x <ℤ z
unfolding lt whole_of
far-below nan z l f h = absurd f
far-below (inf s) z l f h = absurd f
far-below (fin false m e) z l f h = absurd (false≢true h)
far-below (fin true m e) z l f h =
    let a : farthest_near * down e < m * up e = omega (arith, ltb-true) in
    rw (nearest-neg (m * up e) (down e) (omega arith))
    (past-lowest z (nearest_up (down e) (m * up e)) l (beyond (m * up e) (down e) (down_pos e) a))

pub near : (x : Float) → T (finite x) → lt x (fin true farthest_near (pos 0)) ≡ false → lt (fin false farthest_near (pos 0)) x ≡ false → Near x
unfolding lt
near nan f h g = absurd f
near (inf s) f h g = absurd f
near (fin true m e) f h g = record { finite = tt; small = omega (arith, ltb-false) }
near (fin false m e) f h g = record { finite = tt; small = omega (arith, ltb-false) }
