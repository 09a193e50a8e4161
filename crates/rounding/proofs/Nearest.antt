-- What a float is read as, told of its exact value.
--   denominator-pos    the denominator is above 0
--   reading-nearest    the reading is within a half of the value, and away from zero at a half
--   reading-unique     and it is the only such number
--   near-reading       a float that is read as a whole number in range is near
use Rattle.std.proofs.Common.{◌≡◌, ℕ, ◌+◌, ◌*◌, ◌<◌, ◌≤◌, true, false, T, ℤ, pos, ◌-ℤ◌, ◌*ℤ◌, nat_abs, refl, arith}
use native.Mathlib.Nat as N
use lib.Ieee.{Float, nan, inf, fin, up}
use lib.Ieee.Fits.{down_pos}
use lib.Ieee.Positive.{num, den}
use lib.Ieee.Scale as Scale
use Rattle.whole.specs.Nearest.{twice_off, IsNearestAway}
use Rattle.whole.proofs.Identity.{quote, by, ring2}
use Rattle.whole.proofs.Magnitudes.{nat_abs-*, nat_abs--, nat_abs-neg}
use Rattle.whole.proofs.Nearest.{nearest-is, nearest-unique}
use Rattle.rounding.specs.Value.{numerator, denominator}
use Rattle.rounding.specs.Reading.{whole_of}
use Rattle.rounding.specs.Ready.{farthest_end, farthest_near, Near}

pub denominator-pos : (x : Float) → 0 < denominator x
denominator-pos nan = omega arith
denominator-pos (inf s) = omega arith
denominator-pos (fin s m e) = down_pos e

pub reading-nearest : (x : Float) → IsNearestAway (denominator x) (numerator x) (whole_of x)
unfolding whole_of
reading-nearest x = nearest-is (denominator x) (denominator-pos x) (numerator x)

pub reading-unique : (x : Float) (z : ℤ) → IsNearestAway (denominator x) (numerator x) z → z ≡ whole_of x
unfolding whole_of
reading-unique x z h = nearest-unique (denominator x) (denominator-pos x) (numerator x) z h

-- by a numerator and a denominator: within a half of a number in range is near
near_by : (d : ℕ) (z w : ℤ) → twice_off d z w ≤ d → nat_abs w ≤ farthest_end → nat_abs z ≤ farthest_near * d
near_by d z w h k =
    let back : nat_abs (pos d *ℤ w -ℤ (pos d *ℤ w -ℤ z)) ≤ nat_abs (pos d *ℤ w) + nat_abs (pos d *ℤ w -ℤ z) = nat_abs-- (pos d *ℤ w) (pos d *ℤ w -ℤ z) in
    let e : pos d *ℤ w -ℤ (pos d *ℤ w -ℤ z) ≡ z = ring2 (pos d *ℤ w) z (λ ρ i j. simp (quote, i, j) (by _ _ _ tt)) in
    let m : d * nat_abs w ≤ d * farthest_end = N.mul-le-mul_left d k in
    omega (arith, rw e at back, nat_abs-* (pos d) w, N.mul_comm d farthest_end)

size-num : (x : Float) → nat_abs (numerator x) ≡ num x
size-num nan = refl
size-num (inf s) = refl
size-num (fin false m e) = refl
size-num (fin true m e) = nat_abs-neg (pos (m * up e))

same-den : (x : Float) → denominator x ≡ den x
same-den nan = refl
same-den (inf s) = refl
same-den (fin s m e) = refl

pub near-reading : (x : Float) → T (Scale.finite x) → nat_abs (whole_of x) ≤ farthest_end → Near x
near-reading x f k =
    record { finite = f; small = rw (← size-num x, ← same-den x) (near_by (denominator x) (numerator x) (whole_of x) (reading-nearest x).near k) }
