-- Controls of the cap: the sum that meets it is within, one more has passed it; of two sums together each is held against it.
use mathlib.Core.Path.{◌≡◌, refl}
use mathlib.Core.List.{[], ◌∷◌}
use Prim.Native.Nat.{◌*◌, ◌^◌, ◌<◌}
use native.Mathlib.Omega.{arith}
use Rattle.polynomials.specs.Limits.{cap, farthest, highest_degree, against, joint}
use Rattle.std.specs.Prelude.{Some, None}

cap-is : cap ≡ 9 * 10 ^ 18
cap-is = refl

meets : against cap ≡ Some 9000000000000000000
meets = refl

passes : against 9000000000000000001 ≡ None
passes = refl

both_meet : joint cap cap ≡ Some 18000000000000000000
both_meet = refl

one_passes : joint 9000000000000000001 0 ∷ joint 0 9000000000000000001 ∷ [] ≡ None ∷ None ∷ []
one_passes = refl

-- the largest number that multiplying out gives, 2⁴ times the highest power of a shift at most, fits 64 bits
fourth-power : 2 ^ highest_degree * farthest ^ highest_degree < 2 ^ 63
fourth-power = omega arith
