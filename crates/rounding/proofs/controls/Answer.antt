-- The divisor is exact, and a few answers.
use Rattle.std.proofs.Common.{◌≡◌, ◌^◌, true, false, pos, negsuc, refl}
use lib.Ieee.{binary64, round, div, of_int, of_bits, fin}
use lib.Ieee.Exact.{HasValue}
use Rattle.rounding.specs.Answer.{float_of}

divisor-exact : HasValue (of_int binary64 (pos (10 ^ 17))) false (10 ^ 17) 1
unfolding of_int
divisor-exact = (refl, refl)

-- -2566000000000000 is answered by the float nearest to -0.02566
state-zero : float_of (negsuc 2565999999999999) ≡ round binary64 true 2566 100000
unfolding float_of div of_int
state-zero = refl

state-zero-bits : float_of (negsuc 2565999999999999) ≡ of_bits binary64 0xbf9a_469d_7342_edbb
unfolding float_of div of_int of_bits
state-zero-bits = refl

one : float_of (pos (10 ^ 17)) ≡ fin false 1 (pos 0)
unfolding float_of div of_int
one = refl

-- the largest i64 is no float, and 2⁶³ is the nearest
largest : of_int binary64 (pos 9223372036854775807) ≡ fin false 1 (pos 63)
unfolding of_int
largest = refl

-- 2⁵³ + 1 lies just half-way between two floats, 2⁵³ and 2⁵³ + 2, and goes to the even one
half-way : of_int binary64 (pos 9007199254740993) ≡ fin false 1 (pos 53)
unfolding of_int
half-way = refl
