-- Floats, given by their bits, against thousandths. The answers are from a computation with exact fractions that shares nothing with this crate.
use mathlib.Core.Path.{◌≡◌, refl}
use mathlib.Core.Bool.{Bool, true, false}
use mathlib.Core.List.{List, [], ◌∷◌, map}
use Prim.Native.Nat.{ℕ}
use lib.IntN.{ℤ, pos, negsuc}
use lib.Ieee.{binary64, of_bits}
use Rattle.whole.specs.Down.{rounded_down}
use Rattle.thousandths.specs.Thousandths.{at_most_thousandths}
use Rattle.thousandths.specs.Steps.{thousandths_up}

unfoldable against : ℤ → List ℕ → List Bool
unfolding of_bits at_most_thousandths
against k = map (λ b. at_most_thousandths (of_bits binary64 b) k)

-- 313.269, a float above the number so written, and the float before it
above-its-decimal : against (pos 313269) (0x4073_944d_d2f1_a9fc ∷ 0x4073_944d_d2f1_a9fb ∷ []) ≡ false ∷ true ∷ []
unfolding against
above-its-decimal = refl

-- 313.4, a float below the number so written, and the float after it
below-its-decimal : against (pos 313400) (0x4073_9666_6666_6666 ∷ 0x4073_9666_6666_6667 ∷ []) ≡ true ∷ false ∷ []
unfolding against
below-its-decimal = refl

-- 3.6, the float before 3.7, and 3.7, which lies above the number so written
three-and-seven-tenths : against (pos 3700) (0x400c_cccc_cccc_cccd ∷ 0x400d_9999_9999_9999 ∷ 0x400d_9999_9999_999a ∷ []) ≡ true ∷ true ∷ false ∷ []
unfolding against
three-and-seven-tenths = refl

-- 0.3, which lies below the number so written, and the float after it
three-tenths : against (pos 300) (0x3fd3_3333_3333_3333 ∷ 0x3fd3_3333_3333_3334 ∷ []) ≡ true ∷ false ∷ []
unfolding against
three-tenths = refl

-- 0.125, which is 125 thousandths, and the float after it
an-eighth : against (pos 125) (0x3fc0_0000_0000_0000 ∷ 0x3fc0_0000_0000_0001 ∷ []) ≡ true ∷ false ∷ []
unfolding against
an-eighth = refl

-- -0.125, and the float after it
minus-an-eighth : against (negsuc 124) (0xbfc0_0000_0000_0000 ∷ 0xbfbf_ffff_ffff_ffff ∷ []) ≡ true ∷ false ∷ []
unfolding against
minus-an-eighth = refl

-- minus a third is between two thousandths
minus-a-third : against (negsuc 332) (0xbfd5_5555_5555_5555 ∷ []) ≡ true ∷ []
unfolding against
minus-a-third = refl

minus-a-third-less : against (negsuc 333) (0xbfd5_5555_5555_5555 ∷ []) ≡ false ∷ []
unfolding against
minus-a-third-less = refl

-- against 0: both zeros, and the smallest floats below and above it, the last of them the smallest with all its digits
nothing : against (pos 0) (0 ∷ 0x8000_0000_0000_0000 ∷ 0x8000_0000_0000_0001 ∷ 1 ∷ 0x0010_0000_0000_0000 ∷ []) ≡ true ∷ true ∷ true ∷ false ∷ false ∷ []
unfolding against
nothing = refl

-- against 1: the smallest float, the one before 0.001, and 0.001, which lies above the number so written
one : against (pos 1) (1 ∷ 0x3f50_624d_d2f1_a9fb ∷ 0x3f50_624d_d2f1_a9fc ∷ []) ≡ true ∷ true ∷ false ∷ []
unfolding against
one = refl

-- against -1: both zeros, the smallest float below them, the one after -0.001, and -0.001
minus_one : against (negsuc 0) (0 ∷ 0x8000_0000_0000_0000 ∷ 0x8000_0000_0000_0001 ∷ 0xbf50_624d_d2f1_a9fb ∷ 0xbf50_624d_d2f1_a9fc ∷ []) ≡ false ∷ false ∷ false ∷ false ∷ true ∷ []
unfolding against
minus_one = refl

-- the farthest floats that are near, 2001 and -2001
farthest : against (pos 2001000) (0x409f_4400_0000_0000 ∷ 0x409f_4400_0000_0001 ∷ []) ≡ true ∷ false ∷ []
unfolding against
farthest = refl

farthest-short : against (pos 2000999) (0x409f_4400_0000_0000 ∷ 0xc09f_4400_0000_0000 ∷ []) ≡ false ∷ true ∷ []
unfolding against
farthest-short = refl

farthest-below : against (negsuc 2000999) (0xc09f_4400_0000_0000 ∷ 0xc09f_43ff_ffff_ffff ∷ []) ≡ true ∷ false ∷ []
unfolding against
farthest-below = refl

farthest-below-short : against (negsuc 2001000) (0xc09f_4400_0000_0000 ∷ []) ≡ false ∷ []
unfolding against
farthest-below-short = refl

-- against the ends of an i64
most : against (pos 9223372036854775807) (0x409f_4400_0000_0000 ∷ 0xc09f_4400_0000_0000 ∷ []) ≡ true ∷ true ∷ []
unfolding against
most = refl

least : against (negsuc 9223372036854775807) (0x409f_4400_0000_0000 ∷ 0xc09f_4400_0000_0000 ∷ []) ≡ false ∷ false ∷ []
unfolding against
least = refl

-- rounded up: 313.269 and the float before it, 0.125, -0.125, minus a third, both zeros, and the smallest floats
rounded-up : map (λ b. thousandths_up (of_bits binary64 b)) (0x4073_944d_d2f1_a9fc ∷ 0x4073_944d_d2f1_a9fb ∷ 0x3fc0_0000_0000_0000 ∷ 0xbfc0_0000_0000_0000 ∷ 0xbfd5_5555_5555_5555 ∷ 0 ∷ 0x8000_0000_0000_0000 ∷ 1 ∷ 0x8000_0000_0000_0001 ∷ [])
    ≡ pos 313270 ∷ pos 313269 ∷ pos 125 ∷ negsuc 124 ∷ negsuc 332 ∷ pos 0 ∷ pos 0 ∷ pos 1 ∷ pos 0 ∷ []
unfolding of_bits rounded_down thousandths_up
rounded-up = refl
