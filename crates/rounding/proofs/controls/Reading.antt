-- Floats, given by their bits, read within -150 and 1000.
use Rattle.std.proofs.Common.{◌≡◌, ℕ, ℤ, pos, negsuc, Result, Ok, Err, refl}
use lib.Ieee.{binary64, of_bits}
use Rattle.whole.specs.Nearest.{nearest_away}
use Rattle.rounding.specs.Reading.{whole_of, step_of}
use Rattle.rounding.specs.declared.Unread.{Unread}
use Rattle.rounding.specs.declared.Unread.TheVariants.{NotFinite, Outside}

unfoldable read : ℕ → Result ℤ Unread
unfolding of_bits nearest_away whole_of step_of
read b = step_of (of_bits binary64 b) (negsuc 149) (pos 1000)

-- ════ halves: 0.5, 1.5, 2.5, -0.5, -1.5, -2.5
half : read 0x3fe0_0000_0000_0000 ≡ Ok (pos 1)
unfolding read
half = refl

three_halves : read 0x3ff8_0000_0000_0000 ≡ Ok (pos 2)
unfolding read
three_halves = refl

five-halves : read 0x4004_0000_0000_0000 ≡ Ok (pos 3)
unfolding read
five-halves = refl

minus-half : read 0xbfe0_0000_0000_0000 ≡ Ok (negsuc 0)
unfolding read
minus-half = refl

minus-three-halves : read 0xbff8_0000_0000_0000 ≡ Ok (negsuc 1)
unfolding read
minus-three-halves = refl

minus-five-halves : read 0xc004_0000_0000_0000 ≡ Ok (negsuc 2)
unfolding read
minus-five-halves = refl

-- ════ the floats next to a half, towards zero: 0.49999999999999994, which makes 1 when 0.5 is added in f64, and its opposite
under-half : read 0x3fdf_ffff_ffff_ffff ≡ Ok (pos 0)
unfolding read
under-half = refl

minus-under-half : read 0xbfdf_ffff_ffff_ffff ≡ Ok (pos 0)
unfolding read
minus-under-half = refl

-- ════ the limits: the float next to 1000.5, 1000.5, 1000.6; the float next to -150.5, -150.5
at-highest : read 0x408f_43ff_ffff_ffff ≡ Ok (pos 1000)
unfolding read
at-highest = refl

half-above-highest : read 0x408f_4400_0000_0000 ≡ Err (Outside (of_bits binary64 0x408f_4400_0000_0000))
unfolding read
half-above-highest = refl

above-highest : read 0x408f_44cc_cccc_cccd ≡ Err (Outside (of_bits binary64 0x408f_44cc_cccc_cccd))
unfolding read
above-highest = refl

at-lowest : read 0xc062_cfff_ffff_ffff ≡ Ok (negsuc 149)
unfolding read
at-lowest = refl

half-below-lowest : read 0xc062_d000_0000_0000 ≡ Err (Outside (of_bits binary64 0xc062_d000_0000_0000))
unfolding read
half-below-lowest = refl

-- ════ the smallest float, the largest subnormal one, 1e300, and both zeros
smallest : read 1 ≡ Ok (pos 0)
unfolding read
smallest = refl

subnormal : read 0xf_ffff_ffff_ffff ≡ Ok (pos 0)
unfolding read
subnormal = refl

ten-to-300 : read 0x7e37_e43c_8800_759c ≡ Err (Outside (of_bits binary64 0x7e37_e43c_8800_759c))
unfolding read
ten-to-300 = refl

plus-zero : read 0 ≡ Ok (pos 0)
unfolding read
plus-zero = refl

minus-zero : read 0x8000_0000_0000_0000 ≡ Ok (pos 0)
unfolding read
minus-zero = refl

-- ════ a NaN and both infinities
no_number : read 0x7ff8_0000_0000_0000 ≡ Err NotFinite
unfolding read
no_number = refl

plus-infinity : read 0x7ff0_0000_0000_0000 ≡ Err NotFinite
unfolding read
plus-infinity = refl

minus-infinity : read 0xfff0_0000_0000_0000 ≡ Err NotFinite
unfolding read
minus-infinity = refl
