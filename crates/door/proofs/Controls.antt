-- Facts that would fail if a definition said something else: a few states of floats, given by their bits, at the limits of the published table.
use mathlib.Core.Path.{◌≡◌, refl}
use mathlib.Core.List.{List, [], ◌∷◌, ◌++◌, map}
use Prim.Native.Nat.{ℕ}
use lib.IntN.{ℤ, pos, negsuc, pow, one}
use lib.ListN.{replicate}
use lib.Ieee.{Float, binary64, of_bits}
use Rattle.whole.specs.Nearest.{nearest_away}
use Rattle.whole.specs.Down.{rounded_down}
use Rattle.polynomials.specs.Sum.{sum, listed}
use Rattle.polynomials.specs.Order.{powers, below}
use Rattle.polynomials.specs.Group.{term, evaluated}
use Rattle.polynomials.specs.Groups.{total, total_weight}
use Rattle.layout.specs.Shape.{kinds_length, cumulus}
use Rattle.layout.specs.Limits.{every, all_in_range, good}
use Rattle.layout.specs.Blocks.{groups, chosen, coefficient}
use Rattle.layout.specs.Sound.{within_cap}
use Rattle.layout.specs.Refusals.{first}
use Rattle.rounding.specs.Reading.{whole_of, step_of}
use Rattle.rounding.specs.Answer.{float_of}
use Rattle.thousandths.specs.Thousandths.{at_most_thousandths}
use Rattle.door.specs.Steps.{positive_zero}
use Rattle.door.specs.Door.{floats, door_number, door_reading, door_value}

-- the published limits; X is 7 in the low piece and 8 in the high one, and the other coefficients are 0
table : List ℤ
table =
    (negsuc 149 ∷ pos 313 ∷ pos 1000 ∷ pos 313_269 ∷ negsuc 499 ∷ pos 500 ∷ negsuc 199 ∷ pos 200 ∷ negsuc 399 ∷ pos 400 ∷ negsuc 499 ∷ pos 500 ∷ [])
    ++ (pos 7 ∷ replicate 9 (pos 0))
    ++ (pos 8 ∷ replicate 289 (pos 0))

unfoldable number : List ℕ → ℕ
unfolding table of_bits nearest_away whole_of step_of sum listed powers below term evaluated total_weight kinds_length every all_in_range good rounded_down groups chosen coefficient within_cap first door_number
number l = door_number cumulus table (floats (map (of_bits binary64) l))

unfoldable back : List ℕ → Float
unfolding table of_bits nearest_away whole_of step_of number door_reading
back l = door_reading cumulus table (floats (map (of_bits binary64) l))

-- a NaN zeta with alpha 2000.0: the NaN comes first, and no reading is handed back
nan-zeta : number (0x409f_4000_0000_0000 ∷ 0 ∷ 0 ∷ 0 ∷ 0x7ff8_0000_0000_0000 ∷ []) ≡ 25
unfolding number
nan-zeta = refl

nan-zeta-back : back (0x409f_4000_0000_0000 ∷ 0 ∷ 0 ∷ 0 ∷ 0x7ff8_0000_0000_0000 ∷ []) ≡ positive_zero
unfolding number back
nan-zeta-back = refl

-- alpha 1001.0 with beta 501.0: the first is refused and handed back
both-outside : number (0x408f_4800_0000_0000 ∷ 0x407f_5000_0000_0000 ∷ 0 ∷ 0 ∷ 0 ∷ []) ≡ 11
unfolding number
both-outside = refl

both-outside-back : back (0x408f_4800_0000_0000 ∷ 0x407f_5000_0000_0000 ∷ 0 ∷ 0 ∷ 0 ∷ []) ≡ of_bits binary64 0x408f_4800_0000_0000
unfolding number back
both-outside-back = refl

-- alpha 1000.5 is rounded to 1001 and handed back as given, beta 499.5 to 500, and zeta -500.6 to -501
alpha-half-outside : number (0x408f_4400_0000_0000 ∷ 0 ∷ 0 ∷ 0 ∷ 0 ∷ []) ≡ 11
unfolding number
alpha-half-outside = refl

alpha-half-back : back (0x408f_4400_0000_0000 ∷ 0 ∷ 0 ∷ 0 ∷ 0 ∷ []) ≡ of_bits binary64 0x408f_4400_0000_0000
unfolding number back
alpha-half-back = refl

beta-rounded : number (0 ∷ 0x407f_3800_0000_0000 ∷ 0 ∷ 0 ∷ 0 ∷ []) ≡ 0
unfolding number
beta-rounded = refl

zeta-outside : number (0 ∷ 0 ∷ 0 ∷ 0 ∷ 0xc07f_4999_9999_999a ∷ []) ≡ 15
unfolding number
zeta-outside = refl

-- a NaN zeta with eta -400.5, which is outside
nan-beside-half : number (0 ∷ 0 ∷ 0 ∷ 0xc079_0800_0000_0000 ∷ 0x7ff8_0000_0000_0000 ∷ []) ≡ 25
unfolding number
nan-beside-half = refl

-- the piece is that of alpha as given: of the floats on both sides of 313.269 the lower one is read in the low piece and the upper one in the high piece;
-- 313.4 is rounded to 313 and read in the high piece, as 313.6 is at 314
pieces : map (λ alpha. door_value cumulus table (floats (map (of_bits binary64) (alpha ∷ 0 ∷ 0 ∷ 0 ∷ 0 ∷ []))) 0)
    (0x4073_9000_0000_0000 ∷ 0x4073_944d_d2f1_a9fb ∷ 0x4073_944d_d2f1_a9fc ∷ 0x4073_9666_6666_6666 ∷ 0x4073_9999_9999_999a ∷ [])
    ≡ map float_of (pos 7 ∷ pos 7 ∷ pos 8 ∷ pos 8 ∷ pos 8 ∷ [])
unfolding table of_bits nearest_away whole_of step_of rounded_down at_most_thousandths sum listed powers below term evaluated total total_weight kinds_length every all_in_range good groups chosen coefficient within_cap first door_number door_value pow one
pieces = refl

-- limits -2, 3 and 9 with the fine cut 3700; X is 5 + alpha in the low piece and 1000 alpha in the high one, and the other limits and numbers are 0
worked : List ℤ
worked = (negsuc 1 ∷ pos 3 ∷ pos 9 ∷ pos 3700 ∷ replicate 8 (pos 0)) ++ (pos 5 ∷ pos 1 ∷ replicate 8 (pos 0)) ++ (pos 0 ∷ pos 1000 ∷ replicate 288 (pos 0))

-- 3.4 is read low at 3, 3.6 low at 4, past the cut; 3.7, whose float lies above it, and 3.71 high at 4, as 4 itself
low-past-the-cut : map (λ alpha. door_value cumulus worked (floats (map (of_bits binary64) (alpha ∷ 0 ∷ 0 ∷ 0 ∷ 0 ∷ []))) 0)
    (0x400b_3333_3333_3333 ∷ 0x400c_cccc_cccc_cccd ∷ 0x400d_9999_9999_999a ∷ 0x400d_ae14_7ae1_47ae ∷ 0x4010_0000_0000_0000 ∷ [])
    ≡ map float_of (pos 8 ∷ pos 9 ∷ pos 4000 ∷ pos 4000 ∷ pos 4000 ∷ [])
unfolding worked of_bits nearest_away whole_of step_of rounded_down at_most_thousandths sum listed powers below term evaluated total total_weight kinds_length every all_in_range good groups chosen coefficient within_cap first door_number door_value pow one
low-past-the-cut = refl
