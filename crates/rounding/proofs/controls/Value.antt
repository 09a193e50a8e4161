-- The exact values of a few floats, given by their bits.
use Rattle.std.proofs.Common.{◌≡◌, ℕ, ◌*◌, ◌^◌, ℤ, pos, neg_ℤ, refl}
use lib.Ieee.{binary64, of_bits}
use Rattle.rounding.specs.Value.{numerator, denominator}

value : ℕ → ℤ × ℕ
value b = (numerator (of_bits binary64 b), denominator (of_bits binary64 b))

half : value 0x3fe0_0000_0000_0000 ≡ (pos 1, 2)
unfolding value of_bits
half = refl

minus-five-halves : value 0xc004_0000_0000_0000 ≡ (neg_ℤ (pos 5), 2)
unfolding value of_bits
minus-five-halves = refl

-- 313.4 is not a binary fraction: the float lies a little below it
just-below : value 0x4073_9666_6666_6666 ≡ (pos 2756695553159987, 2 ^ 43)
unfolding value of_bits
just-below = refl

minus-zero : value 0x8000_0000_0000_0000 ≡ (pos 0, 1)
unfolding value of_bits
minus-zero = refl

smallest : value 1 ≡ (pos 1, 2 ^ 1074)
unfolding value of_bits
smallest = refl

ten-to-300 : value 0x7e37_e43c_8800_759c ≡ (pos (1681218273811815 * 2 ^ 946), 1)
unfolding value of_bits
ten-to-300 = refl
