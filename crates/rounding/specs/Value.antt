-- The exact value of a finite f64: numerator / denominator, where the denominator is a power of two.
-- The kit's model writes it `fin s m e`, for m·2ᵉ, negative where s is true, with 2ᵉ as the fraction up e / down e.
-- A NaN and an infinity have no value; 0 / 1 stands there, and no answer rests on it.
use Rattle.std.specs.Prelude.{ℕ, ◌*◌, true, false, ℤ, pos, neg_ℤ, Float}
use Rattle.std.specs.Float.{nan, inf, fin}
use Rattle.std.specs.Float.Ieee.{up, down}

abbrev pub numerator : Float → ℤ
numerator nan = pos 0
numerator (inf s) = pos 0
numerator (fin false m e) = pos (m * up e)
numerator (fin true m e) = neg_ℤ (pos (m * up e))

abbrev pub denominator : Float → ℕ
denominator nan = 1
denominator (inf s) = 1
denominator (fin s m e) = down e
