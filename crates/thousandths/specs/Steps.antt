-- What the code computes on the way.
use Rattle.std.specs.Prelude.{◌≡◌, ℕ, ◌*◌, ◌^◌, ◌<◌, ℤ, pos, neg_ℤ, ◌*ℤ◌, Float}
use Rattle.std.specs.Float.Ieee.Positive.{num, den}
use Rattle.whole.specs.Down.{thousand, rounded_down}
use Rattle.rounding.specs.Value.{numerator, denominator}

-- the magnitude of x is digits / 2 ^ shift
pub record IsParts (x : Float) (digits shift : ℕ) : Type 0 where
  pub value : num x * 2 ^ shift ≡ digits * den x
  pub few : digits < 2 ^ 53

-- the least whole number of thousandths that x is at most: 1000·x rounded up, which is −1000·x rounded down and turned
unfoldable pub thousandths_up : Float → ℤ
thousandths_up x = neg_ℤ (rounded_down (denominator x) (neg_ℤ (pos thousand *ℤ numerator x)))
