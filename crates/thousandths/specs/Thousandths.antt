-- A float against a number of thousandths, as exact numbers: the two fractions are crossed, and nothing is rounded.
use Rattle.std.specs.Prelude.{Bool, ℤ, pos, ◌*ℤ◌, Float}
use Rattle.std.specs.Int.Signed.{le_z}
use Rattle.whole.specs.Down.{thousand}
use Rattle.rounding.specs.Value.{numerator, denominator}

-- x is at most k thousandths
unfoldable pub at_most_thousandths : Float → ℤ → Bool
at_most_thousandths x k = le_z (pos thousand *ℤ numerator x) (k *ℤ pos (denominator x))
