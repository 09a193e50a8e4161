-- What a whole answer, in units of 10⁻¹⁷, is as an f64. An answer is rounded with a half to the even neighbour; `Reading` rounds otherwise.
use Rattle.std.specs.Prelude.{◌^◌, ℤ, pos, Float}
use Rattle.std.specs.Float.{binary64}
use Rattle.std.specs.Float.Ieee.{div, of_int}

-- the f64 nearest to a whole number, a half to the even one
abbrev pub nearest_even : ℤ → Float
nearest_even z = of_int binary64 z

-- divided once by 10¹⁷, and the quotient rounded by the same rule
unfoldable pub float_of : ℤ → Float
float_of z = div binary64 (nearest_even z) (nearest_even (pos (10 ^ 17)))
