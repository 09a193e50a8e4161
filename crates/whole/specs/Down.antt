-- The fraction z / m rounded down, towards minus infinity, for an m above 0.
use Rattle.std.specs.Prelude.{ℕ, ◌/◌, ℤ, pos, negsuc}

unfoldable pub rounded_down : ℕ → ℤ → ℤ
rounded_down m (pos n) = pos (n / m)
rounded_down m (negsuc n) = negsuc (n / m)

-- how many thousandths a whole one has
abbrev pub thousand : ℕ
thousand = 1000
