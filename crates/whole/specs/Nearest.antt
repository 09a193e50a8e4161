-- The whole number nearest to a fraction z / m, for an m above 0: a half goes away from zero.
use Rattle.std.specs.Prelude.{◌≡◌, ℕ, suc, ◌+◌, ◌*◌, ◌/◌, ◌≤◌, ◌<◌, ℤ, pos, negsuc, neg_ℤ, nat_abs, ◌-ℤ◌, ◌*ℤ◌}

-- of a magnitude n / m: the whole part of n / m + 1 / 2. With an odd m nothing lies half-way, so that cutting its half to a whole number changes nothing.
abbrev pub nearest_up : ℕ → ℕ → ℕ
nearest_up m n = (n + m / 2) / m

-- with a sign, which rounding keeps
unfoldable pub nearest_away : ℕ → ℤ → ℤ
nearest_away m (pos n) = pos (nearest_up m n)
nearest_away m (negsuc n) = neg_ℤ (pos (nearest_up m (suc n)))

-- twice the distance of q from z / m, times m
abbrev pub twice_off : ℕ → ℤ → ℤ → ℕ
twice_off m z q = 2 * nat_abs (pos m *ℤ q -ℤ z)

-- q is within a half of z / m, and farther from zero than z / m where it is just a half away
pub record IsNearestAway (m : ℕ) (z q : ℤ) : Type 0 where
  pub near : twice_off m z q ≤ m
  pub away : twice_off m z q ≡ m → nat_abs z < m * nat_abs q
