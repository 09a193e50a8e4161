-- The cap of every weight, and what a sum is against it.
use Rattle.std.specs.Prelude.{cond, ◌&&◌, ℕ, ◌+◌, leb, Option, Some, None}

-- 9 × 10¹⁸
abbrev pub cap : ℕ
cap = 9_000_000_000_000_000_000

-- no shift is larger: limits lie in -2000..2000, and a shift goes from limit to limit
abbrev pub farthest : ℕ
farthest = 4000

-- the highest total degree that the code serves
abbrev pub highest_degree : ℕ
highest_degree = 4

-- the sum while it is within the cap
abbrev pub against : ℕ → Option ℕ
against n = cond (leb n cap) (Some n) None

-- two sums together, each within the cap; what they come to may pass it, and is less than 2⁶⁴
abbrev pub joint : ℕ → ℕ → Option ℕ
joint a b = cond (leb a cap && leb b cap) (Some (a + b)) None
