-- What the code asks of its callers: numbers that are small enough, and readings of at most a radian.
use Rattle.std.specs.Prelude.{List, ℕ, ◌*◌, ◌≤◌, ◌<◌, ℤ, pos, nat_abs, get_or}
use Rattle.polynomials.specs.Limits.{highest_degree}
use Rattle.layout.specs.Shape.{cumulus}
use Rattle.cumulus_page.specs.Model.{microradians}

-- no number is larger: none that is printed passes 200
abbrev pub largest : ℕ
largest = 200_000_000_000

-- and a group, of at most 5 rows of at most 5 numbers, comes to no more than this, whose product with a radian fits 64 bits
abbrev pub most : ℕ
most = 5 * (5 * largest)

-- the numbers of a group of that degree, small enough
pub record Placed (l : List ℤ) (degree : ℕ) : Type 0 where
  pub low : degree ≤ highest_degree
  pub small : (k : ℕ) → nat_abs (get_or l k (pos 0)) ≤ largest

-- at most a radian
abbrev pub Near : ℤ → Type 0
Near r = nat_abs r ≤ microradians.radian

-- each reading is
abbrev pub AllNear : (ℕ → ℤ) → Type 0
AllNear x = (i : ℕ) → i < cumulus.variables → Near (x i)
