-- What the code asks of its callers: groups of few enough numbers, and a weight within the cap, which bounds every sum and product on the way.
use Rattle.std.specs.Prelude.{◌≡◌, List, ℕ, ◌+◌, ◌-◌, ◌/◌, ◌≤◌, ◌<◌, max, ℤ, nat_abs, ◌+ℤ◌, FitsSigned, length}
use Rattle.std.specs.Int.{w64}
use Rattle.polynomials.specs.Order.{size}
use Rattle.polynomials.specs.Numbers.{ints}
use Rattle.polynomials.specs.Group.{own, number, weight}
use Rattle.polynomials.specs.Downward.{down, row_downward}
use Rattle.polynomials.specs.Limits.{cap, farthest, highest_degree}
use Rattle.polynomials.specs.declared.Variable.{Variable}
use Rattle.polynomials.specs.declared.Reach.{Reach}

-- to take the numbers g 0 to g n from the highest power down: what is multiplied on the way may be, and what a number is added to fits with it
pub record Formed (can : ℤ → ℤ → Type 0) (times : ℤ → ℤ → ℤ) (g : ℕ → ℤ) (x : ℤ) (n : ℕ) : Type 0 where
  pub multiplied : (p : ℕ) → p < n → can (down ints times g x (n - (p + 1)) (p + 1)) x
  pub added : (p : ℕ) → p < n → FitsSigned w64 (times (down ints times g x (n - (p + 1)) (p + 1)) x +ℤ g p)

-- to take a group of degree d so: each row in u, and the rows
pub record Followable (can : ℤ → ℤ → Type 0) (times : ℤ → ℤ → ℤ) (l : List ℤ) (d : ℕ) (x y : ℤ) : Type 0 where
  pub low : d ≤ highest_degree
  pub each : (q : ℕ) → q ≤ d → Formed can times (λ p. number ints l p q) x (d - q)
  pub all : Formed can times (row_downward ints times d (number ints l) x) y d

-- to read a group at x and y
pub record Readable (l : List ℤ) (x y : ℤ) : Type 0 where
  pub few : length l ≤ size highest_degree
  pub light : weight l (max 1 (nat_abs x)) (max 1 (nat_abs y)) ≤ cap

-- to move it by s: its weight at reaches of 1, the moved variable's longer by |s|
pub record Movable (w : Variable) (s : ℤ) (l : List ℤ) : Type 0 where
  pub few : length l ≤ size highest_degree
  pub near : nat_abs s ≤ farthest
  pub light : weight l (own w (1 + nat_abs s) 1) (own w 1 (1 + nat_abs s)) ≤ cap

-- a reach with the most that it multiplies within the cap
pub record Reached (r : Reach) : Type 0 where
  pub one : 1 ≤ r.size
  pub most-is : r.most ≡ cap / r.size

-- to weigh a group of degree d at the reaches u and v
pub record Weighable (l : List ℤ) (d : ℕ) (u v : Reach) : Type 0 where
  pub few : length l ≤ size d
  pub low : d ≤ highest_degree
  pub first : Reached u
  pub second : Reached v
