-- What the functions on one block ask of their callers.
use Rattle.std.specs.Prelude.{◌≡◌, List, [], ◌∷◌, ◌++◌, ℕ, ◌+◌, ◌-◌, ◌≤◌, ◌<◌, max, ℤ, nat_abs, length, take, drop}
use Rattle.polynomials.specs.Order.{size}
use Rattle.polynomials.specs.Groups.{Group, grouped, weight_of, total_weight, longer}
use Rattle.polynomials.specs.Limits.{cap, farthest, highest_degree}
use Rattle.layout.specs.Shape.{Shape, table_length, block_length}
use Rattle.layout.specs.Blocks.{piece, groups, coefficient}
use Rattle.layout.specs.Reading.{readings}

-- a reading's own magnitude, as a reach
abbrev pub sizes : (ℕ → ℤ) → ℕ → ℕ
sizes x i = max 1 (nat_abs (x i))

-- to read the group of n numbers in the variables u and v that starts at the place a, at a state
pub record GroupAt (t : List ℤ) (a n u v : ℕ) (x : List ℤ) : Type 0 where
  pub inside : a + n ≤ length t
  pub few : n ≤ size highest_degree
  pub first : u < length x
  pub second : v < length x
  pub light : weight_of (grouped u v (take n (drop a t))) (sizes (readings x)) ≤ cap

-- to read a block's coefficient at a state: the weight at the readings' own magnitudes is within the cap
pub record Valued (S : Shape) (t : List ℤ) (b n : ℕ) (x : List ℤ) : Type 0 where
  pub whole : length t ≡ table_length S
  pub block : b < S.blocks
  pub half : n < 2
  pub state : S.variables ≤ length x
  pub light : total_weight (coefficient S t b (piece n)) (sizes (readings x)) ≤ cap

-- reaches of 1, variable i's longer by |s|
abbrev pub shift_reach : ℕ → ℤ → ℕ → ℕ
shift_reach i s = longer i (nat_abs s) (λ k. 1)

-- to move a group in the variables u and v by s in variable i
pub record ShiftableGroup (u v i : ℕ) (s : ℤ) (l : List ℤ) : Type 0 where
  pub apart : u ≡ v → ⊥
  pub few : length l ≤ size highest_degree
  pub near : nat_abs s ≤ farthest
  pub light : weight_of (grouped u v l) (shift_reach i s) ≤ cap

-- the numbers from a start to an end
abbrev pub between : List ℤ → ℕ → ℕ → List ℤ
between l a e = take (e - a) (drop a l)

-- a list with other numbers from a start to an end
abbrev pub placed : List ℤ → ℕ → ℕ → List ℤ → List ℤ
placed l a e m = take a l ++ (m ++ drop e l)

-- to move the group that stands from a to e of a block
pub record Between (l out : List ℤ) (a e u v i : ℕ) (s : ℤ) : Type 0 where
  pub same : length out ≡ length l
  pub order : a ≤ e
  pub inside : e ≤ length l
  pub group : ShiftableGroup u v i s (between l a e)

-- each of the groups is within the cap
unfoldable pub EachLight : (ℕ → ℕ) → List Group → Type 0
EachLight r [] = Unit
EachLight r (g ∷ gs) = (weight_of g r ≤ cap) × EachLight r gs

-- to move a block
pub record Shiftable (S : Shape) (i : ℕ) (s : ℤ) (l : List ℤ) : Type 0 where
  pub whole : length l ≡ block_length S
  pub near : nat_abs s ≤ farthest
  pub light : EachLight (shift_reach i s) (groups S.kinds l)
