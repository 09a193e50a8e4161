-- What the weight check asks of a table and of reaches.
use Rattle.std.specs.Prelude.{◌≡◌, List, ℕ, suc, ◌+◌, ◌≤◌, ◌<◌, ℤ, length, get_or}
use Rattle.polynomials.specs.Order.{size}
use Rattle.polynomials.specs.Limits.{highest_degree}
use Rattle.polynomials.specs.Ready.{Reached}
use Rattle.polynomials.specs.declared.Reach.{Reach}
use Rattle.layout.specs.declared.Kind.{Kind}
use Rattle.layout.specs.Shape.{Shape, block_length, table_length}
use Rattle.layout.specs.Numbers.{variables_room, reaches_room}

-- the reach at a place of a list
abbrev pub reach_in : List Reach → ℕ → Reach
reach_in l k = get_or l k (record { size = 0; most = 0 })

-- those of the high piece, by their variables: beside variable 0 the low piece has the same
abbrev pub high_in : List Reach → ℕ → ℕ
high_in l i = (reach_in l (suc i)).size

abbrev pub AllReached : List Reach → Type 0
AllReached l = (k : ℕ) → k < reaches_room → Reached (reach_in l k)

-- each of the sizes is at least 1
abbrev pub AtLeastOne : List ℕ → Type 0
AtLeastOne l = (k : ℕ) → k < reaches_room → 1 ≤ get_or l k 0

-- reaches of given sizes
pub record Measured (sizes : List ℕ) (l : List Reach) : Type 0 where
  pub long : length l ≡ reaches_room
  pub same : (k : ℕ) → k < reaches_room → (reach_in l k).size ≡ get_or sizes k 0
  pub reached : AllReached l

-- to weigh the group of a kind that starts at a place
pub record GroupWeighable (t : List ℤ) (at : ℕ) (k : Kind) (l : List Reach) : Type 0 where
  pub inside : at + size k.degree ≤ length t
  pub few : k.degree ≤ highest_degree
  pub first : k.u < variables_room
  pub second : k.v < variables_room
  pub reached : AllReached l

-- to weigh the groups that the pieces share, of the block that starts at a place
pub record Shareable (S : Shape) (t : List ℤ) (start : ℕ) (l : List Reach) : Type 0 where
  pub inside : start + block_length S ≤ length t
  pub reached : AllReached l

-- to weigh a table at reaches of given sizes
pub record Checkable (S : Shape) (t : List ℤ) (sizes : List ℕ) : Type 0 where
  pub whole : length t ≡ table_length S
  pub one : AtLeastOne sizes
