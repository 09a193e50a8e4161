-- The loop's invariant is `Turn`: the places before the one that the loop stands at hold the longer reaches, the others those that were given.
use mathlib.Core.Path.{◌≡◌}
use mathlib.Core.List.{List}
use Prim.Native.Nat.{ℕ, ◌≤◌, ◌<◌}
use lib.ListN.{length, get_or}
use Rattle.layout.specs.Numbers.{reaches_room}
use Rattle.moving.specs.Ready.{longer_at}
use Rattle.moving.proofs.longer.Given as goal

pub record Turn (given : List ℕ) (variable more : ℕ) (reaches : List ℕ) (place : ℕ) : Type 0 where
  pub room : length reaches ≡ reaches_room
  pub done : (k : ℕ) → k < place → get_or reaches k 0 ≡ longer_at given variable more k
  pub left : (k : ℕ) → place ≤ k → get_or reaches k 0 ≡ get_or given k 0

abbrev pub invariant-loop-place : goal.invariant-loop-place
invariant-loop-place l = Turn l.fn.reaches l.variable l.more l.reaches l.place
