-- The loop's invariant: of the first k places those that the model's limits take hold them, and the others what they held.
use mathlib.Core.Path.{◌≡◌}
use mathlib.Core.List.{List}
use Prim.Native.Nat.{ℕ, min}
use lib.IntN.{ℤ}
use lib.ListN.{length, take, drop}
use Rattle.moving.proofs.write_limits.Given as goal

-- the first m places of `out` hold the numbers, and the others what they held before
pub record Copied (numbers before out : List ℤ) (m : ℕ) : Type 0 where
  pub long : length out ≡ length before
  pub front : take m out ≡ take m numbers
  pub back : drop m out ≡ drop m before

abbrev pub invariant-loop-k : goal.invariant-loop-k
invariant-loop-k l = Copied l.limits.numbers l.initial.out l.out (min l.k l.count)
