-- The loop's invariant is `Turn`: the places from p on hold what is to stand there, the others the binomial numbers.
use mathlib.Core.Path.{◌≡◌}
use mathlib.Core.List.{List}
use Prim.Native.Nat.{ℕ, ◌-◌, ◌≤◌, ◌<◌}
use lib.IntN.{ℤ, pos, pow}
use lib.ListN.{length, get_or}
use Rattle.polynomials.specs.Numbers.{ints}
use Rattle.polynomials.specs.Binomial.{choose, multiplied_out}
use Rattle.shifting.proofs.multiplied_row.Given as goal

pub record Turn (s : ℤ) (k : ℕ) (row : List ℤ) (power : ℤ) (p : ℕ) : Type 0 where
  pub five : length row ≡ 5
  pub power-is : power ≡ pow s (k - p)
  pub done : (i : ℕ) → p ≤ i → i < 5 → get_or row i (pos 0) ≡ multiplied_out ints s k i
  pub left : (i : ℕ) → i < p → get_or row i (pos 0) ≡ pos (choose k i)

abbrev pub invariant-loop-p : goal.invariant-loop-p
invariant-loop-p l = Turn l.s l.k l.row l.power l.p
