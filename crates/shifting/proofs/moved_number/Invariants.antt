-- The loop's invariant is `Turn`: where it stands, and that the sum is that of the terms passed.
use Prim.Native.Nat.{ℕ, ◌+◌, ◌-◌, ◌≤◌, ◌<◌}
use mathlib.Core.List.{List}
use mathlib.Core.Path.{◌≡◌}
use lib.IntN.{ℤ}
use lib.ListN.{length}
use Rattle.polynomials.specs.Numbers.{ints}
use Rattle.polynomials.specs.Binomial.{shift_in}
use Rattle.polynomials.specs.Sum.{sum as Σ}
use Rattle.polynomials.specs.Group.{own, given}
use Rattle.polynomials.specs.declared.Variable.{Variable}
use Rattle.polynomials.proofs.Chains.{chain}
use Rattle.shifting.proofs.moved_number.Given as goal

-- what the numbers of the chain give to the one before the power p
abbrev pub terms : Variable → ℤ → List ℤ → ℕ → ℕ → ℕ → ℤ
terms w s l b p = given ints w s l (own w p b) (own w b p)

-- after j terms: the loop stands at the place of the next, which has a low degree where there is one, and holds the sum of those passed
pub record Turn (w : Variable) (s : ℤ) (l : List ℤ) (b p j : ℕ) (sum : ℤ) (i : ℕ) : Type 0 where
  pub few : j ≤ length l
  pub here : i ≡ chain w b (p + j)
  pub low : i < length l → b + p + j < 5
  pub sum_is : sum ≡ Σ ints j (terms w s l b p)

abbrev pub invariant-loop-i : goal.invariant-loop-i
invariant-loop-i l = Turn l.which (shift_in l.rows.numbers) l.from l.beside l.p l.j l.sum l.i

abbrev pub decreases-loop-i : goal.decreases-loop-i
decreases-loop-i l = length l.from - l.i
