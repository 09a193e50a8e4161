-- The invariant of both loops is `Stands`: `at` is the place of the power p beside the power b of the other variable, of a low degree where it is in the group,
-- and the places passed hold the moved numbers. They are those of the chains beside smaller powers, and of smaller powers on the same chain; where a chain leaves the group, and at last where
-- the first place of a chain does, no place is left.
use mathlib.Core.Path.{◌≡◌}
use mathlib.Core.List.{List}
use Prim.Native.Nat.{ℕ, ◌+◌, ◌-◌, ◌≤◌, ◌<◌}
use lib.IntN.{ℤ, pos}
use lib.ListN.{length, get_or}
use Rattle.polynomials.specs.Numbers.{ints}
use Rattle.polynomials.specs.Order.{powers}
use Rattle.polynomials.specs.Binomial.{shift_in}
use Rattle.polynomials.specs.Group.{own, moved_number}
use Rattle.polynomials.specs.declared.Variable.{Variable}
use Rattle.polynomials.proofs.Chains.{chain}
use Rattle.shifting.proofs.move_group.Given as goal

-- the powers of the variable and of the other at a place
abbrev pub mine : Variable → ℕ → ℕ
mine w k = own w (powers k).first (powers k).second

abbrev pub others : Variable → ℕ → ℕ
others w k = own w (powers k).second (powers k).first

module _ (w : Variable) (s : ℤ) (l : List ℤ) where
  -- what is to stand at a place
  unfoldable pub moved_at : ℕ → ℤ
  moved_at k = moved_number ints w s l (powers k).first (powers k).second

  -- it stands at every place passed
  unfoldable pub Filled : List ℤ → ℕ → ℕ → Type 0
  Filled out b p = (k : ℕ) → k < length l → others w k ≤ b → (b ≤ others w k → mine w k < p) → get_or out k (pos 0) ≡ moved_at k

  pub record Stands (out : List ℤ) (b p at : ℕ) : Type 0 where
    pub long : length out ≡ length l
    pub here : at ≡ chain w b p
    pub low : at < length l → b + p < 5
    pub filled : Filled out b p

abbrev pub invariant-loop-at : goal.invariant-loop-at
invariant-loop-at l = Stands l.which (shift_in l.rows.numbers) l.from l.out l.beside l.p l.at

abbrev pub decreases-loop-at : goal.decreases-loop-at
decreases-loop-at l = length l.from - l.at

abbrev pub invariant-loop-start : goal.invariant-loop-start
invariant-loop-start l = Stands l.which (shift_in l.rows.numbers) l.from l.out l.beside 0 l.start

abbrev pub decreases-loop-start : goal.decreases-loop-start
decreases-loop-start l = length l.from - l.start
