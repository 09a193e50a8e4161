-- The loops' invariants: the blocks and the pieces passed are within the cap, and the sum is the weight of the rows passed.
use Rattle.std.proofs.Common.{◌≡◌, ◌+◌, ◌-◌, true}
use Rattle.polynomials.proofs.DownwardBounds.{rows_weight}
use Rattle.layout.specs.Limits.{every}
use Rattle.layout.specs.Shape.{shape}
use Rattle.weights.proofs.Weighing.{fits}
use Rattle.weights.proofs.within_cap.Given as goal

abbrev pub invariant-blocks-2 : goal.invariant-blocks-2
invariant-blocks-2 l = (every l.block (λ b. every 2 (fits (shape l.model) l.table l.reaches b)) ≡ true) × (l.ok ≡ true)

abbrev pub invariant-loop-piece : goal.invariant-loop-piece
invariant-loop-piece l = (every l.piece (fits (shape l.model) l.table l.reaches l.block) ≡ true) × (l.ok ≡ true)

abbrev pub invariant-loop-row : goal.invariant-loop-row
invariant-loop-row l = (l.sum ≡ rows_weight l.degree l.group l.u.size l.v.size (l.degree + 1 - l.row)) × (l.ok ≡ true)
