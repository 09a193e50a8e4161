-- The loop's invariant: what is summed, with the groups that are left, is the coefficient.
use Rattle.polynomials.specs.Groups.{total}
use Rattle.layout.specs.Shape.{shape}
use Rattle.layout.specs.Blocks.{piece, coefficient}
use Rattle.layout.specs.Reading.{readings}
use Rattle.blocks.proofs.Sums.{Summed}
use Rattle.blocks.proofs.coefficient_at.Given as goal

abbrev pub invariant-loop-group : goal.invariant-loop-group
invariant-loop-group l = Summed (shape l.model) l.table l.state (total (coefficient (shape l.model) l.table l.block (piece l.piece)) (readings l.state)) l.group l.at l.sum
