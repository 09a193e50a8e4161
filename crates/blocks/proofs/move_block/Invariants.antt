-- The loop's invariant: what is written, with the groups that are left moved, is the moved block.
use Rattle.polynomials.specs.Binomial.{shift_in}
use Rattle.layout.specs.Shape.{shape}
use Rattle.blocks.proofs.BlockMoves.{Moved}
use Rattle.blocks.proofs.move_block.Given as goal

abbrev pub invariant-loop-group : goal.invariant-loop-group
invariant-loop-group l = Moved (shape l.model) l.variable (shift_in l.rows.numbers) l.from l.out l.group l.at
