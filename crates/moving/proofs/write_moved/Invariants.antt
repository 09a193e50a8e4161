-- The loop's invariant: what stands before a block is the moved limits and the moved blocks before it.
use mathlib.Core.Path.{◌≡◌}
use lib.ListN.{take}
use Rattle.layout.specs.Shape.{block_start, shape}
use Rattle.moving.proofs.Written.{written}
use Rattle.moving.proofs.write_moved.Given as goal

abbrev pub invariant-loop-block : goal.invariant-loop-block
invariant-loop-block l = take (block_start (shape l.model) l.block) l.out ≡ written (shape l.model) l.table l.variable l.shift l.block
