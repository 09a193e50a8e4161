-- `states::read_each` meets its contract. The loop's invariant: the states before `k` are read, and stand at their places. Assumes nothing.
use Rattle.std.proofs.Common.{length}
use Rattle.layout.specs.Shape.{shape}
use Rattle.layout.specs.Many.{number_at, output_at}
use Rattle.states.proofs.Each.{Before}
use Rattle.states.proofs.read_each.Given as goal

abbrev pub invariant-loop-k : goal.invariant-loop-k
invariant-loop-k l = Before (shape l.model).blocks (length l.initial.numbers) (number_at (shape l.model) l.table l.states) (output_at (shape l.model) l.table l.states) l.numbers l.out l.k
