-- `shapes::start` meets its contract: every block lies in the table, and no table is long. Assumes nothing.
use mathlib.Core.Path.{ap}
use Prim.Native.Nat.{◌*◌}
use native.Mathlib.Omega.{arith}
use Rattle.layout.specs.Shape.{shape}
use Rattle.layout.proofs.Fine.{inside, few-table}
use Rattle.shapes.proofs.start.Goals as goal

pub overflow_mul-result : goal.overflow_mul-result
overflow_mul-result c = omega (arith, ap (λ n. n * c.args.index) c.block.ensures, inside (shape c.args.model) c.args.index c.requires, few-table c.args.model)

pub overflow_add-result : goal.overflow_add-result
overflow_add-result c = omega (arith, ap (λ n. n * c.args.index) c.block.ensures, c.limits.ensures, inside (shape c.args.model) c.args.index c.requires, few-table c.args.model)
