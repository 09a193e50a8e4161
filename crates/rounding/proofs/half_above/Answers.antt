-- `rounding::half_above` meets its contract: a few halves are a float, so that the product by a half rounds nothing.
use Rattle.std.proofs.Common.{◌+◌, ◌*◌, arith}
use Rattle.rounding.proofs.Comparisons.{halves}
use Rattle.rounding.proofs.half_above.Goals as goal

pub returns : goal.returns
returns c = halves (2 * c.args.q + 1) (omega arith) (omega arith)
