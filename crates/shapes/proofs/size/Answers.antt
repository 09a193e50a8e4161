-- `shapes::size` meets its contract: half of a number times the next. Assumes nothing.
use mathlib.Core.Path.{◌∙◌, ap}
use Prim.Native.Nat.{◌+◌}
use native.Mathlib.Numerals.{add-one}
use Rattle.polynomials.specs.Order.{below}
use Rattle.polynomials.proofs.Places.{below-is}
use Rattle.shapes.proofs.size.Goals as goal

pub returns : goal.returns
returns c = let d = c.args.kind.degree in below-is (d + 1) ∙ ap below (add-one d)
