-- `limits::Limits::moved` meets its contract, place by place. Assumes nothing.
use mathlib.Core.Path.{refl}
use lib.IntN.{pos}
use borrow.Author.Rules.{rules}
use Rattle.layout.specs.Shape.{shape}
use Rattle.layout.specs.Numbers.{limits_room}
use Rattle.layout.specs.Moving.{moved_limit}
use Rattle.layout.proofs.Made.{made-listed}
use Rattle.limits.proofs.Limits.moved.Goals as goal

pub returns : goal.returns
returns c =
    let s = c.args.self in
    (refl, made-listed limits_room (moved_limit (shape s.model) c.args.variable c.args.shift s.numbers) (λ i y q h k. search rules) (pos 0) c.from_fn.result c.from_fn.ensures.items)
