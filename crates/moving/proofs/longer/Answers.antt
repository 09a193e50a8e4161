-- `moving::longer` meets its contract. Assumes nothing.
use mathlib.Core.Path.{sym}
use native.Mathlib.Omega.{arith}
use Rattle.layout.specs.Numbers.{reaches_room}
use Rattle.polynomials.proofs.Listed.{listed-is}
use Rattle.moving.specs.Ready.{longer_at}
use Rattle.moving.proofs.longer.Goals as goal

pub returns : goal.returns
returns c =
    let l = c.loop-place in
    sym (listed-is 0 reaches_room (longer_at c.args.reaches c.args.variable c.args.more) l.reaches l.invariant.room (λ k h. l.invariant.done k (omega (arith, c.loop-place-test.false))))
