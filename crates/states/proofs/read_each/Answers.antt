-- Where no state is read yet, and one more.
use mathlib.Core.Path.{refl, ◌∙◌, ap}
use native.Mathlib.Omega.{arith}
use Prim.Native.Nat.{◌<◌}
use lib.ListN.{length}
use Rattle.layout.specs.Shape.{shape}
use Rattle.layout.specs.Reading.{read_number, read_output}
use Rattle.layout.specs.Many.{zeros}
use Rattle.layout.proofs.Fine.{few-variables}
use Rattle.states.proofs.Each.{state-held, none_read, one_more}
use Rattle.states.proofs.read_each.Goals as goal

pub loop-k-init : goal.loop-k-init
loop-k-init c = none_read _ _ _ _ c.args.numbers.now c.args.out.now refl c.requires.room

pub loop-k-preserved : goal.loop-k-preserved
loop-k-preserved c =
    let S = shape c.args.model in
    let t = c.args.table.now in
    let l = c.loop-k in
    let r = c.read_cleared in
    let there : l.k < length c.args.numbers.now = omega (arith, c.loop-k-test.true, l.invariant.count) in
    let state-is = state-held S c.args.states.now (length c.args.numbers.now) l.k there c.requires.given (few-variables c.args.model) c.variables-variables.ensures c.held-state.ensures in
    one_more _ _ _ _ l.numbers l.out l.k there l.invariant c.blocks-blocks.ensures (c.given_back.ensures ∙ r.ensures.number ∙ ap (λ x. read_number S t x (zeros S)) state-is)
    (r.ensures.output ∙ ap (λ x. read_output S t x (zeros S)) state-is) r.auto.out
