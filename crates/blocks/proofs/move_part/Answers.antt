-- `blocks::move_part` meets its contract, by which of the group's variables is moved. Assumes nothing.
use mathlib.Core.Path.{sym, ◌∙◌}
use Rattle.polynomials.specs.Binomial.{shift_in}
use Rattle.blocks.proofs.Shifts.{moved-u, moved_v, moved-neither, movable-u, movable-v}
use Rattle.blocks.proofs.move_part.Goals as goal

pub move_group-requires-clause-movable : goal.move_group-requires-clause-movable
move_group-requires-clause-movable c =
    let a = c.args in
    movable-u a.kind.u a.kind.v a.variable (shift_in a.rows.now.numbers) a.from.now c.requires.shiftable c.if-kind-variable.true

pub returns-then-kind-variable : goal.returns-then-kind-variable
returns-then-kind-variable c =
    let a = c.args in
    c.move_group.ensures ∙ sym (moved-u a.kind.u a.kind.v a.variable (shift_in a.rows.now.numbers) a.from.now c.requires.shiftable c.if-kind-variable.true)

pub move_group-requires-then-kind-variable-2-clause-movable : goal.move_group-requires-then-kind-variable-2-clause-movable
move_group-requires-then-kind-variable-2-clause-movable c =
    let a = c.args in
    movable-v a.kind.u a.kind.v a.variable (shift_in a.rows.now.numbers) a.from.now c.requires.shiftable c.if-kind-variable.false c.if-kind-variable-2.true

pub returns-then-kind-variable-2 : goal.returns-then-kind-variable-2
returns-then-kind-variable-2 c =
    let a = c.args in
    c.move_group-then-kind-variable-2.ensures
    ∙ sym (moved_v a.kind.u a.kind.v a.variable (shift_in a.rows.now.numbers) a.from.now c.requires.shiftable c.if-kind-variable.false c.if-kind-variable-2.true)

pub returns : goal.returns
returns c =
    let a = c.args in
    c.copy.ensures ∙ sym (moved-neither a.kind.u a.kind.v a.variable (shift_in a.rows.now.numbers) a.from.now c.requires.shiftable c.if-kind-variable.false c.if-kind-variable-2.false)
