-- `states::read_cleared` meets its contract: the output holds zeros when the state is read. Assumes nothing.
use mathlib.Core.Path.{◌∙◌, ap}
use borrow.Author.Rules.{rules}
use lib.ListN.{length}
use Rattle.layout.specs.Shape.{shape}
use Rattle.layout.specs.Reading.{readings, read_number, read_output}
use Rattle.states.proofs.Each.{zeros-filled}
use Rattle.states.proofs.read_cleared.Goals as goal

pub returns-clause-number : goal.returns-clause-number
returns-clause-number c =
    let S = shape c.args.model in
    let cleared = c.fill.ensures.after (λ y k. search rules) ∙ zeros-filled S (length c.args.out.now) c.requires.room in
    c.read_sound.ensures.number ∙ ap (read_number S c.args.table.now (readings c.args.state)) cleared

pub returns-clause-output : goal.returns-clause-output
returns-clause-output c =
    let S = shape c.args.model in
    let cleared = c.fill.ensures.after (λ y k. search rules) ∙ zeros-filled S (length c.args.out.now) c.requires.room in
    c.read_sound.ensures.output ∙ ap (read_output S c.args.table.now (readings c.args.state)) cleared
