-- By the two lengths, and then by `soundness`.
use Rattle.std.proofs.Common.{sym, ◌∙◌}
use borrow.Author.Tests.{eq-eqb, ne_eqb}
use Rattle.layout.specs.Shape.{shape}
use Rattle.layout.specs.Refusals.{wrong_table, wrong_output}
use Rattle.laws.proofs.Refused.{first-hit, first-skip}
use Rattle.tables.proofs.Steps.{into-whole}
use Rattle.tables.proofs.soundness.refusal_into.Goals as goal

pub returns-then-table : goal.returns-then-table
returns-then-table c = sym (first-hit wrong_table _ (ne_eqb _ _ (λ e. c.if-table.true (e ∙ sym c.table.ensures))))

pub returns-then-length-blocks : goal.returns-then-length-blocks
returns-then-length-blocks c =
    sym (first-skip wrong_table _ (eq-eqb _ _ (c.if-table.false ∙ c.table.ensures)) ∙ first-hit wrong_output _ (ne_eqb _ _ (λ e. c.if-length-blocks.true (e ∙ sym c.blocks-2.ensures))))

pub returns : goal.returns
returns c =
    c.soundness.ensures ∙ into-whole (shape c.args.model) c.args.table.now c.args.length (c.if-table.false ∙ c.table.ensures) (c.if-length-blocks.false ∙ c.blocks-2.ensures)
