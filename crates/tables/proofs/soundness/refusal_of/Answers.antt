-- By the length, and then by `soundness`.
use Rattle.std.proofs.Common.{sym, ◌∙◌}
use borrow.Author.Tests.{ne_eqb}
use Rattle.layout.specs.Shape.{shape}
use Rattle.layout.specs.Refusals.{wrong_table}
use Rattle.laws.proofs.Refused.{first-hit}
use Rattle.tables.proofs.Steps.{known-whole}
use Rattle.tables.proofs.soundness.refusal_of.Goals as goal

pub returns-then-table : goal.returns-then-table
returns-then-table c = sym (first-hit wrong_table _ (ne_eqb _ _ (λ e. c.if-table.true (e ∙ sym c.table.ensures))))

pub returns-else-table : goal.returns-else-table
returns-else-table c = c.soundness.ensures ∙ known-whole (shape c.args.model) c.args.table.now (c.if-table.false ∙ c.table.ensures)
