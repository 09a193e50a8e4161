-- By the length of the output.
use Rattle.std.proofs.Common.{sym, ◌∙◌}
use Rattle.laws.proofs.Published.{fitting, other}
use Rattle.tables.proofs.publishing.publish.Goals as goal

pub returns-then-out-table-clause-number : goal.returns-then-out-table-clause-number
returns-then-out-table-clause-number c = sym (other c.args.table.now c.args.out.now c.if-out-table.true).0

pub returns-then-out-table-clause-output : goal.returns-then-out-table-clause-output
returns-then-out-table-clause-output c = sym (other c.args.table.now c.args.out.now c.if-out-table.true).1

pub returns-clause-number : goal.returns-clause-number
returns-clause-number c = sym (fitting c.args.table.now c.args.out.now c.if-out-table.false).0

pub returns-clause-output : goal.returns-clause-output
returns-clause-output c = c.copy.ensures ∙ sym (fitting c.args.table.now c.args.out.now c.if-out-table.false).1
