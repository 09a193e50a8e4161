-- `moving::unless_unsound` meets its contract: a refusal of the table comes first. Assumes nothing.
use mathlib.Core.Path.{sym, ◌∙◌}
use native.Mathlib.Omega.{arith}
use Rattle.std.proofs.lemmas.Result.{err_from_is_err_and}
use Rattle.layout.specs.Shape.{shape}
use Rattle.layout.specs.Refusals.{refusal_number}
use Rattle.laws.proofs.Refused.{refused-positive}
use Rattle.tables.proofs.Steps.{first-apart, sound-facts}
use Rattle.tables.specs.Ready.{unsound}
use Rattle.moving.proofs.Steps.{sound-behind}
use Rattle.moving.proofs.unless_unsound.Goals as goal

pub returns-in_err-soundness : goal.returns-in_err-soundness
returns-in_err-soundness c =
    let e = c.in_err-soundness.ensures in
    let p = err_from_is_err_and c.from_residual.result c.from_residual.ensures.1 in
    rw (p.1, p.2) (e ∙ sym (first-apart (unsound (shape c.args.model) c.args.table.now) _ (λ none. omega (arith, e, none, refused-positive c.in_err-soundness.field-0.0))))

pub returns : goal.returns
returns c =
    let S = shape c.args.model in
    let f = sound-facts S c.args.table.now (sym c.in_ok-soundness.ensures) in
    sym (sound-behind S c.args.table.now (refusal_number c.args.refused) f.0 f.1)
