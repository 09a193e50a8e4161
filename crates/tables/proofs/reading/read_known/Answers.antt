-- A refusal of the table or of the output is the read's, and where there is none the table is sound.
use Rattle.std.proofs.Common.{sym, ◌∙◌, ap, Err}
use Rattle.std.proofs.lemmas.Result.{err_from_is_err_and}
use native.Mathlib.Omega.{arith}
use Rattle.layout.specs.Shape.{shape}
use Rattle.layout.specs.Refusals.{given_back}
use Rattle.layout.specs.Reading.{readings}
use Rattle.laws.proofs.Refused.{refused-positive}
use Rattle.tables.proofs.Steps.{into-sound, read-refused}
use Rattle.tables.proofs.reading.read_known.Goals as goal

pub returns-in_err-known-clause-number : goal.returns-in_err-known-clause-number
returns-in_err-known-clause-number c =
    let a = c.args in
    let r = c.in_err-known.field-0.0 in
    let p = err_from_is_err_and c.from_residual.result c.from_residual.ensures.1 in
    rw (p.1, p.2) ((read-refused (shape a.model) a.table.now (readings a.state) a.out.now _ (sym (ap given_back c.in_err-known.was) ∙ c.requires) (λ z. omega (arith, z, refused-positive r))).0)

pub returns-in_err-known-clause-output : goal.returns-in_err-known-clause-output
returns-in_err-known-clause-output c =
    let a = c.args in
    let r = c.in_err-known.field-0.0 in
    (read-refused (shape a.model) a.table.now (readings a.state) a.out.now _ (sym (ap given_back c.in_err-known.was) ∙ c.requires) (λ z. omega (arith, z, refused-positive r))).1

pub read_sound-requires : goal.read_sound-requires
read_sound-requires c =
    let a = c.args in
    let s = into-sound (shape a.model) a.table.now _ (sym c.requires ∙ ap given_back c.in_ok-known.was) in
    record { whole = s.0; room = s.1.0; limits = s.1.1.0; weights = s.1.1.1 }
