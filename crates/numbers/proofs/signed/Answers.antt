-- A word with a minus, and one without.
use Rattle.std.proofs.Common.{sym, ap, ◌∙◌, Some, None}
use Rattle.numbers.specs.Numbers.{digits, largest}
use Rattle.numbers.proofs.Signs.{negative, positive}
use Rattle.numbers.proofs.signed.Goals as goal

pub returns-in_err-digits-in-Some : goal.returns-in_err-digits-in-Some
returns-in_err-digits-in-Some c =
    negative c.args.word.now None _ c.in-Some.ensures.cases.0 (sym c.in_err-digits-in-Some.was ∙ c.digits.ensures ∙ ap (digits 10 largest) c.in-Some.ensures.cases.1) c.from_residual.ensures

pub returns-in_ok-digits-in-Some : goal.returns-in_ok-digits-in-Some
returns-in_ok-digits-in-Some c =
    negative c.args.word.now (Some c.in_ok-digits-in-Some.field-0) _ c.in-Some.ensures.cases.0 (sym c.in_ok-digits-in-Some.was ∙ c.digits.ensures ∙ ap (digits 10 largest) c.in-Some.ensures.cases.1) c.checked_sub_unsigned.ensures

pub returns-in_err-digits-in-None : goal.returns-in_err-digits-in-None
returns-in_err-digits-in-None c =
    positive c.args.word.now None _ (Unit {0}) c.in-None.ensures.cases (sym c.in_err-digits-in-None.was ∙ c.digits-in-None.ensures) c.from_residual-in_err-digits-in-None.ensures

pub returns-in_ok-digits-in-None : goal.returns-in_ok-digits-in-None
returns-in_ok-digits-in-None c =
    positive c.args.word.now (Some c.in_ok-digits-in-None.field-0) _ _ c.in-None.ensures.cases (sym c.in_ok-digits-in-None.was ∙ c.digits-in-None.ensures) (c.try_from.result, c.ok.ensures.value, c.try_from.ensures)
