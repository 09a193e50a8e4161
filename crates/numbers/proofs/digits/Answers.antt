-- Where the value passes 64 bits, so does the whole.
use Rattle.std.proofs.Common.{◌<◌, length, sym, ◌∙◌, arith}
use Rattle.std.proofs.lemmas.Bool.Decides.{nat_tests}
use Rattle.numbers.proofs.Reading.{past, whole}
use Rattle.numbers.proofs.digits.Goals as goal

pub returns-in_err-checked_mul : goal.returns-in_err-checked_mul
returns-in_err-checked_mul c =
    c.from_residual-in_err-checked_mul.ensures
    ∙ sym (past c.args.base c.requires c.args.word.now c.loop-byte.byte-index c.loop-byte.value c.loop-byte.invariant.read c.in_ok-digit.digit c.loop-byte-test.true (sym c.digit_of.ensures ∙ c.in_ok-digit.was) (omega (arith, c.in_err-checked_mul.ensures)))

pub returns-in_err-value : goal.returns-in_err-value
returns-in_err-value c =
    c.from_residual-in_err-value.ensures
    ∙ sym (past c.args.base c.requires c.args.word.now c.loop-byte.byte-index c.loop-byte.value c.loop-byte.invariant.read c.in_ok-digit.digit c.loop-byte-test.true (sym c.digit_of.ensures ∙ c.in_ok-digit.was) (omega (arith, c.in_ok-checked_mul.ensures, c.in_err-value.ensures)))

pub returns : goal.returns
returns c =
    let some : 0 < length c.args.word.now = grind (arith, nat_tests) in
    whole c.args.base c.requires c.args.word.now c.loop-byte.byte-index c.loop-byte.value c.loop-byte.invariant.read c.loop-byte-test.false some c.loop-byte.invariant.fits
