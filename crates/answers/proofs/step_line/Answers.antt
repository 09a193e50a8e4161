use Rattle.std.proofs.Common.{[], ◌∷◌, get_or, sym, ap, ◌∙◌, subst}
use Rattle.lines.specs.State.{stepped, stepped_by}
use Rattle.lines.specs.declared.State.{State}
use Rattle.lines.proofs.Steps.{steps-append}
use Rattle.answers.specs.Reading.{part, Plain}
use Rattle.answers.proofs.Parts.{part-more, plain_more}
use Rattle.answers.proofs.step_line.Goals as goal

pub loop-end-preserved : goal.loop-end-preserved
loop-end-preserved c =
    let a = c.args in
    let end = c.loop-end.end in
    let byte = get_or a.input.now end 0 in
    let so_far = part a.input.now a.from end in
    let more = part-more a.input.now a.from end c.loop-end.auto.end c.loop-end-test.true in
    record {
      line = c.step-state.ensures ∙ ap (λ (s : State). stepped s byte) c.loop-end.invariant.line ∙ sym (steps-append a.line so_far (byte ∷ [])) ∙ ap (stepped_by a.line) (sym more);
      plain = subst Plain (sym more) (plain_more so_far byte c.loop-end.invariant.plain c.if-byte-eq10.false);
    }
