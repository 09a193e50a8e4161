-- The number and the coefficients are those that the table gives back, or 31 and zeros.
use Rattle.std.proofs.Common.{◌≡◌, refl, sym, ap, ap₂, subst, ◌∙◌, ℕ, ◌+◌, ◌<◌, ℤ, List, Option, Some, None, length, arith}
use Rattle.printing.specs.Spell.{written}
use Rattle.layout.specs.Shape.{cumulus}
use Rattle.layout.specs.Reading.{readings, read_number, read_output}
use Rattle.tables.proofs.Steps.{into-room}
use Rattle.answers.specs.Answers.{numbered, zeros, line_answer}
use Rattle.answers.proofs.Numbers.{read-few}
use Rattle.answers.proofs.Known.put_line.Goals as goal
use Rattle.answers.proofs.Known.put_line.Goals.{in-None, in-Some}

-- what no readings are answered, and what readings are
malformed : (t : List ℤ) {line : Option (List ℤ)} {number : ℕ} {values : List ℤ} → line ≡ None → number ≡ 31 → values ≡ zeros → numbered number values ≡ line_answer t line
unfolding line_answer
malformed t e f g = ap₂ numbered f g ∙ ap (line_answer t) (sym e)

answered : (t : List ℤ) {line : Option (List ℤ)} {state : List ℤ} {number : ℕ} {values : List ℤ} → line ≡ Some state
    → number ≡ read_number cumulus t (readings state) zeros → values ≡ read_output cumulus t (readings state) zeros → numbered number values ≡ line_answer t line
unfolding line_answer
answered t e f g = ap₂ numbered f g ∙ ap (line_answer t) (sym e)

pub read_known-outcome-requires : goal.read_known-outcome-requires
read_known-outcome-requires c = c.args.self.now.own ∙ into-room cumulus c.args.self.now.table.now (length zeros) refl

pub put_answer-requires : goal.put_answer-requires
put_answer-requires c =
    let few : c.match-line.number < 10000 = elim c.match-line.branch [
      | in-None w ↦ omega (arith, w.number-is)
      | in-Some w ↦ subst (λ n. n < 10000) (sym (w.number-is ∙ w.given_back-number.ensures ∙ w.read_known-outcome.ensures.number)) (read-few c.args.self.now.table.now _ zeros)
    ] in
    (few, c.requires)

pub returns : goal.returns
returns c =
    let t = c.args.self.now.table.now in
    let whole : numbered c.match-line.number c.match-line.values ≡ line_answer t c.args.line = elim c.match-line.branch [
      | in-None w ↦ malformed t w.in-None.is w.number-is w.values-is
      | in-Some w ↦ answered t w.in-Some.is (w.number-is ∙ w.given_back-number.ensures ∙ w.read_known-outcome.ensures.number) (w.values-is ∙ w.read_known-outcome.ensures.output)
    ] in
    record {
      place = c.put_answer.ensures.place ∙ ap (λ bytes. c.args.at + length bytes) whole;
      output = c.put_answer.ensures.output ∙ ap (written c.args.out.now c.args.at) whole;
      room = c.put_answer.ensures.room;
    }
