-- The bytes up to a newline answer nothing, and the newline answers the line.
use Rattle.std.proofs.Common.{◌+◌, length, sym, ap, ◌∙◌, subst, arith}
use Rattle.printing.specs.Spell.{written}
use Rattle.answers.specs.Answers.{line_answer}
use Rattle.answers.specs.Reading.{Taken}
use Rattle.answers.proofs.Parts.{took-rest, took-line}
use Rattle.answers.proofs.Known.take_line.Goals as goal

pub returns-then-end-input : goal.returns-then-end-input
returns-then-end-input c =
    let a = c.args in
    took-rest a.self.now.table.now a.fed.reading a.input.now a.fed.taken a.out.now a.fed.put c.step_line-end.result c.step_line-end.ensures c.requires.byte c.if-end-input.true (omega (arith, c.requires.room))

pub returns : goal.returns
returns c =
    let a = c.args in
    let part = c.step_line-end in
    let line = c.put_line-put in
    let whole = ap (line_answer a.self.now.table.now) c.finish.ensures in
    subst (Taken a.self.now.table.now a.fed.reading a.input.now a.fed.taken a.out.now line.new.out a.fed.put)
    (ap (λ s. record { reading = s; taken = part.result.end + 1; put = line.result }) (sym c.fresh.ensures))
    (took-line a.self.now.table.now a.fed.reading a.input.now a.fed.taken a.out.now a.fed.put part.result part.ensures line.new.out line.result c.if-end-input.false
    (line.ensures.place ∙ ap (λ bytes. a.fed.put + length bytes) whole) (line.ensures.output ∙ ap (written a.out.now a.fed.put) whole) line.ensures.room)
