-- `take_piece` meets its contract: what a turn leaves of the rest is read on from the reading that it gives.
use Rattle.std.proofs.Common.{◌∙◌, ap, sym, take, drop, take-append-drop}
use Rattle.std.proofs.lemmas.List.{take_rest}
use Rattle.answers.specs.Reading.{readings_after}
use Rattle.answers.proofs.Program.{readings-append}
use Rattle.trimcard.proofs.TrimcardAnswering.take_piece.Goals as goal

pub loop-rest-preserved : goal.loop-rest-preserved
loop-rest-preserved g c =
    let before = c.loop-rest.self.reading in
    let rest = c.loop-rest.rest.now in
    let fed = c.feed-fed in
    let n = fed.result.taken in
    let (table, read) = c.loop-rest.invariant in (
      table,
      ap (readings_after fed.result.reading) (take_rest rest n)
          ∙ ap (λ after. readings_after after (drop n rest)) fed.ensures.reading
          ∙ sym (readings-append before (take n rest) (drop n rest))
          ∙ ap (readings_after before) (take-append-drop n rest)
          ∙ read,
    )
