-- `take_piece`: the table stays, what is left of the piece is read on from the reading, and each turn takes some of it.
use Rattle.std.proofs.Common.{◌≡◌, length}
use Rattle.answers.specs.Reading.{readings_after}
use Rattle.trimcard.proofs.TrimcardAnswering.take_piece.Given as goal

abbrev pub invariant-loop-rest : goal.invariant-loop-rest
invariant-loop-rest g l = (l.self.table ≡ l.initial.self.table) × (readings_after l.self.reading l.rest ≡ readings_after l.initial.self.reading l.piece)

abbrev pub decreases-loop-rest : goal.decreases-loop-rest
decreases-loop-rest g l = length l.rest
