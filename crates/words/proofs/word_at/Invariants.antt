-- What is left of the line has the words behind as many as were passed.
use Rattle.std.proofs.Common.{◌≡◌, drop}
use Rattle.words.specs.Words.{words}
use Rattle.words.proofs.word_at.Given as goal

abbrev pub invariant-loop : goal.invariant-loop
invariant-loop l = drop l.counter (words l.line) ≡ words l.rest
