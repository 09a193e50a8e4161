use Rattle.std.proofs.Common.{◌≡◌, ℕ, ◌+◌, ◌-◌, ◌<◌, ◌≤◌, length, take}
use Rattle.printing.specs.Spell.{written}
use Rattle.answers.specs.Answers.{longest}
use Rattle.answers.specs.Reading.{readings_after, answers_of}
use Rattle.answers.proofs.feed.Given as goal

-- the reading and the output are those of the bytes taken, and there was room before each
abbrev pub invariant-loop-fed : goal.invariant-loop-fed
invariant-loop-fed l = record {
  within : l.fed.taken ≤ length l.input;
  reading : l.fed.reading ≡ readings_after l.fn.reading (take l.fed.taken l.input);
  place : l.fed.put ≡ length (answers_of l.table l.fn.reading (take l.fed.taken l.input));
  room : l.fed.put ≤ length l.out;
  output : l.out ≡ written l.initial.out 0 (answers_of l.table l.fn.reading (take l.fed.taken l.input));
  roomy : (i : ℕ) → i < l.fed.taken → length (answers_of l.table l.fn.reading (take i l.input)) + longest ≤ length l.out;
}

abbrev pub decreases-loop-fed : goal.decreases-loop-fed
decreases-loop-fed l = length l.input - l.fed.taken
