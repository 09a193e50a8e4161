use Rattle.std.proofs.Common.{◌≡◌, ◌+◌, ◌*◌, ◌≤◌, length, take}
use Rattle.printing.specs.Spell.{longest_number, written}
use Rattle.answers.specs.Answers.{spaced}
use Rattle.answers.proofs.put_values.Given as goal

-- the output holds the values passed, each behind a space
abbrev pub invariant-loop-value : goal.invariant-loop-value
invariant-loop-value l = record {
  place : l.place ≡ l.at + length (spaced (take l.value-index l.fn.values));
  room : length (spaced (take l.value-index l.fn.values)) ≤ (1 + longest_number) * l.value-index;
  output : l.out ≡ written l.initial.out l.at (spaced (take l.value-index l.fn.values));
}
