-- What the bytes that are left make of the value so far is what all make of 0.
use Rattle.std.proofs.Common.{◌≡◌, ◌≤◌, drop}
use Rattle.numbers.specs.Numbers.{kept, value_on, largest}
use Rattle.numbers.proofs.Reading.{within}
use Rattle.numbers.proofs.digits.Given as goal

abbrev pub invariant-loop-byte : goal.invariant-loop-byte
invariant-loop-byte l = record {
  fits : l.value ≤ largest;
  read : kept within (value_on l.base l.value (drop l.byte-index l.word)) ≡ kept within (value_on l.base 0 l.word);
}
