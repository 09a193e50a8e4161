use Rattle.std.proofs.Common.{◌≡◌, ◌-◌, length}
use Rattle.std.proofs.lemmas.List.Edits.{sets}
use Rattle.printing.specs.Groups.{unpacked}
use Rattle.printing.proofs.put_bytes.Given as goal

-- with the bytes of the rest stored behind, the output is what it is to be
abbrev pub invariant-loop-i : goal.invariant-loop-i
invariant-loop-i l =
    (length l.out ≡ length l.initial.out)
    × (sets l.out l.i (unpacked (l.i-end - l.i) l.rest) ≡ sets l.initial.out l.at (unpacked l.count l.word))
