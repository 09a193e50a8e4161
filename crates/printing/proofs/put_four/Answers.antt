-- The lowest bytes of the word are the digits.
use Rattle.std.proofs.Common.{ap, ◌∙◌, arith}
use Rattle.std.proofs.lemmas.List.Edits.{sets}
use Rattle.printing.specs.Groups.{four, unpacked}
use Rattle.printing.proofs.Words.{four_bytes, unpacked-packed}
use Rattle.printing.proofs.put_four.Goals as goal

pub digit_bytes-requires : goal.digit_bytes-requires
digit_bytes-requires c = (c.args.n, 0, (omega arith, omega arith, omega arith))

pub returns : goal.returns
returns c =
    let a = c.args in
    c.put_bytes.ensures
    ∙ ap (λ w. sets a.out.now a.at (unpacked 4 w)) (c.digit_bytes.ensures a.n 0 (omega arith, omega arith, omega arith))
    ∙ ap (sets a.out.now a.at) (unpacked-packed (four a.n) (four 0) (four_bytes a.n))
