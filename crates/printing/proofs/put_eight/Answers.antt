-- The bytes of the word are the digits.
use Rattle.std.proofs.Common.{[], ◌/◌, ◌%◌, ap, ◌∙◌, arith}
use Rattle.std.proofs.lemmas.List.Edits.{sets}
use Rattle.printing.specs.Groups.{eight, unpacked}
use Rattle.printing.proofs.Words.{eight-bytes, unpacked-packed}
use Rattle.printing.proofs.put_eight.Goals as goal

pub digit_bytes-requires : goal.digit_bytes-requires
digit_bytes-requires c = (c.args.n / 10000, c.args.n % 10000, (omega arith, omega arith, c.eight_pairs.ensures))

pub returns : goal.returns
returns c =
    let a = c.args in
    c.put_bytes.ensures
    ∙ ap (λ w. sets a.out.now a.at (unpacked 8 w)) (c.digit_bytes.ensures (a.n / 10000) (a.n % 10000) (omega arith, omega arith, c.eight_pairs.ensures))
    ∙ ap (sets a.out.now a.at) (unpacked-packed (eight a.n) [] (eight-bytes a.n))
