-- What is taken away from the pairs is there, and leaves the digits.
use Rattle.printing.proofs.Words.{tens-covered, eight-word}
use Rattle.printing.proofs.digit_bytes.Goals as goal

pub overflow_sub-result : goal.overflow_sub-result
overflow_sub-result c =
    let p = c.requires.2 in
    tens-covered c.requires.0 c.requires.1 p.0 p.1 c.args.pairs p.2

pub returns : goal.returns
returns c x y p = eight-word x y p.0 p.1 c.args.pairs p.2
