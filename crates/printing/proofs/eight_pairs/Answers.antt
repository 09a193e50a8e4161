-- What is taken away from the fours is there, and leaves the pairs.
use Rattle.printing.proofs.Words.{hundreds-covered, split-pairs}
use Rattle.printing.proofs.eight_pairs.Goals as goal

pub overflow_sub-result : goal.overflow_sub-result
overflow_sub-result c = hundreds-covered c.args.n c.requires

pub returns : goal.returns
returns c = split-pairs c.args.n c.requires
