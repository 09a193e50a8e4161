-- `microradians::write_answers` writes one answer more at each turn. Assumes nothing.
use Rattle.std.proofs.Common.{arith, ◌<◌, refl, ◌∙◌, length}
use Rattle.polynomials.specs.Sum.{listed}
use Rattle.polynomials.proofs.Listed.{listed_more}
use Rattle.polynomials.proofs.Turns.{read-back}
use Rattle.microradians.proofs.write_answers.Goals as goal

pub loop-block-init : goal.loop-block-init
unfolding listed
loop-block-init c = refl

pub loop-block-preserved : goal.loop-block-preserved
loop-block-preserved c =
    let here : c.loop-block.block < length c.loop-block.out = omega arith in
    listed_more c.loop-block.out _ c.loop-block.block _ here c.loop-block.invariant (read-back c.coefficient_at.type_inv ∙ c.coefficient_at.ensures)
