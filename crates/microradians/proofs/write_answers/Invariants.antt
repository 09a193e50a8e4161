-- The loop's invariant: the places before `block` hold the answers.
use Rattle.std.proofs.Common.{◌≡◌, take}
use Rattle.polynomials.specs.Sum.{listed}
use Rattle.layout.specs.Blocks.{piece as piece_of}
use Rattle.layout.specs.Reading.{readings}
use Rattle.cumulus_page.specs.Model.{coefficient_at}
use Rattle.microradians.specs.Answer.{answer_in}
use Rattle.microradians.proofs.write_answers.Given as goal

abbrev pub invariant-loop-block : goal.invariant-loop-block
invariant-loop-block l = take l.block l.out ≡ listed l.block (λ b. answer_in (piece_of l.piece) (coefficient_at b) (readings l.state))
