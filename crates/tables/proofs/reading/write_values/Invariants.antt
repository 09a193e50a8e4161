-- `tables::reading::write_values` meets its contract. The loop's invariant: the places before `block` hold the coefficients. Assumes nothing.
use Rattle.std.proofs.Common.{◌≡◌, length, take}
use Rattle.polynomials.specs.Sum.{listed}
use Rattle.polynomials.specs.Groups.{total}
use Rattle.layout.specs.Shape.{shape}
use Rattle.layout.specs.Blocks.{coefficient, piece as piece_of}
use Rattle.layout.specs.Reading.{readings}
use Rattle.tables.proofs.reading.write_values.Given as goal

abbrev pub invariant-loop-block : goal.invariant-loop-block
invariant-loop-block l =
    record {
      room : length l.out ≡ (shape l.model).blocks;
      written : take l.block l.out ≡ listed l.block (λ b. total (coefficient (shape l.model) l.table b (piece_of l.piece)) (readings l.state));
    }
