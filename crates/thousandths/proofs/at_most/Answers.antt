-- `thousandths::at_most` meets its contract: 1000·x is at most a whole number where it is so rounded up.
use mathlib.Core.Path.{ap₂, ◌∙◌}
use lib.Signed.{le_z}
use mir.Syntax.{w64}
use mir.Facts.{to_z-of_z}
use Rattle.thousandths.proofs.Up.{up-at-most}
use Rattle.thousandths.proofs.at_most.Goals as goal

pub returns : goal.returns
returns c =
    ap₂ le_z (to_z-of_z {w = w64} (record { sfits = c.thousandths_up.type_inv }) ∙ c.thousandths_up.ensures) (to_z-of_z c.ranges.thousandths) ∙ up-at-most c.args.x c.args.thousandths
