-- `shapes::table` meets its contract: the numbers of each model. Assumes nothing.
use Rattle.polynomials.specs.Order.{below}
use Rattle.layout.specs.Shape.{kinds_length}
use Rattle.shapes.proofs.table.Goals as goal

pub returns-in-Cumulus : goal.returns-in-Cumulus
unfolding kinds_length below
returns-in-Cumulus c = cc

pub returns-in-Gtm : goal.returns-in-Gtm
unfolding kinds_length below
returns-in-Gtm c = cc
