-- `gtm::publish` meets its contract, by that of `tables::publishing::publish`: the constant is the table by computation. Assumes nothing.
use Rattle.polynomials.specs.Order.{powers, below}
use Rattle.polynomials.specs.Sum.{listed}
use Rattle.layout.specs.Blocks.{laid_out}
use Rattle.gtm_page.specs.Published.{published}
use Rattle.gtm.proofs.publish.Goals as goal

pub returns-clause-number : goal.returns-clause-number
unfolding published laid_out listed powers below
returns-clause-number c = c.publish.ensures.number

pub returns-clause-output : goal.returns-clause-output
unfolding published laid_out listed powers below
returns-clause-output c = c.publish.ensures.output
