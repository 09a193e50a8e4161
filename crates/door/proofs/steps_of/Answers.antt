-- `door::steps_of` meets its contract.
use Rattle.std.proofs.Common.{refl, ◌∙◌, ap, ap₂, arith}
use lib.ListN.{length-set}
use Rattle.polynomials.specs.Sum.{listed}
use Rattle.polynomials.proofs.Listed.{listed_more, listed-all}
use Rattle.layout.specs.Limits.{lowest, highest}
use Rattle.layout.specs.Shape.{cumulus, shape}
use Rattle.limits.proofs.Held.{held}
use Rattle.laws.proofs.LimitLaws.{lowest-within, highest-within}
use Rattle.rounding.specs.Reading.{step_of}
use Rattle.door.specs.Door.{floats, step_at}
use Rattle.door.proofs.steps_of.Goals as goal

pub loop-i-init : goal.loop-i-init
unfolding listed
loop-i-init c = (refl, refl)

pub step_of-requires-clause-lowest_in_range : goal.step_of-requires-clause-lowest_in_range
step_of-requires-clause-lowest_in_range c =
    rw (held c.lowest.result c.lowest.type_inv (c.lowest.ensures ∙ ap (λ m. lowest (shape m) c.args.limits.numbers c.loop-i.i) c.requires.model))
    (lowest-within cumulus c.args.limits.numbers c.requires.in_range c.loop-i.i c.loop-i-test.true)

pub step_of-requires-clause-highest_in_range : goal.step_of-requires-clause-highest_in_range
step_of-requires-clause-highest_in_range c =
    rw (held c.highest.result c.highest.type_inv (c.highest.ensures ∙ ap (λ m. highest (shape m) c.args.limits.numbers c.loop-i.i) c.requires.model))
    (highest-within cumulus c.args.limits.numbers c.requires.in_range c.loop-i.i c.loop-i-test.true)

pub loop-i-preserved : goal.loop-i-preserved
loop-i-preserved c =
    let l = c.loop-i in
    let low = held c.lowest.result c.lowest.type_inv (c.lowest.ensures ∙ ap (λ m. lowest (shape m) c.args.limits.numbers l.i) c.requires.model) in
    let high = held c.highest.result c.highest.type_inv (c.highest.ensures ∙ ap (λ m. highest (shape m) c.args.limits.numbers l.i) c.requires.model) in (
      length-set l.steps l.i _ ∙ l.invariant.0,
      listed_more l.steps (step_at cumulus c.args.limits.numbers (floats c.args.readings)) l.i _ (omega (arith, l.invariant.0)) l.invariant.1
          (c.step_of.ensures ∙ ap₂ (step_of (floats c.args.readings l.i)) low high),
    )

pub returns : goal.returns
returns c =
    let l = c.loop-i in
    listed-all l.steps (step_at cumulus c.args.limits.numbers (floats c.args.readings)) l.i cumulus.variables l.invariant.0 (omega arith) l.invariant.1
