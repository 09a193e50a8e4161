-- `limits::Limits::reaches` meets its contract, place by place. Assumes nothing.
use mathlib.Core.List.{[], ◌∷◌}
use Rattle.polynomials.specs.Sum.{listed}
use Rattle.limits.proofs.Limits.reaches.Goals as goal

pub returns : goal.returns
unfolding listed
returns c = λ i. c.reach.ensures i ∷ c.reach-2.ensures i ∷ c.reach-3.ensures i ∷ c.reach-4.ensures i ∷ c.reach-5.ensures i ∷ c.reach-6.ensures i ∷ []
