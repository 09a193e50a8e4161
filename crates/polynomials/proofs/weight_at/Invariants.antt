-- The loop's invariant: the sum is the weight of the rows from the power q on; the first that is taken is the one above the degree, which is 0.
use Rattle.std.proofs.Common.{◌≡◌}
use Rattle.polynomials.proofs.DownwardBounds.{rows_weight}
use Rattle.polynomials.proofs.weight_at.Given as goal

abbrev pub invariant-loop-q : goal.invariant-loop-q
invariant-loop-q l = l.sum ≡ rows_weight l.degree l.group l.u.size l.v.size l.q
