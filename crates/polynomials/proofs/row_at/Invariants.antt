-- The loop's invariant: the row is what its numbers from the power p on come to.
use Rattle.std.proofs.Common.{◌≡◌, ◌-◌}
use Rattle.polynomials.specs.Numbers.{ints}
use Rattle.polynomials.specs.Group.{number}
use Rattle.polynomials.specs.Downward.{down}
use Rattle.polynomials.proofs.row_at.Given as goal

abbrev pub invariant-loop-p : goal.invariant-loop-p
invariant-loop-p g l = l.row ≡ down ints g.P.Product.times (λ p. number ints l.group p l.q) l.x (l.last - l.p) l.p
