-- The loop's invariant: the sum is what the rows from the power q on come to.
use Rattle.std.proofs.Common.{◌≡◌, ◌-◌}
use Rattle.polynomials.specs.Numbers.{ints}
use Rattle.polynomials.specs.Group.{number}
use Rattle.polynomials.specs.Downward.{down, row_downward}
use Rattle.polynomials.proofs.group_at.Given as goal

abbrev pub invariant-loop-q : goal.invariant-loop-q
invariant-loop-q g l =
    let times = g.P.Product.times in l.sum ≡ down ints times (row_downward ints times l.degree (number ints l.group) l.x) l.y (l.degree - l.q) l.q
