-- The loop's invariant: the row is what its magnitudes from the power p on come to.
use Rattle.std.proofs.Common.{◌≡◌, ◌-◌, ◌*◌, map, nat_abs}
use Rattle.polynomials.specs.Numbers.{nats}
use Rattle.polynomials.specs.Group.{number}
use Rattle.polynomials.specs.Downward.{down}
use Rattle.polynomials.proofs.add_row.Given as goal

abbrev pub invariant-loop-p : goal.invariant-loop-p
invariant-loop-p l = l.row ≡ down nats ◌*◌ (λ p. number nats (map nat_abs l.group) p l.q) l.u.size (l.last - l.p) l.p
