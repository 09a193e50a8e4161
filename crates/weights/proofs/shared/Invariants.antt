-- The loop's invariant: what is weighed, with the groups that are left, is the whole weight.
use Rattle.std.proofs.Common.{◌≤◌, drop}
use Rattle.polynomials.specs.Groups.{total_weight}
use Rattle.polynomials.specs.Limits.{cap}
use Rattle.layout.specs.Shape.{shape, shared, shared_at}
use Rattle.layout.specs.Blocks.{groups}
use Rattle.weights.specs.Ready.{high_in}
use Rattle.weights.proofs.Weighing.{Weighing}
use Rattle.weights.proofs.shared.Given as goal

abbrev pub invariant-loop-group : goal.invariant-loop-group
invariant-loop-group l =
    let S = shape l.model in
    let r = high_in l.reaches in
    Weighing S l.table r (total_weight (groups (shared S) (drop (shared_at S l.start) l.table)) r) l.group l.at l.sum × (l.sum ≤ cap)
