-- `limits::Limits::others_good` meets its contract. The loop's invariant: the limits of each variable before `variable` are good. Assumes nothing.
use Rattle.std.proofs.Common.{◌≡◌, true, ◌<◌, ◌≤◌, ◌-◌, ℕ}
use Rattle.layout.specs.Shape.{shape}
use Rattle.layout.specs.Numbers.{variables_room}
use Rattle.limits.specs.Good.{variable_good}
use Rattle.limits.proofs.Limits.others_good.Given as goal

abbrev pub invariant-loop-variable : goal.invariant-loop-variable
invariant-loop-variable l =
    record {
      least : 1 ≤ l.variable;
      most : l.variable ≤ variables_room;
      good : (i : ℕ) → 1 ≤ i → i < l.variable → i < (shape l.self.model).variables → variable_good (shape l.self.model) l.self.numbers i ≡ true;
    }

abbrev pub decreases-loop-variable : goal.decreases-loop-variable
decreases-loop-variable l = variables_room - l.variable
