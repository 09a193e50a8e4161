-- `limits::Limits::outside` meets its contract. The loop's invariant: every reading before `variable` is inside its limits. Assumes nothing.
use Rattle.std.proofs.Common.{◌≡◌, false, not, ◌<◌, ℕ}
use Rattle.layout.specs.Shape.{shape}
use Rattle.layout.specs.Reading.{readings, inside}
use Rattle.limits.proofs.Limits.outside.Given as goal

abbrev pub invariant-loop-variable : goal.invariant-loop-variable
invariant-loop-variable l = (i : ℕ) → i < l.variable → i < (shape l.self.model).variables → not (inside (shape l.self.model) l.self.numbers (readings l.state) i) ≡ false
