-- `limits::Limits::outside` meets its contract: where a reading is outside it is the first, and where none is nothing is refused. Assumes nothing.
use mathlib.Core.Path.{sym, ◌∙◌, ap}
use mathlib.Core.Bool.{not}
use mathlib.Core.List.{List}
use Prim.Native.Nat.{ℕ}
use native.Mathlib.Omega.{arith}
use borrow.Author.Rules.{rules}
use lib.IntN.{ℤ}
use Rattle.layout.specs.Shape.{Shape, shape}
use Rattle.layout.specs.Refusals.{Refusal, outside, ◌when◌}
use Rattle.layout.specs.Reading.{readings, inside}
use Rattle.layout.proofs.Fine.{few-variables}
use Rattle.limits.proofs.Firsts.{first-none, first-at}
use Rattle.limits.proofs.Limits.outside.Goals as goal

abbrev refusals : Shape → List ℤ → List ℤ → ℕ → Refusal
refusals S t x i = outside S i when not (inside S t (readings x) i)

pub returns-then-not-inside : goal.returns-then-not-inside
returns-then-not-inside c =
    let a = c.args in
    let S = shape a.self.model in
    c.outside.ensures
    ∙ sym (first-at (refusals S a.self.numbers a.state.now) c.loop-variable.variable (λ i h. c.loop-variable.invariant i h (omega (arith, c.variables.ensures, c.if-variable-variables.true)))
    (ap not (sym (c.inside.ensures ∙ search rules) ∙ c.if-not-inside.true)) _ (omega (arith, c.variables.ensures, c.if-variable-variables.true)))

pub returns : goal.returns
returns c =
    let a = c.args in
    let S = shape a.self.model in
    sym (first-none (refusals S a.self.numbers a.state.now) S.variables (λ i h. c.loop-variable.invariant i (omega (arith, few-variables a.self.model)) h))
