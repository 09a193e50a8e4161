-- `limits::Limits::cut_or_next` meets its contract: a cut in range is not the last number. Assumes nothing.
use mathlib.Core.Path.{◌≡◌, refl, sym, ◌∙◌, ap}
use mathlib.Core.Bool.{Bool, true, cond}
use native.Mathlib.Omega.{arith}
use lib.IntN.{pos, ◌+ℤ◌}
use mir.Syntax.{w64}
use mir.Val.{SFits}
use Rattle.whole.proofs.Magnitudes.{nat_abs-+}
use Rattle.whole.proofs.Machine.{nat_abs-sfits, op-bits, op-back}
use Rattle.layout.specs.Shape.{shape}
use Rattle.layout.specs.Limits.{cut, all_in_range}
use Rattle.layout.proofs.Fine.{well-formed}
use Rattle.laws.proofs.LimitLaws.{cut-within}
use Rattle.limits.specs.declared.Limits.{Limits}
use Rattle.limits.proofs.Held.{held}
use Rattle.limits.proofs.Limits.cut_or_next.Goals as goal

next_fits : (s : Limits) → all_in_range (shape s.model) s.numbers ≡ true → SFits w64 (cut (shape s.model) s.numbers +ℤ pos 1)
next_fits s r =
    let here = cut (shape s.model) s.numbers in
    nat_abs-sfits (here +ℤ pos 1) (omega (arith, nat_abs-+ here (pos 1), cut-within (shape s.model) s.numbers r (well-formed s.model).has-variable))

pub overflow_add-result : goal.overflow_add-result
overflow_add-result c = op-bits ◌+ℤ◌ (held c.at-cut.result c.at-cut.type_inv c.at-cut.ensures) (refl {a = pos 1}) (next_fits c.args.self c.requires)

pub returns-then-next : goal.returns-then-next
returns-then-next c =
    let s = c.args.self in
    let here = cut (shape s.model) s.numbers in
    op-back ◌+ℤ◌ (held c.at-cut.result c.at-cut.type_inv c.at-cut.ensures) (refl {a = pos 1}) (next_fits s c.requires)
    ∙ sym (ap (λ (b : Bool). cond b (here +ℤ pos 1) here) c.if-next.true)
