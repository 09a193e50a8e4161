-- `limits::Limits::moved_limit` meets its contract, by whether the limit is the variable's: then it is one of the model's, which are small, and the
-- difference fits. Assumes nothing.
use mathlib.Core.Path.{◌≡◌, sym, ◌∙◌, ap}
use mathlib.Core.Bool.{Bool, true, false, cond}
use Prim.Native.Nat.{ℕ, ◌*◌, ◌≤◌, ◌<◌}
use native.Mathlib.Omega.{arith}
use borrow.Author.Tests.{eq-eqb, ne_eqb}
use lib.IntN.{ℤ, pos, nat_abs, ◌-ℤ◌, ◌*ℤ◌}
use lib.ListN.{get_or}
use mir.Syntax.{w64}
use mir.Val.{SFits}
use mir.Facts.{to_z-of_z}
use Rattle.whole.specs.Down.{thousand}
use Rattle.whole.proofs.Magnitudes.{nat_abs--}
use Rattle.whole.proofs.Identity.{quote, quote-pos, ring1}
use Rattle.whole.proofs.Linear.{zarith, quote-nat_abs}
use Rattle.whole.proofs.Machine.{nat_abs-sfits, op-bits, op-back}
use Rattle.layout.specs.Shape.{shape, limits_length}
use Rattle.layout.specs.Limits.{good, is_fine_cut, longest_shift}
use Rattle.layout.specs.Moving.{owner, shift_at, moved_limit}
use Rattle.layout.proofs.Fine.{well-formed}
use Rattle.laws.proofs.LimitLaws.{good-facts, limit-within}
use Rattle.limits.specs.declared.Limits.{Limits}
use Rattle.limits.proofs.Held.{held}
use Rattle.limits.proofs.Limits.moved_limit.Goals as goal

-- a shift is small in thousandths too
shift-within : (b : Bool) (s : ℤ) → nat_abs s ≤ longest_shift → nat_abs (cond b (pos thousand *ℤ s) s) ≤ thousand * longest_shift
shift-within true s = ring1 s (λ ρ e. simp (quote, quote-pos ρ, e, quote-nat_abs) (omega zarith))
shift-within false s = λ h. omega arith

-- what a variable of the model owns is one of its limits
less-fits : (s : Limits) (i k : ℕ) (z : ℤ) → good (shape s.model) s.numbers ≡ true → nat_abs z ≤ longest_shift → i < (shape s.model).variables → owner (shape s.model) k ≡ i
    → SFits w64 (get_or s.numbers k (pos 0) -ℤ shift_at (shape s.model) k z)
less-fits s i k z g near h e =
    let S = shape s.model in
    let number = get_or s.numbers k (pos 0) in
    let among : k < limits_length S = omega arith in
    nat_abs-sfits (number -ℤ shift_at S k z)
    (omega (arith, nat_abs-- number (shift_at S k z), limit-within S s.numbers (well-formed s.model).has-variable (good-facts S s.numbers g) k among, shift-within (is_fine_cut S k) z near))

pub overflow_sub-result : goal.overflow_sub-result
overflow_sub-result c =
    let a = c.args in
    op-bits ◌-ℤ◌ (held c.at-number.result c.at-number.type_inv c.at-number.ensures) (held c.shift_at.result c.shift_at.type_inv (c.shift_at.ensures ∙ ap (shift_at (shape a.self.model) a.place) (to_z-of_z c.ranges.shift)))
    (less-fits a.self a.variable a.place a.shift c.requires.0 c.requires.1.0 c.requires.1.1.0 (sym c.owner.ensures ∙ c.if-owner-variable.true))

pub returns-then-owner-variable : goal.returns-then-owner-variable
unfolding moved_limit
returns-then-owner-variable c =
    let a = c.args in
    let S = shape a.self.model in
    let number = get_or a.self.numbers a.place (pos 0) in
    let own = sym c.owner.ensures ∙ c.if-owner-variable.true in
    op-back ◌-ℤ◌ (held c.at-number.result c.at-number.type_inv c.at-number.ensures) (held c.shift_at.result c.shift_at.type_inv (c.shift_at.ensures ∙ ap (shift_at (shape a.self.model) a.place) (to_z-of_z c.ranges.shift)))
    (less-fits a.self a.variable a.place a.shift c.requires.0 c.requires.1.0 c.requires.1.1.0 own)
    ∙ sym (ap (λ (b : Bool). cond b (number -ℤ shift_at S a.place a.shift) number) (eq-eqb (owner S a.place) a.variable own))

pub returns : goal.returns
unfolding moved_limit
returns c =
    let a = c.args in
    let S = shape a.self.model in
    let number = get_or a.self.numbers a.place (pos 0) in
    held c.at-number.result c.at-number.type_inv c.at-number.ensures
    ∙ sym (ap (λ (b : Bool). cond b (number -ℤ shift_at S a.place a.shift) number) (ne_eqb (owner S a.place) a.variable (λ e. c.if-owner-variable.false (c.owner.ensures ∙ e))))
