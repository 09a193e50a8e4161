-- `thousandths::thousandths_up` meets its contract: 1000 times the digits fits with room for 1 more, and so does what a shift leaves of it.
use mathlib.Core.Path.{◌≡◌, refl, sym, ap, ◌∙◌, subst}
use Prim.Native.Nat.{ℕ, ◌+◌, ◌*◌, ◌^◌, ◌≤◌, ◌<◌}
use native.Mathlib.Omega.{arith}
use lib.IntN.{ℤ, pos, neg_ℤ, nat_abs, ◌+ℤ◌, ◌-ℤ◌, +ℤ_idl}
use lib.Ieee.{of_bits}
use mir.Syntax.{w64}
use mir.Val.{SFits}
use mir.Facts.{to_z-of_z}
use Rattle.whole.specs.Down.{thousand, rounded_down}
use Rattle.whole.proofs.Magnitudes.{nat_abs-+, nat_abs--}
use Rattle.whole.proofs.Machine.{nat_abs-sfits, op-bits, op-back}
use Rattle.whole.proofs.Down.{down-size}
use Rattle.thousandths.proofs.Up.{one, up-below, up_from}
use Rattle.thousandths.proofs.thousandths_up.Goals as goal

no-larger : (m : ℕ) (z r : ℤ) → r ≡ rounded_down m z → nat_abs r ≤ nat_abs z
no-larger m z r e = subst (λ y. nat_abs y ≤ nat_abs z) (sym e) (down-size m z)

-- ---- what is shifted, from digits d, and what a shift by s places leaves of it
module _ (d s : ℕ) (few : d < 2 ^ 53) where
  abbrev n : ℤ
  n = pos (thousand * d)

  room : nat_abs n + 2 < 2 ^ 63
  room = omega (arith, few)

  fits : SFits w64 n
  fits = nat_abs-sfits n (omega (arith, room))

  less-fits : SFits w64 (n -ℤ one)
  less-fits = nat_abs-sfits (n -ℤ one) (omega (arith, nat_abs-- n (one), room))

  turned-fits : (r : ℤ) → r ≡ rounded_down (2 ^ s) n → SFits w64 (pos 0 -ℤ r)
  turned-fits r e = nat_abs-sfits (pos 0 -ℤ r) (omega (arith, nat_abs-- (pos 0) r, no-larger (2 ^ s) n r e, room))

  more-fits : (r : ℤ) → r ≡ rounded_down (2 ^ s) (n -ℤ one) → SFits w64 (r +ℤ one)
  more-fits r e = nat_abs-sfits (r +ℤ one) (omega (arith, nat_abs-+ r (one), no-larger (2 ^ s) (n -ℤ one) r e, nat_abs-- n (one), room))

-- ---- below zero
pub overflow_sub-result : goal.overflow_sub-result
overflow_sub-result c =
    let p = c.parts_of-p.result in
    let few = c.parts_of-p.ensures.few in
    let is = c.shifted_down.ensures ∙ ap (rounded_down (2 ^ p.shift)) (to_z-of_z (fits p.digits p.shift few)) in
    let r : SFits w64 c.shifted_down.result = record { sfits = c.shifted_down.type_inv } in
    op-bits ◌-ℤ◌ (refl {a = pos 0}) (to_z-of_z r) (turned-fits p.digits p.shift few c.shifted_down.result is)

pub returns-then-x : goal.returns-then-x
unfolding of_bits
returns-then-x c =
    let p = c.parts_of-p.result in
    let few = c.parts_of-p.ensures.few in
    let is = c.shifted_down.ensures ∙ ap (rounded_down (2 ^ p.shift)) (to_z-of_z (fits p.digits p.shift few)) in
    let r : SFits w64 c.shifted_down.result = record { sfits = c.shifted_down.type_inv } in
    op-back ◌-ℤ◌ (refl {a = pos 0}) (to_z-of_z r) (turned-fits p.digits p.shift few c.shifted_down.result is) ∙ +ℤ_idl (neg_ℤ c.shifted_down.result) ∙ ap neg_ℤ is
    ∙ up-below c.args.x p.digits p.shift c.parts_of-p.ensures c.if-x.true

-- ---- from zero on
pub overflow_add-result : goal.overflow_add-result
overflow_add-result c =
    let p = c.parts_of-p.result in
    let few = c.parts_of-p.ensures.few in
    let is = c.shifted_down-else-x.ensures ∙ ap (rounded_down (2 ^ p.shift)) (op-back ◌-ℤ◌ (to_z-of_z (fits p.digits p.shift few)) (refl {a = one}) (less-fits p.digits p.shift few)) in
    let r : SFits w64 c.shifted_down-else-x.result = record { sfits = c.shifted_down-else-x.type_inv } in
    op-bits ◌+ℤ◌ (to_z-of_z r) (refl {a = one}) (more-fits p.digits p.shift few c.shifted_down-else-x.result is)

pub returns-else-x : goal.returns-else-x
unfolding of_bits
returns-else-x c =
    let p = c.parts_of-p.result in
    let few = c.parts_of-p.ensures.few in
    let is = c.shifted_down-else-x.ensures ∙ ap (rounded_down (2 ^ p.shift)) (op-back ◌-ℤ◌ (to_z-of_z (fits p.digits p.shift few)) (refl {a = one}) (less-fits p.digits p.shift few)) in
    let r : SFits w64 c.shifted_down-else-x.result = record { sfits = c.shifted_down-else-x.type_inv } in
    op-back ◌+ℤ◌ (to_z-of_z r) (refl {a = one}) (more-fits p.digits p.shift few c.shifted_down-else-x.result is) ∙ ap (λ z. z +ℤ one) is
    ∙ up_from c.args.x p.digits p.shift c.parts_of-p.ensures c.if-x.false
