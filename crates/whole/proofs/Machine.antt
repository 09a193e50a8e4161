-- Whole numbers in 64 bits: what fits, what a test on i64 says, and what an operation on i64 asks and gives.
-- A signed local holds bits, so a test and a need speak of `to_z w64 (of_z w64 x)`, which is x where x fits.
--   fits        nat_abs-sfits, within-sfits: by a magnitude below 2 ^ 63; sfits-bound: the magnitude of a number that fits
--   tests       lt-taken, lt-left, le-taken, le_left: what `x < y` and `x <= y` say, taken or left; le_z-no, of `le_z` where it fails
--   operations  add-bits, sub-bits, mul-bits, neg_bits: the need, that the result fits; add_back, sub_back, mul-back, neg-back: the result as it is read back
--   chains      op-bits and op-back are the same for any operation, with each operand's value handed over as an equation: the -back of the operation
--               before, `to_z-of_z f` of a variable, and `refl {a = pos 7}` of a literal
use mathlib.Core.Path.{◌≡◌, sym, ◌∙◌, ap, ap₂, subst}
use mathlib.Core.Bool.{Bool, true, false, not}
use mathlib.Core.Logic.{⊎_elim}
use Prim.Native.Nat.{ℕ, ◌^◌, ◌<◌, ◌≤◌}
use native.Mathlib.Omega.{arith}
use native.Mathlib.Nat.{lt_of_le_of_lt}
use lib.Dec.{T}
use lib.IntN.{ℤ, pos, negsuc, neg_ℤ, nat_abs, ◌+ℤ◌, ◌-ℤ◌, ◌*ℤ◌, +ℤ_idl}
use lib.Signed.{le_z, lt_z, ◌≤ℤ◌, ◌<ℤ◌, lt_z_no, lt_z_yes, le_z_yes, nat_abs-le}
use mir.Syntax.{w64}
use mir.Val.{SFits, to_z, of_z}
use mir.Facts.{to_z-of_z, T_not}
use Rattle.whole.proofs.Magnitudes.{Within}
use Rattle.whole.proofs.Order.{≤ℤ-or-<ℤ}

pub nat_abs-sfits : (z : ℤ) → nat_abs z < 2 ^ 63 → SFits w64 z
nat_abs-sfits (pos n) h = record { sfits = h }
nat_abs-sfits (negsuc n) h = record { sfits = omega arith }

pub within-sfits : {z : ℤ} {n : ℕ} → Within z n → n < 2 ^ 63 → SFits w64 z
within-sfits {z} h k = nat_abs-sfits z (lt_of_le_of_lt h.size k)

pub sfits-bound : {z : ℤ} → SFits w64 z → nat_abs z ≤ 2 ^ 63
sfits-bound {z} f = nat_abs-le z f.sfits

-- ════ tests
pub le_z-no : (x y : ℤ) → T (not (le_z x y)) → y <ℤ x
le_z-no x y t = ⊎_elim (λ h. absurd (T_not (le_z x y) h.le t)) (λ h. h) (≤ℤ-or-<ℤ y x)

module _ {x y : ℤ} (f : SFits w64 x) (g : SFits w64 y) where
  read : (P : ℤ → ℤ → Bool) {b : Bool} → P (to_z w64 (of_z w64 x)) (to_z w64 (of_z w64 y)) ≡ b → b ≡ P x y
  read P e = sym e ∙ ap₂ P (to_z-of_z f) (to_z-of_z g)

  pub lt-taken : lt_z (to_z w64 (of_z w64 x)) (to_z w64 (of_z w64 y)) ≡ true → x <ℤ y
  lt-taken e = lt_z_yes (subst T (read lt_z e) tt)

  pub lt-left : lt_z (to_z w64 (of_z w64 x)) (to_z w64 (of_z w64 y)) ≡ false → y ≤ℤ x
  lt-left e = lt_z_no (subst (λ (b : Bool). T (not b)) (read lt_z e) tt)

  pub le-taken : le_z (to_z w64 (of_z w64 x)) (to_z w64 (of_z w64 y)) ≡ true → x ≤ℤ y
  le-taken e = le_z_yes (subst T (read le_z e) tt)

  pub le_left : le_z (to_z w64 (of_z w64 x)) (to_z w64 (of_z w64 y)) ≡ false → y <ℤ x
  le_left e = le_z-no x y (subst (λ (b : Bool). T (not b)) (read le_z e) tt)

-- ════ operations
module _ (f : ℤ → ℤ → ℤ) {u v x y : ℤ} (p : u ≡ x) (q : v ≡ y) (h : SFits w64 (f x y)) where
  pub op-bits : SFits w64 (f u v)
  op-bits = subst (λ z. SFits w64 z) (sym (ap₂ f p q)) h

  pub op-back : to_z w64 (of_z w64 (f u v)) ≡ f x y
  op-back = to_z-of_z op-bits ∙ ap₂ f p q

module _ {x y : ℤ} (f : SFits w64 x) (g : SFits w64 y) where
  pub add-bits : SFits w64 (x +ℤ y) → SFits w64 (to_z w64 (of_z w64 x) +ℤ to_z w64 (of_z w64 y))
  add-bits = op-bits ◌+ℤ◌ (to_z-of_z f) (to_z-of_z g)

  pub add_back : SFits w64 (x +ℤ y) → to_z w64 (of_z w64 (to_z w64 (of_z w64 x) +ℤ to_z w64 (of_z w64 y))) ≡ x +ℤ y
  add_back = op-back ◌+ℤ◌ (to_z-of_z f) (to_z-of_z g)

  pub sub-bits : SFits w64 (x -ℤ y) → SFits w64 (to_z w64 (of_z w64 x) -ℤ to_z w64 (of_z w64 y))
  sub-bits = op-bits ◌-ℤ◌ (to_z-of_z f) (to_z-of_z g)

  pub sub_back : SFits w64 (x -ℤ y) → to_z w64 (of_z w64 (to_z w64 (of_z w64 x) -ℤ to_z w64 (of_z w64 y))) ≡ x -ℤ y
  sub_back = op-back ◌-ℤ◌ (to_z-of_z f) (to_z-of_z g)

  pub mul-bits : SFits w64 (x *ℤ y) → SFits w64 (to_z w64 (of_z w64 x) *ℤ to_z w64 (of_z w64 y))
  mul-bits = op-bits ◌*ℤ◌ (to_z-of_z f) (to_z-of_z g)

  pub mul-back : SFits w64 (x *ℤ y) → to_z w64 (of_z w64 (to_z w64 (of_z w64 x) *ℤ to_z w64 (of_z w64 y))) ≡ x *ℤ y
  mul-back = op-back ◌*ℤ◌ (to_z-of_z f) (to_z-of_z g)

-- The machine negates by subtracting from 0.
module _ {x : ℤ} (f : SFits w64 x) (h : SFits w64 (neg_ℤ x)) where
  pub neg_bits : SFits w64 (pos 0 -ℤ to_z w64 (of_z w64 x))
  neg_bits = rw (+ℤ_idl, to_z-of_z f) h

  pub neg-back : to_z w64 (of_z w64 (pos 0 -ℤ to_z w64 (of_z w64 x))) ≡ neg_ℤ x
  neg-back = to_z-of_z neg_bits ∙ +ℤ_idl (neg_ℤ (to_z w64 (of_z w64 x))) ∙ ap neg_ℤ (to_z-of_z f)
