-- The order of ℤ, on the kit's `◌≤ℤ◌` and `◌<ℤ◌`.
--   order       ≤ℤ-trans, ≤ℤ-antisym; <ℤ-≤ℤ; <ℤ-next, the next number is at most; ≤ℤ-or-<ℤ, one of the two holds
--   operations  ≤ℤ-add and ≤ℤ-sub, of the same number; ≤ℤ-neg; ≤ℤ-mul, by a factor that is not negative
--   magnitudes  two-sided and from-two: nat_abs r ≤ b says that r is from −b to b; hull: between two numbers, of no larger magnitude than one of them or 1
--   in ℕ        le_out and lt_out read a fact as one of `up` and `dn` of `Ring`, le_in and lt_in write one
use mathlib.Core.Path.{◌≡◌}
use mathlib.Core.Logic.{◌⊎◌, inl, inr, ⊎_elim}
use mathlib.Core.Bool.{Bool, true, false, not}
use Prim.Native.Nat.{ℕ, ◌+◌, ◌≤◌, ◌<◌, max}
use native.Mathlib.Omega.{arith}
use native.Mathlib.Nat.{mul-le-mul_left}
use lib.Dec.{T, leb→le, le→leb}
use lib.IntN.{ℤ, pos, negsuc, nat_abs, neg_ℤ, ◌+ℤ◌, ◌-ℤ◌, ◌*ℤ◌}
use lib.Signed.{le_z, lt_z, ◌≤ℤ◌, ◌<ℤ◌, lt_z_yes, lt_z_no, clash_ℤ}
use Rattle.whole.proofs.Ring.{up, dn, ext, balance-+, balance-*, up_neg, dn-neg}
use Rattle.whole.proofs.Magnitudes.{nat_abs-is}

pub ≤ℤ-or-<ℤ : (x y : ℤ) → (y ≤ℤ x) ⊎ (x <ℤ y)
≤ℤ-or-<ℤ x y = go (lt_z x y) (λ t. lt_z_yes t) (λ t. lt_z_no t)
  where
    go : (b : Bool) → (T b → x <ℤ y) → (T (not b) → y ≤ℤ x) → (y ≤ℤ x) ⊎ (x <ℤ y)
    go true f g = inr (f tt)
    go false f g = inl (g tt)

pub le_out : {x y : ℤ} → x ≤ℤ y → up x + dn y ≤ up y + dn x
le_out {x} {y} h = go x y h.le
  where
    go : (x y : ℤ) → T (le_z x y) → up x + dn y ≤ up y + dn x
    go (pos a) (pos b) t = omega (arith, leb→le a b t)
    go (pos a) (negsuc b) t = absurd t
    go (negsuc a) (pos b) t = omega arith
    go (negsuc a) (negsuc b) t = omega (arith, leb→le b a t)

pub le_in : {x y : ℤ} → up x + dn y ≤ up y + dn x → x ≤ℤ y
le_in {x} {y} h = record { le = go x y h }
  where
    go : (x y : ℤ) → up x + dn y ≤ up y + dn x → T (le_z x y)
    go (pos a) (pos b) h = le→leb a b (omega arith)
    go (pos a) (negsuc b) h = absurd (omega arith)
    go (negsuc a) (pos b) h = tt
    go (negsuc a) (negsuc b) h = le→leb b a (omega arith)

pub lt_in : {x y : ℤ} → up x + dn y < up y + dn x → x <ℤ y
lt_in {x} {y} h = ⊎_elim (λ k. absurd (omega (arith, le_out k))) (λ l. l) (≤ℤ-or-<ℤ x y)

pub lt_out : {x y : ℤ} → x <ℤ y → up x + dn y < up y + dn x
lt_out {x} {y} h = let below : up y + dn x ≤ up x + dn y → ⊥ = λ k. clash_ℤ h (le_in k) in omega arith

pub ≤ℤ-trans : {x y z : ℤ} → x ≤ℤ y → y ≤ℤ z → x ≤ℤ z
≤ℤ-trans h k = le_in (omega (arith, le_out h, le_out k))

pub ≤ℤ-antisym : {x y : ℤ} → x ≤ℤ y → y ≤ℤ x → x ≡ y
≤ℤ-antisym {x} {y} h k = ext x y (omega (arith, le_out h, le_out k))

pub <ℤ-≤ℤ : {x y : ℤ} → x <ℤ y → x ≤ℤ y
<ℤ-≤ℤ h = le_in (omega (arith, lt_out h))

pub <ℤ-next : {x y : ℤ} → x <ℤ y → (x +ℤ pos 1) ≤ℤ y
<ℤ-next {x} h = le_in (omega (arith, balance-+ x (pos 1), lt_out h))

pub ≤ℤ-add : {x y : ℤ} (s : ℤ) → x ≤ℤ y → (x +ℤ s) ≤ℤ (y +ℤ s)
≤ℤ-add {x} {y} s h = le_in (omega (arith, balance-+ x s, balance-+ y s, le_out h))

pub ≤ℤ-sub : {x y : ℤ} (s : ℤ) → x ≤ℤ y → (x -ℤ s) ≤ℤ (y -ℤ s)
≤ℤ-sub s h = ≤ℤ-add (neg_ℤ s) h

pub ≤ℤ-neg : {x y : ℤ} → x ≤ℤ y → neg_ℤ y ≤ℤ neg_ℤ x
≤ℤ-neg {x} {y} h = le_in (omega (arith, up_neg x, dn-neg x, up_neg y, dn-neg y, le_out h))

pub ≤ℤ-mul : {a x y : ℤ} → pos 0 ≤ℤ a → x ≤ℤ y → (a *ℤ x) ≤ℤ (a *ℤ y)
≤ℤ-mul {a = pos n} {x} {y} h k =
    le_in (omega (arith, balance-* (pos n) x, balance-* (pos n) y, mul-le-mul_left n (le_out k)))
≤ℤ-mul {a = negsuc n} h k = absurd h.le

pub two-sided : (r : ℤ) {b : ℕ} → nat_abs r ≤ b → (neg_ℤ (pos b) ≤ℤ r) × (r ≤ℤ pos b)
two-sided r {b} h =
    (le_in (omega (arith, nat_abs-is r, up_neg (pos b), dn-neg (pos b))), le_in (omega (arith, nat_abs-is r)))

pub from-two : {r : ℤ} {b : ℕ} → neg_ℤ (pos b) ≤ℤ r → r ≤ℤ pos b → nat_abs r ≤ b
from-two {r = pos n} h k = omega (arith, le_out k)
from-two {r = negsuc n} {b} h k = omega (arith, le_out h, up_neg (pos b), dn-neg (pos b))

pub hull : {lo r hi : ℤ} → lo ≤ℤ r → r ≤ℤ hi → nat_abs r ≤ max 1 (max (nat_abs lo) (nat_abs hi))
hull {r = pos n} {hi} h k = omega (arith, le_out k, nat_abs-is hi)
hull {lo} {r = negsuc n} h k = omega (arith, le_out h, nat_abs-is lo)
