-- The magnitude of a result, the kit's `nat_abs`, by those of its operands.
--   equations  nat_abs-neg, nat_abs-*, nat_abs-pow; nat_abs-zero, only 0 has magnitude 0; nat_abs-is, by `up` and `dn` of `Ring`
--   bounds     nat_abs-+, nat_abs--
--   Within z n, that z has at most the magnitude n: within, by its own; within₁, by that or 1, whichever is larger; within-le, by a larger bound;
--              within-+, within--, within-*, within-pow, of a result by the bounds of its operands
--   products   what bounds a product bounds it with fewer factors: factor, without the last; fewer, with a lower power of the last
use mathlib.Core.Path.{◌≡◌, refl, sym, ◌∙◌, ap}
use Prim.Native.Nat.{ℕ, zero, suc, ◌+◌, ◌*◌, ◌^◌, ◌≤◌, max}
use native.Mathlib.Omega.{arith}
use native.Mathlib.Nat as NatL
use native.Mathlib.Nat.{
  mul-le-mul,
  mul-le-mul_left,
  le_refl,
  le_trans,
  le_of_eq,
  le-mul_of_pos_right,
  le-max_right,
  pow-le-pow_left,
  pow-le-pow_right,
}
use lib.IntN.{ℤ, pos, negsuc, neg_ℤ, nat_abs, sub_ℕ, ◌+ℤ◌, ◌-ℤ◌, ◌*ℤ◌, pow}
use Rattle.whole.proofs.Ring.{up, dn, subℕ-case, pow-zero, pow-suc}

pub nat_abs-is : (x : ℤ) → nat_abs x ≡ up x + dn x
nat_abs-is (pos n) = omega arith
nat_abs-is (negsuc n) = omega arith

pub nat_abs-zero : (x : ℤ) → nat_abs x ≡ 0 → x ≡ pos 0
nat_abs-zero (pos n) e = ap pos e
nat_abs-zero (negsuc n) e = absurd (omega arith)

pub nat_abs-neg : (x : ℤ) → nat_abs (neg_ℤ x) ≡ nat_abs x
nat_abs-neg (pos zero) = refl
nat_abs-neg (pos (suc n)) = refl
nat_abs-neg (negsuc n) = refl

pub nat_abs-* : (x y : ℤ) → nat_abs (x *ℤ y) ≡ nat_abs x * nat_abs y
nat_abs-* (pos a) (pos b) = refl
nat_abs-* (pos a) (negsuc b) = nat_abs-neg (pos (a * suc b))
nat_abs-* (negsuc a) (pos b) = nat_abs-neg (pos (suc a * b))
nat_abs-* (negsuc a) (negsuc b) = refl

pub nat_abs-pow : (x : ℤ) (n : ℕ) → nat_abs (pow x n) ≡ nat_abs x ^ n
nat_abs-pow x zero = ap nat_abs (pow-zero x) ∙ sym (NatL.pow-zero (nat_abs x))
nat_abs-pow x (suc n) =
    ap nat_abs (pow-suc x n) ∙ nat_abs-* (pow x n) x ∙ ap (λ (t : ℕ). t * nat_abs x) (nat_abs-pow x n) ∙ sym (NatL.pow-suc (nat_abs x) n)

subℕ-nat_abs : (a b : ℕ) → nat_abs (sub_ℕ a b) ≤ a + b
subℕ-nat_abs a b = subℕ-case a b (λ z. nat_abs z ≤ a + b) (λ h. omega arith) (λ h. omega arith)

pub nat_abs-+ : (x y : ℤ) → nat_abs (x +ℤ y) ≤ nat_abs x + nat_abs y
nat_abs-+ (pos a) (pos b) = omega arith
nat_abs-+ (pos a) (negsuc b) = subℕ-nat_abs a (suc b)
nat_abs-+ (negsuc a) (pos b) = omega (arith, subℕ-nat_abs b (suc a))
nat_abs-+ (negsuc a) (negsuc b) = omega arith

pub nat_abs-- : (x y : ℤ) → nat_abs (x -ℤ y) ≤ nat_abs x + nat_abs y
nat_abs-- x y = omega (arith, nat_abs-+ x (neg_ℤ y), nat_abs-neg y)

-- A record, so that a proof shows its number and its bound: antt infers nothing under `nat_abs`, which computes.
pub record Within (z : ℤ) (n : ℕ) : Type 0 where
  pub size : nat_abs z ≤ n

pub within : (z : ℤ) → Within z (nat_abs z)
within z = record { size = le_refl (nat_abs z) }

pub within₁ : (z : ℤ) → Within z (max 1 (nat_abs z))
within₁ z = record { size = le-max_right 1 (nat_abs z) }

pub within-le : {z : ℤ} {m n : ℕ} → Within z m → m ≤ n → Within z n
within-le h k = record { size = le_trans h.size k }

pub within-+ : {x y : ℤ} {m n : ℕ} → Within x m → Within y n → Within (x +ℤ y) (m + n)
within-+ {x} {y} h k = record { size = omega (arith, nat_abs-+ x y) }

pub within-- : {x y : ℤ} {m n : ℕ} → Within x m → Within y n → Within (x -ℤ y) (m + n)
within-- {x} {y} h k = record { size = omega (arith, nat_abs-- x y) }

pub within-* : {x y : ℤ} {m n : ℕ} → Within x m → Within y n → Within (x *ℤ y) (m * n)
within-* {x} {y} h k = record { size = le_trans (le_of_eq (nat_abs-* x y)) (mul-le-mul h.size k.size) }

pub within-pow : {x : ℤ} {m : ℕ} → Within x m → (n : ℕ) → Within (pow x n) (m ^ n)
within-pow {x} h n = record { size = le_trans (le_of_eq (nat_abs-pow x n)) (pow-le-pow_left h.size n) }

pub factor : (m n : ℕ) {b : ℕ} → 1 ≤ n → m * n ≤ b → m ≤ b
factor m n h k = le_trans (le-mul_of_pos_right m h) k

pub fewer : (m r i n : ℕ) {b : ℕ} → 1 ≤ r → i ≤ n → m * r ^ n ≤ b → m * r ^ i ≤ b
fewer m r i n h k l = le_trans (mul-le-mul_left m (pow-le-pow_right h k)) l
