-- How large what is summed down is: no multiplication makes a number larger, so n numbers come to at most n times the largest.
--   times-size              a product with a reading of at most a radian
--   row-size, group-size    a row and a group, from a power on
--   followable              so a group may be followed with the rounded product
use mathlib.Core.List.{List}
use mathlib.Core.Path.{subst}
use Prim.Native.Nat.{ℕ, zero, suc, ◌+◌, ◌-◌, ◌*◌, ◌≤◌}
use native.Mathlib.Nat as N
use native.Mathlib.Omega.{arith}
use lib.IntN.{ℤ, nat_abs, ◌*ℤ◌}
use Rattle.std.specs.Prelude.{FitsSigned}
use Rattle.std.specs.Int.{w64}
use Rattle.whole.proofs.Machine.{nat_abs-sfits}
use Rattle.whole.proofs.Magnitudes.{nat_abs-+, nat_abs-*}
use Rattle.whole.proofs.Nearest.{nearest-size}
use Rattle.polynomials.specs.Numbers.{ints}
use Rattle.polynomials.specs.Order.{place}
use Rattle.polynomials.specs.Group.{number}
use Rattle.polynomials.specs.Downward.{down, row_downward}
use Rattle.polynomials.specs.Ready.{Formed, Followable}
use Rattle.polynomials.proofs.Downward.{down-more}
use Rattle.cumulus_page.specs.Model.{microradians}
use Rattle.microradians.specs.Fixed.{◌⊛◌}
use Rattle.microradians.specs.Ready.{largest, most, Placed, Near}

pub times-size : (a r : ℤ) → Near r → nat_abs (a ⊛ r) ≤ nat_abs a
times-size a r h = nearest-size microradians.radian (omega arith) (a *ℤ r) (nat_abs a) (omega (arith, nat_abs-* a r, N.mul-le-mul_left (nat_abs a) h))

module _ (g : ℕ → ℤ) (r : ℤ) (b : ℕ) (h : (k : ℕ) → nat_abs (g k) ≤ b) (hr : Near r) where
  down-size : (k p : ℕ) → nat_abs (down ints ◌⊛◌ g r k p) ≤ suc k * b
  unfolding down
  down-size zero p = omega (arith, h p)
  down-size (suc k) p =
      let d = down ints ◌⊛◌ g r k (suc p) in
      omega (arith, nat_abs-+ (d ⊛ r) (g p), times-size d r hr, down-size k (suc p), h p, N.suc-mul (suc k) b)

  five : (k p : ℕ) → k ≤ 4 → nat_abs (down ints ◌⊛◌ g r k p) ≤ 5 * b
  five k p l = N.le_trans (down-size k p) (N.mul-le-mul_right b ((N.suc-le-suc_iff).1 l))

module _ {l : List ℤ} {degree : ℕ} (placed : Placed l degree) (x y : ℤ) (hx : Near x) (hy : Near y) where
  number_size : (p q : ℕ) → nat_abs (number ints l p q) ≤ largest
  unfolding number
  number_size p q = placed.small (place p q)

  row-five : (q k p : ℕ) → k ≤ degree → nat_abs (down ints ◌⊛◌ (λ i. number ints l i q) x k p) ≤ 5 * largest
  row-five q k p h = five (λ i. number ints l i q) x largest (λ i. number_size i q) hx k p (omega (arith, placed.low))

  pub row-size : (q k p : ℕ) → k ≤ degree → nat_abs (down ints ◌⊛◌ (λ i. number ints l i q) x k p) ≤ most
  row-size q k p h = omega (arith, row-five q k p h)

  pub group-size : (k q : ℕ) → k ≤ degree → nat_abs (down ints ◌⊛◌ (row_downward ints ◌⊛◌ degree (number ints l) x) y k q) ≤ most
  group-size k q h =
      five (row_downward ints ◌⊛◌ degree (number ints l) x) y (5 * largest) (λ q. row-five q (degree - q) 0 (omega arith)) hy k q (omega (arith, placed.low))

  -- what is taken so far from the power p + 1 on, and with the number before it
  formed : (g : ℕ → ℤ) (z : ℤ) (n : ℕ) → Near z → ((k p : ℕ) → k ≤ n → nat_abs (down ints ◌⊛◌ g z k p) ≤ most) → Formed (λ a r. (nat_abs a ≤ most) × Near r) ◌⊛◌ g z n
  formed g z n near small =
      record {
        multiplied = λ p h. (small (n - (p + 1)) (p + 1) (omega arith), near);
        added = λ p h. let s = small (n - p) p (omega arith) in subst (FitsSigned w64) (down-more ints ◌⊛◌ g z n p h) (nat_abs-sfits _ (omega (arith, s)));
      }

  pub followable : Followable (λ a r. (nat_abs a ≤ most) × Near r) ◌⊛◌ l degree x y
  followable =
      record {
        low = placed.low;
        each = λ q h. formed (λ p. number ints l p q) x (degree - q) hx (λ k p b. row-size q k p (omega arith));
        all = formed (row_downward ints ◌⊛◌ degree (number ints l) x) y degree hy group-size;
      }
