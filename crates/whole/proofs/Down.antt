-- A quotient rounded down.
--   down_is       m times it is at most z, and more than z − m
--   down-most     no whole number q with m·q at most z is larger
--   down-unique   it is the only number that is as down_is says
--   down-shift    a quotient of s·m less than z is rounded to s less
--   down-same     fractions of one value are rounded to one number
--   down-size     it is no larger in size than z
use mathlib.Core.Path.{◌≡◌, sym, ◌∙◌, ap₂}
use mathlib.Core.Logic.{inl, inr}
use Prim.Native.Nat.{ℕ, suc, ◌+◌, ◌*◌, ◌/◌, ◌%◌, ◌≤◌, ◌<◌, suc-le-suc}
use native.Mathlib.Nat as N
use native.Mathlib.Omega.{arith}
use lib.IntN.{ℤ, pos, negsuc, nat_abs, ◌+ℤ◌, ◌-ℤ◌, ◌*ℤ◌}
use lib.Signed.{◌≤ℤ◌, ◌<ℤ◌}
use Rattle.whole.specs.Down.{rounded_down}
use Rattle.whole.proofs.Ring.{balance-+, balance-*}
use Rattle.whole.proofs.Identity.{quote, quote-pos, ring2, ring3}
use Rattle.whole.proofs.Linear.{zarith}
use Rattle.whole.proofs.Order.{le_in, lt_in, ≤ℤ-or-<ℤ, ≤ℤ-antisym, <ℤ-next, ≤ℤ-mul}

module _ (m : ℕ) (h : 0 < m) where
  parts : (n : ℕ) → (m * (n / m) + n % m ≡ n) × (n % m < m)
  parts n = (omega (arith, N.div-add-mod' n m, N.mul_comm m (n / m)), N.mod-lt n h)

  pub down_is : (z : ℤ) → ((pos m *ℤ rounded_down m z) ≤ℤ z) × (z <ℤ (pos m *ℤ rounded_down m z +ℤ pos m))
  unfolding rounded_down
  down_is (pos n) = let p = parts n in (le_in (omega arith), lt_in (omega arith))
  down_is (negsuc n) =
      let p = parts n in
      let k = n / m in
      let product = balance-* (pos m) (negsuc k) in
      let e : m * suc k ≡ m * k + m = N.mul-suc m k in
      (le_in (omega arith), lt_in (omega (arith, balance-+ (pos m *ℤ negsuc k) (pos m))))

  -- m·q is at most z, and m·(r + 1) is more
  most : (q r z : ℤ) → (pos m *ℤ q) ≤ℤ z → z <ℤ (pos m *ℤ r +ℤ pos m) → q ≤ℤ r
  most q r z l g = elim (≤ℤ-or-<ℤ r q) [ inl n ↦ n | inr n ↦ absurd (clash (≤ℤ-mul {a = pos m} (le_in (omega arith)) (<ℤ-next n)) l g) ]
    where
      clash : (pos m *ℤ (r +ℤ pos 1)) ≤ℤ (pos m *ℤ q) → (pos m *ℤ q) ≤ℤ z → z <ℤ (pos m *ℤ r +ℤ pos m) → ⊥
      clash = ring3 q r z (λ ρ e f g. simp (quote, quote-pos ρ, e, f, g) (omega zarith))

  pub down-most : (z q : ℤ) → (pos m *ℤ q) ≤ℤ z → q ≤ℤ rounded_down m z
  down-most z q l = most q (rounded_down m z) z l (down_is z).1

  pub down-unique : (z q : ℤ) → (pos m *ℤ q) ≤ℤ z → z <ℤ (pos m *ℤ q +ℤ pos m) → q ≡ rounded_down m z
  down-unique z q l g = ≤ℤ-antisym (down-most z q l) (most (rounded_down m z) q z (down_is z).0 g)

  -- from z to s·m less
  less : (z q s : ℤ) → (pos m *ℤ q) ≤ℤ z → (pos m *ℤ (q -ℤ s)) ≤ℤ (z -ℤ pos m *ℤ s)
  less z q s = ring3 z q s (λ ρ e f g. simp (quote, quote-pos ρ, e, f, g) (omega zarith))

  less-next : (z q s : ℤ) → z <ℤ (pos m *ℤ q +ℤ pos m) → (z -ℤ pos m *ℤ s) <ℤ (pos m *ℤ (q -ℤ s) +ℤ pos m)
  less-next z q s = ring3 z q s (λ ρ e f g. simp (quote, quote-pos ρ, e, f, g) (omega zarith))

  pub down-shift : (z s : ℤ) → rounded_down m (z -ℤ pos m *ℤ s) ≡ rounded_down m z -ℤ s
  down-shift z s =
      let q = rounded_down m z in
      sym (down-unique (z -ℤ pos m *ℤ s) (q -ℤ s) (less z q s (down_is z).0) (less-next z q s (down_is z).1))

-- with both parts of the fraction k times as large
scaled : (m k : ℕ) → 0 < m → 0 < k → (z : ℤ) → rounded_down m z ≡ rounded_down (m * k) (z *ℤ pos k)
scaled m k h l z =
    let q = rounded_down m z in
    let p : 0 < m * k = N.mul-pos h l in
    let n : pos 0 ≤ℤ pos k = le_in (omega arith) in
    down-unique (m * k) p (z *ℤ pos k) q (low q (≤ℤ-mul n (down_is m h z).0)) (high q (≤ℤ-mul n (<ℤ-next (down_is m h z).1)))
  where
    low : (q : ℤ) → (pos k *ℤ (pos m *ℤ q)) ≤ℤ (pos k *ℤ z) → (pos (m * k) *ℤ q) ≤ℤ (z *ℤ pos k)
    low q = ring2 z q (λ ρ e f. simp (quote, quote-pos ρ, e, f) (omega zarith))

    high : (q : ℤ) → (pos k *ℤ (z +ℤ pos 1)) ≤ℤ (pos k *ℤ (pos m *ℤ q +ℤ pos m)) → (z *ℤ pos k) <ℤ (pos (m * k) *ℤ q +ℤ pos (m * k))
    high q = ring2 z q (λ ρ e f. simp (quote, quote-pos ρ, e, f) (omega zarith))

pub down-same : (m n : ℕ) → 0 < m → 0 < n → (y z : ℤ) → y *ℤ pos n ≡ z *ℤ pos m → rounded_down m y ≡ rounded_down n z
down-same m n h l y z e = scaled m n h l y ∙ ap₂ rounded_down (N.mul_comm m n) e ∙ sym (scaled n m l h z)

pub down-size : (m : ℕ) (z : ℤ) → nat_abs (rounded_down m z) ≤ nat_abs z
unfolding rounded_down
down-size m (pos n) = N.div-le_self n m
down-size m (negsuc n) = suc-le-suc (N.div-le_self n m)
