-- A quotient rounded to the nearest whole number, a half away from zero.
--   nearest-is, nearest-unique   it is within a half of the quotient and away from zero at a half, and is the only such number
--   nearest-near                 the first of the two alone
--   up-between                   a magnitude's, by two bounds on what is divided
--   up-within, nearest-size      it is no larger in size than a whole number that bounds the quotient
--   cut_below, cut-above         as the code rounds: half of the divisor put on, away from zero, and the division cut towards zero
use mathlib.Core.Path.{◌≡◌, refl, ◌∙◌, ap}
use mathlib.Core.Logic.{inl, inr}
use Prim.Native.Nat.{ℕ, zero, suc, ◌+◌, ◌-◌, ◌*◌, ◌/◌, ◌%◌, ◌≤◌, ◌<◌}
use native.Mathlib.Nat as N
use native.Mathlib.Omega.{arith}
use lib.IntN.{ℤ, pos, negsuc, neg_ℤ, nat_abs, ◌+ℤ◌, ◌-ℤ◌, ◌*ℤ◌, +ℤ_idr}
use lib.Signed.{quot_z, ◌≤ℤ◌, ◌<ℤ◌}
use Rattle.whole.specs.Nearest.{nearest_up, nearest_away, twice_off, IsNearestAway}
use Rattle.whole.proofs.Identity.{quote, quote-pos, quote-minus, ring1}
use Rattle.whole.proofs.Linear.{quote-nat_abs}
use Rattle.whole.proofs.Order.{lt_out}
use Rattle.whole.proofs.Magnitudes.{nat_abs-neg}

module _ (m : ℕ) (h : 0 < m) where
  -- ════ magnitudes: how far m times k is from n
  abbrev off : ℕ → ℕ → ℕ
  off k n = (m * k - n) + (n - m * k)

  off-pos : (k n : ℕ) → nat_abs (pos m *ℤ pos k -ℤ pos n) ≡ off k n
  off-pos k n = ring1 (pos 0) (λ ρ e. simp (quote, quote-pos ρ, quote-minus ρ, quote-nat_abs) (omega arith))

  off-neg : (k n : ℕ) → nat_abs (pos m *ℤ neg_ℤ (pos k) -ℤ neg_ℤ (pos n)) ≡ off k n
  off-neg k n = ring1 (pos 0) (λ ρ e. simp (quote, quote-pos ρ, quote-minus ρ, quote-nat_abs) (omega arith))

  -- with zero between the two
  off-across : (k n : ℕ) → nat_abs (pos m *ℤ negsuc k -ℤ pos n) ≡ m * suc k + n
  off-across k n = ring1 (pos 0) (λ ρ e. simp (quote, quote-pos ρ, quote-minus ρ, quote-nat_abs) (omega arith))

  pub up-between : (k n : ℕ) → k * m ≤ n + m / 2 → n + m / 2 < suc k * m → k ≡ nearest_up m n
  up-between k n l g =
      let low : k ≤ nearest_up m n = (N.le-div_iff_mul-le h).1 l in
      let high : nearest_up m n < suc k = (N.div-lt_iff_lt-mul {x = n + m / 2} h).1 g in
      omega arith

  up_is : (n : ℕ) → (2 * off (nearest_up m n) n ≤ m) × (2 * off (nearest_up m n) n ≡ m → n < m * nearest_up m n)
  up_is n =
      let a : nearest_up m n * m + (n + m / 2) % m ≡ n + m / 2 = N.div-add-mod' (n + m / 2) m in
      let b : (n + m / 2) % m < m = N.mod-lt (n + m / 2) h in
      (omega (arith, N.mul_comm m (nearest_up m n)), λ e. omega (arith, N.mul_comm m (nearest_up m n)))

  up-unique : (k n : ℕ) → 2 * off k n ≤ m → (2 * off k n ≡ m → n < m * k) → k ≡ nearest_up m n
  up-unique k n near away =
      let short : 2 * n < 2 * (m * k) + m = elim (N.eq-or-lt_of_le near) [ inl e ↦ omega (arith, away e) | inr r ↦ omega arith ] in
      up-between k n (omega (arith, N.mul_comm m k)) (omega (arith, N.mul_comm m k, N.suc-mul k m))

  pub up-within : (n b : ℕ) → n ≤ m * b → nearest_up m n ≤ b
  up-within n b k = let c : nearest_up m n < suc b = (N.div-lt_iff_lt-mul {x = n + m / 2} h).1 (omega (arith, N.mul_comm m b, N.suc-mul b m)) in omega arith

  -- ════ with a sign
  pub nearest-is : (z : ℤ) → IsNearestAway m z (nearest_away m z)
  unfolding nearest_away
  nearest-is (pos n) = record { near = rw (off-pos (nearest_up m n) n) (up_is n).0; away = rw (off-pos (nearest_up m n) n) (up_is n).1 }
  nearest-is (negsuc n) =
      record {
        near = rw (off-neg (nearest_up m (suc n)) (suc n)) (up_is (suc n)).0;
        away = rw (off-neg (nearest_up m (suc n)) (suc n), nat_abs-neg (pos (nearest_up m (suc n)))) (up_is (suc n)).1;
      }

  unique-neg : (k n : ℕ) → IsNearestAway m (neg_ℤ (pos n)) (neg_ℤ (pos k)) → neg_ℤ (pos k) ≡ neg_ℤ (pos (nearest_up m n))
  unique-neg k n g = ap (λ j. neg_ℤ (pos j)) (up-unique k n (simp (off-neg k n) at g.near) (simp (off-neg k n, nat_abs-neg) at g.away))

  pub nearest-unique : (z q : ℤ) → IsNearestAway m z q → q ≡ nearest_away m z
  unfolding nearest_away
  nearest-unique (pos n) (pos k) g = ap pos (up-unique k n (simp (off-pos k n) at g.near) (simp (off-pos k n) at g.away))
  nearest-unique (pos n) (negsuc k) g = absurd (omega (arith, off-across k n, g.near, N.mul-suc m k))
  nearest-unique (negsuc n) (pos (suc k)) g = let l : 2 * (m * suc k + suc n) ≤ m = g.near in absurd (omega (arith, N.mul-suc m k))
  nearest-unique (negsuc n) (pos zero) g = unique-neg 0 (suc n) g
  nearest-unique (negsuc n) (negsuc k) g = unique-neg (suc k) (suc n) g

  pub nearest-near : (z : ℤ) → twice_off m z (nearest_away m z) ≤ m
  nearest-near z = (nearest-is z).near

  pub nearest-size : (z : ℤ) (b : ℕ) → nat_abs z ≤ m * b → nat_abs (nearest_away m z) ≤ b
  unfolding nearest_away
  nearest-size (pos n) b k = up-within n b k
  nearest-size (negsuc n) b k = N.le_trans (N.le_of_eq (nat_abs-neg (pos (nearest_up m (suc n))))) (up-within (suc n) b k)

-- ════ as the code rounds
more-below : (n h m : ℕ) → quot_z (negsuc n -ℤ pos h) (pos m) ≡ neg_ℤ (pos ((suc n + h) / m))
more-below n zero m = let e : suc n ≡ suc n + 0 = omega arith in ap (λ z. quot_z z (pos m)) (+ℤ_idr (negsuc n)) ∙ ap (λ k. neg_ℤ (pos (k / m))) e
more-below n (suc h) m = let e : suc (suc (n + h)) ≡ suc n + suc h = omega arith in ap (λ k. neg_ℤ (pos (k / m))) e

pub cut_below : (m : ℕ) (z : ℤ) → z <ℤ pos 0 → quot_z (z -ℤ pos (m / 2)) (pos m) ≡ nearest_away m z
unfolding nearest_away
cut_below m (pos n) h = absurd (omega (arith, lt_out h))
cut_below m (negsuc n) h = more-below n (m / 2) m

pub cut-above : (m : ℕ) (z : ℤ) → pos 0 ≤ℤ z → quot_z (z +ℤ pos (m / 2)) (pos m) ≡ nearest_away m z
unfolding nearest_away
cut-above m (pos n) h = refl
cut-above m (negsuc n) h = absurd h.le
