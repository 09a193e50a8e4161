-- What the test of x against k thousandths says of the whole number that x is read as, for every x and k.
--   low-whole, high-whole     x at most k thousandths, or above them: a bound on the reading
--   below-same, above_same    a reading far enough from the thousandths decides the test
--   exact-whole               a float that is a whole number is at most k thousandths where it is at most k / 1000 rounded down
use mathlib.Core.Path.{◌≡◌, refl, sym, ap, ◌∙◌, subst}
use mathlib.Core.Logic.{inl, inr}
use mathlib.Core.Bool.{Bool, true, false, not}
use Prim.Native.Nat.{ℕ, ◌≤◌, ◌<◌}
use native.Mathlib.Omega.{arith}
use lib.Dec.{T, lit<}
use lib.IntN.{ℤ, pos, ◌+ℤ◌, ◌*ℤ◌}
use lib.Signed.{le_z, ◌≤ℤ◌, ◌<ℤ◌, le_z_yes, clash_ℤ}
use lib.Ieee.{Float}
use Rattle.whole.specs.Nearest.{twice_off}
use Rattle.whole.specs.Down.{thousand, rounded_down}
use Rattle.whole.proofs.Identity.{quote, quote-pos, ring2, ring4}
use Rattle.whole.proofs.Linear.{zarith, quote-nat_abs}
use Rattle.whole.proofs.Order.{le_in, ≤ℤ-or-<ℤ, <ℤ-next, ≤ℤ-mul, ≤ℤ-trans}
use Rattle.whole.proofs.Machine.{le_z-no}
use Rattle.whole.proofs.Down.{down_is, down-most}
use Rattle.rounding.specs.Value.{numerator, denominator}
use Rattle.rounding.specs.Reading.{whole_of}
use Rattle.rounding.proofs.Comparisons.{same_test}
use Rattle.rounding.proofs.Nearest.{denominator-pos, reading-nearest}
use Rattle.thousandths.specs.Thousandths.{at_most_thousandths}

-- ════ of any fraction z / m, and a whole number q that is within a half of it
positive : (m : ℕ) → 0 < m → pos 0 ≤ℤ pos m
positive m h = le_in (omega arith)

module _ (m : ℕ) (h : 0 < m) (z k c q : ℤ) (near : twice_off m z q ≤ m) where
  low : (pos thousand *ℤ z) ≤ℤ (k *ℤ pos m) → k <ℤ (pos thousand *ℤ c +ℤ pos thousand) → q ≤ℤ (c +ℤ pos 1)
  low l g = elim (≤ℤ-or-<ℤ (c +ℤ pos 1) q) [ inl n ↦ n | inr n ↦ absurd (clash (≤ℤ-mul (positive m h) (<ℤ-next n)) (≤ℤ-mul (positive m h) (<ℤ-next g)) l near) ]
    where
      clash : (pos m *ℤ (c +ℤ pos 1 +ℤ pos 1)) ≤ℤ (pos m *ℤ q) → (pos m *ℤ (k +ℤ pos 1)) ≤ℤ (pos m *ℤ (pos thousand *ℤ c +ℤ pos thousand))
          → (pos thousand *ℤ z) ≤ℤ (k *ℤ pos m) → twice_off m z q ≤ m → ⊥
      clash = ring4 z k c q (λ ρ e f g i. simp (quote, quote-pos ρ, e, f, g, i, quote-nat_abs) (omega zarith))

  high : (k *ℤ pos m) <ℤ (pos thousand *ℤ z) → (pos thousand *ℤ c) ≤ℤ k → c ≤ℤ q
  high l g = elim (≤ℤ-or-<ℤ q c) [ inl n ↦ n | inr n ↦ absurd (clash (≤ℤ-mul (positive m h) (<ℤ-next n)) (≤ℤ-mul (positive m h) g) l near) ]
    where
      clash : (pos m *ℤ (q +ℤ pos 1)) ≤ℤ (pos m *ℤ c) → (pos m *ℤ (pos thousand *ℤ c)) ≤ℤ (pos m *ℤ k)
          → (k *ℤ pos m) <ℤ (pos thousand *ℤ z) → twice_off m z q ≤ m → ⊥
      clash = ring4 z k c q (λ ρ e f g i. simp (quote, quote-pos ρ, e, f, g, i, quote-nat_abs) (omega zarith))

-- ════ of a float
module _ (x : Float) (k c : ℤ) where
  pub low-whole : at_most_thousandths x k ≡ true → k <ℤ (pos thousand *ℤ c +ℤ pos thousand) → whole_of x ≤ℤ (c +ℤ pos 1)
  unfolding at_most_thousandths
  low-whole e g = low (denominator x) (denominator-pos x) (numerator x) k c (whole_of x) (reading-nearest x).near (le_z_yes (subst T (sym e) tt)) g

  pub high-whole : at_most_thousandths x k ≡ false → (pos thousand *ℤ c) ≤ℤ k → c ≤ℤ whole_of x
  unfolding at_most_thousandths
  high-whole e g = high (denominator x) (denominator-pos x) (numerator x) k c (whole_of x) (reading-nearest x).near (le_z-no _ _ (subst (λ b. T (not b)) (sym e) tt)) g

  pub below-same : whole_of x <ℤ c → c ≡ rounded_down thousand k → at_most_thousandths x k ≡ true
  below-same l e = go (at_most_thousandths x k) refl
    where
      go : (b : Bool) → at_most_thousandths x k ≡ b → b ≡ true
      go true t = refl
      go false t = clash_ℤ l (high-whole t (rw e (down_is thousand (lit< tt) k).0))

  pub above_same : (c +ℤ pos 1) <ℤ whole_of x → c ≡ rounded_down thousand k → at_most_thousandths x k ≡ false
  above_same l e = go (at_most_thousandths x k) refl
    where
      go : (b : Bool) → at_most_thousandths x k ≡ b → b ≡ false
      go false t = refl
      go true t = clash_ℤ l (low-whole t (rw e (down_is thousand (lit< tt) k).1))

-- ════ of a float that is a whole number
module _ (m : ℕ) (h : 0 < m) (z k : ℤ) where
  to : (pos thousand *ℤ (z *ℤ pos m)) ≤ℤ (k *ℤ pos m) → z ≤ℤ rounded_down thousand k
  to l = down-most thousand (lit< tt) k z (elim (≤ℤ-or-<ℤ k (pos thousand *ℤ z)) [ inl n ↦ n | inr n ↦ absurd (clash (≤ℤ-mul (positive m h) (<ℤ-next n)) l) ])
    where
      clash : (pos m *ℤ (k +ℤ pos 1)) ≤ℤ (pos m *ℤ (pos thousand *ℤ z)) → (pos thousand *ℤ (z *ℤ pos m)) ≤ℤ (k *ℤ pos m) → ⊥
      clash = ring2 z k (λ ρ e f. simp (quote, quote-pos ρ, e, f) (omega zarith))

  of : z ≤ℤ rounded_down thousand k → (pos thousand *ℤ (z *ℤ pos m)) ≤ℤ (k *ℤ pos m)
  of l = times (≤ℤ-mul (positive m h) (≤ℤ-trans (≤ℤ-mul {a = pos thousand} (le_in (omega arith)) l) (down_is thousand (lit< tt) k).0))
    where
      times : (pos m *ℤ (pos thousand *ℤ z)) ≤ℤ (pos m *ℤ k) → (pos thousand *ℤ (z *ℤ pos m)) ≤ℤ (k *ℤ pos m)
      times = ring2 z k (λ ρ e f. simp (quote, quote-pos ρ, e, f) (omega zarith))

pub exact-whole : (x : Float) (z k c : ℤ) → numerator x ≡ z *ℤ pos (denominator x) → c ≡ rounded_down thousand k → at_most_thousandths x k ≡ le_z z c
unfolding at_most_thousandths
exact-whole x z k c e f =
    let m = denominator x in
    ap (λ n. le_z (pos thousand *ℤ n) (k *ℤ pos m)) e
    ∙ same_test _ _ (λ t. (to m (denominator-pos x) z k (le_z_yes t)).le) (λ t. (of m (denominator-pos x) z k (le_z_yes t)).le)
    ∙ ap (le_z z) (sym f)
