-- A float in thousandths, rounded up.
--   one                 what the code takes from the digits before their shift
--   up-below, up_from   by the parts of its magnitude: below zero, and from zero on
--   up-at-most          the float is at most k thousandths where this number is at most k
use mathlib.Core.Path.{◌≡◌, refl, sym, ap, ◌∙◌}
use mathlib.Core.Bool.{Bool, true, false, false≢true}
use Prim.Native.Nat.{ℕ, zero, suc, ◌*◌, ◌/◌, ◌^◌, ◌<◌}
use native.Mathlib.Nat.{zero-div}
use native.Mathlib.Numerals.{add-one}
use native.Mathlib.Omega.{arith}
use lib.Dec.{T}
use lib.IntN.{ℤ, pos, negsuc, neg_ℤ, ◌+ℤ◌, ◌-ℤ◌, ◌*ℤ◌}
use lib.Pow.{pow_pos}
use lib.Signed.{le_z, ◌≤ℤ◌, le_z_yes}
use lib.Ieee.{Float, nan, inf, fin, up, lt}
use lib.Ieee.Positive.{num, den}
use borrow.Author.Tests.{ltb-true, ltb-false}
use Rattle.whole.specs.Down.{thousand, rounded_down}
use Rattle.whole.proofs.Ring.{ext, balance-+, neg-*ℤ}
use Rattle.whole.proofs.Identity.{quote, quote-pos, by, ring1, ring2, ring3}
use Rattle.whole.proofs.Linear.{zarith}
use Rattle.whole.proofs.Order.{le_in, ≤ℤ-mul}
use Rattle.whole.proofs.Down.{down_is, down-most, down-same}
use Rattle.rounding.specs.Value.{numerator, denominator}
use Rattle.rounding.proofs.Comparisons.{same_test}
use Rattle.rounding.proofs.Nearest.{denominator-pos}
use Rattle.thousandths.specs.Thousandths.{at_most_thousandths}
use Rattle.thousandths.specs.Steps.{IsParts, thousandths_up}

-- what is taken from n before the shift, and given back after it
abbrev pub one : ℤ
one = pos 1

-- ════ by the parts of the magnitude
abbrev origin : Float
origin = fin false 0 (pos 0)

below : (x : Float) → lt x origin ≡ true → numerator x ≡ neg_ℤ (pos (num x))
unfolding lt
below nan h = absurd (false≢true h)
below (inf s) h = refl
below (fin true m e) h = refl
below (fin false m e) h = absurd (omega (arith, ltb-true))

from_zero : (x : Float) → lt x origin ≡ false → numerator x ≡ pos (num x)
unfolding lt
from_zero nan h = refl
from_zero (inf s) h = refl
from_zero (fin false m e) h = refl
from_zero (fin true m e) h = let z : m * up e ≡ 0 = omega (arith, ltb-false) in ap (λ k. neg_ℤ (pos k)) z ∙ sym (ap pos z)

den-is : (x : Float) → den x ≡ denominator x
den-is nan = refl
den-is (inf s) = refl
den-is (fin s m e) = refl

turned-twice : (z : ℤ) → neg_ℤ (pos thousand *ℤ neg_ℤ z) ≡ pos thousand *ℤ z
turned-twice z = ring1 z (λ ρ e. simp (quote, quote-pos ρ, e) (by _ _ _ tt))

-- n / m rounded up, as the code has it
up_one : (m n : ℕ) → rounded_down m (pos n -ℤ pos 1) +ℤ pos 1 ≡ neg_ℤ (rounded_down m (neg_ℤ (pos n)))
unfolding rounded_down
up_one m zero = simp zero-div
up_one m (suc n) =
    let e : pos (suc n) -ℤ pos 1 ≡ pos n = ext (pos (suc n) -ℤ pos 1) (pos n) (omega (arith, balance-+ (pos (suc n)) (negsuc 0))) in
    ap (λ z. rounded_down m z +ℤ pos 1) e ∙ ap pos (add-one (n / m))

module _ (x : Float) (d s : ℕ) (v : IsParts x d s) where
  same-value : thousand * num x * 2 ^ s ≡ thousand * d * denominator x
  same-value = let e : num x * 2 ^ s ≡ d * denominator x = v.value ∙ ap (λ k. d * k) (den-is x) in omega arith

  -- −1000·x as the code has it
  turned : (y z : ℤ) → y ≡ neg_ℤ (pos thousand *ℤ numerator x) → y *ℤ pos (2 ^ s) ≡ z *ℤ pos (denominator x)
      → neg_ℤ (rounded_down (2 ^ s) z) ≡ thousandths_up x
  unfolding thousandths_up
  turned y z e f =
      ap neg_ℤ (sym (down-same (denominator x) (2 ^ s) (denominator-pos x) (pow_pos s) y z f)) ∙ ap (λ w. neg_ℤ (rounded_down (denominator x) w)) e

  pub up-below : lt x origin ≡ true → neg_ℤ (rounded_down (2 ^ s) (pos (thousand * d))) ≡ thousandths_up x
  up-below h =
      turned (pos (thousand * num x)) (pos (thousand * d)) (sym (ap (λ w. neg_ℤ (pos thousand *ℤ w)) (below x h) ∙ turned-twice (pos (num x)))) (ap pos same-value)

  pub up_from : lt x origin ≡ false → rounded_down (2 ^ s) (pos (thousand * d) -ℤ pos 1) +ℤ pos 1 ≡ thousandths_up x
  up_from h =
      up_one (2 ^ s) (thousand * d)
      ∙ turned (neg_ℤ (pos (thousand * num x))) (neg_ℤ (pos (thousand * d))) (sym (ap (λ w. neg_ℤ (pos thousand *ℤ w)) (from_zero x h)))
      (neg-*ℤ (pos (thousand * num x)) (pos (2 ^ s)) ∙ ap (λ k. neg_ℤ (pos k)) same-value ∙ sym (neg-*ℤ (pos (thousand * d)) (pos (denominator x))))

-- ════ against k: with m for the denominator and z for 1000 times the numerator
module _ (m : ℕ) (h : 0 < m) (z k : ℤ) where
  abbrev q : ℤ
  q = rounded_down m (neg_ℤ z)

  positive : pos 0 ≤ℤ pos m
  positive = le_in (omega arith)

  to : neg_ℤ q ≤ℤ k → z ≤ℤ (k *ℤ pos m)
  to l = go (down_is m h (neg_ℤ z)).0 (≤ℤ-mul positive l)
    where
      go : (pos m *ℤ q) ≤ℤ neg_ℤ z → (pos m *ℤ neg_ℤ q) ≤ℤ (pos m *ℤ k) → z ≤ℤ (k *ℤ pos m)
      go = ring3 q z k (λ ρ e f g. simp e (simp (quote, quote-pos ρ, f, g) (omega zarith)))

  of : z ≤ℤ (k *ℤ pos m) → neg_ℤ q ≤ℤ k
  of l = back (down-most m h (neg_ℤ z) (neg_ℤ k) (turn l))
    where
      turn : z ≤ℤ (k *ℤ pos m) → (pos m *ℤ neg_ℤ k) ≤ℤ neg_ℤ z
      turn = ring2 z k (λ ρ e f. simp (quote, quote-pos ρ, e, f) (omega zarith))

      back : neg_ℤ k ≤ℤ q → neg_ℤ q ≤ℤ k
      back = ring2 q k (λ ρ e f. simp e (simp (quote, f) (omega zarith)))

pub up-at-most : (x : Float) (k : ℤ) → le_z (thousandths_up x) k ≡ at_most_thousandths x k
unfolding thousandths_up at_most_thousandths
up-at-most x k =
    let m = denominator x in
    let z = pos thousand *ℤ numerator x in
    same_test _ _ (λ t. (to m (denominator-pos x) z k (le_z_yes t)).le) (λ t. (of m (denominator-pos x) z k (le_z_yes t)).le)
