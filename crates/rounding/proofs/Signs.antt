-- What a near float is read as, by its sign, from its rounded magnitude.
--   nearest-neg               a fraction below zero, by its magnitude
--   Below, below-zero         a float below zero, where the code rounds -x
--   positive_of, above_zero   a float above zero
--   at-zero                   a float that is neither
use Rattle.std.proofs.Common.{◌≡◌, ℕ, zero, suc, ◌*◌, ◌<◌, ◌≤◌, true, false, T, pos, neg_ℤ, sym, refl, ap, ◌∙◌, arith, lt→ltb, ltb-false, ltb-true}
use mathlib.Core.Bool.{false≢true}
use lib.Ieee.{Float, nan, inf, fin, up, down, lt, neg}
use lib.Ieee.Fits.{down_pos}
use lib.Ieee.Positive.{num, den, positive, first_pos}
use Rattle.whole.specs.Nearest.{nearest_up, nearest_away}
use Rattle.whole.proofs.Nearest.{up-within}
use Rattle.rounding.specs.Reading.{whole_of}
use Rattle.rounding.specs.Ready.{farthest_near, Near}

pub nearest-neg : (a b : ℕ) → 0 < a → nearest_away b (neg_ℤ (pos a)) ≡ neg_ℤ (pos (nearest_up b a))
unfolding nearest_away
nearest-neg zero b p = absurd (omega arith)
nearest-neg (suc a) b p = refl

abbrev origin : Float
origin = fin false 0 (pos 0)

-- ════ below zero
pub record Below (x : Float) : Type 0 where
  pub turned : T (positive (neg x))
  pub small : num (neg x) ≤ farthest_near * den (neg x)
  pub is : neg_ℤ (pos (nearest_up (den (neg x)) (num (neg x)))) ≡ whole_of x

pub below-zero : (x : Float) → Near x → lt x origin ≡ true → Below x
unfolding lt neg whole_of
below-zero nan n h = absurd n.finite
below-zero (inf s) n h = absurd n.finite
below-zero (fin false m e) n h = absurd (omega (arith, ltb-true))
below-zero (fin true m e) n h =
    let p : 0 < m * up e = omega (arith, ltb-true) in
    record { turned = lt→ltb 0 m (first_pos m (up e) p); small = n.small; is = sym (nearest-neg (m * up e) (down e) p) }

-- ════ above zero
pub positive_of : (x : Float) → Near x → lt origin x ≡ true → T (positive x)
unfolding lt
positive_of nan n h = absurd n.finite
positive_of (inf s) n h = absurd n.finite
positive_of (fin true m e) n h = absurd (false≢true h)
positive_of (fin false m e) n h =
    let p : 0 < m * up e = omega (arith, ltb-true) in
    lt→ltb 0 m (first_pos m (up e) p)

pub above_zero : (x : Float) → T (positive x) → pos (nearest_up (den x) (num x)) ≡ whole_of x
unfolding whole_of nearest_away
above_zero nan p = absurd p
above_zero (inf s) p = absurd p
above_zero (fin true m e) p = absurd p
above_zero (fin false m e) p = refl

-- ════ zero
whole-nil : (a b : ℕ) → a ≡ 0 → 0 < b → pos 0 ≡ nearest_away b (pos a)
unfolding nearest_away
whole-nil a b h p = let l : nearest_up b a ≤ 0 = up-within b p a 0 (omega arith) in ap pos (omega arith)

pub at_zero : (x : Float) → Near x → lt x origin ≡ false → lt origin x ≡ false → pos 0 ≡ whole_of x
unfolding lt whole_of
at_zero nan n h g = absurd n.finite
at_zero (inf s) n h g = absurd n.finite
at_zero (fin true m e) n h g =
    let z : m * up e ≡ 0 = omega (arith, ltb-false) in
    whole-nil 0 (down e) refl (down_pos e) ∙ ap (λ k. nearest_away (down e) (neg_ℤ (pos k))) (sym z)
at_zero (fin false m e) n h g =
    let z : m * up e ≡ 0 = omega (arith, ltb-false) in
    whole-nil (m * up e) (down e) z (down_pos e)
