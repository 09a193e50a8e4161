-- `rounding::nearest_magnitude` meets its contract: the truncated float is the whole part, and the float is below the half above it exactly where its value is.
use Rattle.std.proofs.Common.{◌≡◌, ℕ, ◌+◌, ◌*◌, ◌/◌, ◌^◌, ◌<◌, ◌≤◌, true, false, T, ltb, pos, sym, ap, ◌∙◌, subst, ap₂, mul_comm, arith, lit<, lt→ltb}
use lib.Ieee.{Float, nan, inf, fin, up, down, lt, to_unsigned}
use lib.Ieee.Fits.{down_pos}
use lib.Ieee.Exact.{HasValue}
use lib.Ieee.Positive.{num, den, den_pos, positive, positive_of_value}
use Rattle.whole.specs.Nearest.{nearest_up}
use Rattle.rounding.specs.Ready.{farthest_near}
use Rattle.rounding.proofs.Sides.{half, rounded-below, rounded-from, whole-part-within}
use Rattle.rounding.proofs.Comparisons.{lt-value}
use Rattle.rounding.proofs.nearest_magnitude.Goals as goal

-- ---- the whole part
truncatable : (a : Float) → T (positive a) → num a ≤ farthest_near * den a → T (lt (fin true 1 (pos 0)) a) × T (lt a (fin false 1 (pos 64)))
unfolding lt
truncatable nan p l = absurd p
truncatable (inf s) p l = absurd p
truncatable (fin true m e) p l = absurd p
truncatable (fin false m e) p l =
    let d = down_pos e in
    let above : 0 < 1 * down e + m * up e * 1 = omega arith in
    let below : m * up e * 1 < 1 * 2 ^ 64 * down e = omega arith in
    (lt→ltb _ _ above, lt→ltb _ _ below)

truncated : (a : Float) → T (positive a) → num a ≤ farthest_near * den a → to_unsigned 64 a ≡ num a / den a
unfolding to_unsigned
truncated nan p l = absurd p
truncated (inf s) p l = absurd p
truncated (fin true m e) p l = absurd p
truncated (fin false m e) p l = omega (arith, whole-part-within (m * up e) (down e) (down_pos e) farthest_near l)

-- ---- what is read as the whole part is small
small : (a : Float) (q : ℕ) → num a ≤ farthest_near * den a → q ≡ num a / den a → q ≤ farthest_near
small a q l e = subst (λ (n : ℕ). n ≤ farthest_near) (sym e) (whole-part-within (num a) (den a) (den_pos a) farthest_near l)

-- ---- by the half above it: y has the value (2q + 1) / 2
module _ (a y : Float) (q : ℕ) (p : T (positive a)) (e : q ≡ num a / den a) (v : HasValue y false (2 * q + 1) 2) where
  same_test : ltb (2 * num a) (half (num a) (den a)) ≡ lt a y
  same_test =
      sym (lt-value a y (2 * q + 1) 2 p (positive_of_value y (2 * q + 1) 2 v (omega arith)) (lit< tt) v ∙ ap₂ (λ m n. ltb m ((2 * n + 1) * den a)) (mul_comm (num a) 2) e)

  rounds-down : lt a y ≡ true → q ≡ nearest_up (den a) (num a)
  rounds-down h = e ∙ rounded-below (num a) (den a) (den_pos a) (same_test ∙ h)

  rounds-up : lt a y ≡ false → q + 1 ≡ nearest_up (den a) (num a)
  rounds-up h = ap (λ (n : ℕ). n + 1) e ∙ rounded-from (num a) (den a) (den_pos a) (same_test ∙ h)

pub truncating_f64_to_u64-q-requires-clause-lower_bound :
    goal.truncating_f64_to_u64-q-requires-clause-lower_bound
truncating_f64_to_u64-q-requires-clause-lower_bound c = (truncatable c.args.a c.requires.above_zero c.requires.near).0

pub truncating_f64_to_u64-q-requires-clause-upper_bound :
    goal.truncating_f64_to_u64-q-requires-clause-upper_bound
truncating_f64_to_u64-q-requires-clause-upper_bound c = (truncatable c.args.a c.requires.above_zero c.requires.near).1

pub half_above-requires : goal.half_above-requires
half_above-requires c =
    small c.args.a c.truncating_f64_to_u64-q.result c.requires.near (c.truncating_f64_to_u64-q.ensures ∙ truncated c.args.a c.requires.above_zero c.requires.near)

pub overflow_add-result : goal.overflow_add-result
overflow_add-result c =
    omega (arith, small c.args.a c.truncating_f64_to_u64-q.result c.requires.near (c.truncating_f64_to_u64-q.ensures ∙ truncated c.args.a c.requires.above_zero c.requires.near))

pub returns-then-a-half_above : goal.returns-then-a-half_above
returns-then-a-half_above c =
    rounds-down c.args.a c.half_above.result c.truncating_f64_to_u64-q.result c.requires.above_zero
    (c.truncating_f64_to_u64-q.ensures ∙ truncated c.args.a c.requires.above_zero c.requires.near) c.half_above.ensures c.if-a-half_above.true

pub returns-else-a-half_above : goal.returns-else-a-half_above
returns-else-a-half_above c =
    rounds-up c.args.a c.half_above.result c.truncating_f64_to_u64-q.result c.requires.above_zero
    (c.truncating_f64_to_u64-q.ensures ∙ truncated c.args.a c.requires.above_zero c.requires.near) c.half_above.ensures c.if-a-half_above.false
