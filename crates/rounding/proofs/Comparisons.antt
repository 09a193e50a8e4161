-- A comparison of floats as one of exact fractions, for floats that are finite and above zero, `positive` in the kit's model.
--   same_test  two tests of which each holds with the other
--   lt-value   with a float of the value a / c
--   halves     n halves, as a float
use Rattle.std.proofs.Common.{◌≡◌, ℕ, ◌+◌, ◌*◌, ◌^◌, ◌<◌, Bool, true, false, T, ltb, pos, negsuc, sym, refl, ap, ◌∙◌, subst, ap₂, lt_of_lt_of_le, mul_assoc, lt_of_mul-lt-mul_right, mul-lt-mul_of_pos_right, mul-one, mul_right_comm, arith, lit<, lit≤, ltb→lt, lt→ltb, pow_mono, shl_lt}
use lib.Ieee.{Float, nan, inf, fin, binary64, round, mul, lt, of_int, of_bits}
use lib.Ieee.Exact.{HasValue, round_exact}
use lib.Ieee.Back.{round_whole}
use lib.Ieee.Positive.{num, den, den_pos, positive, value→cross, mul_at, positive_of_value}

-- ════ by crossing the fractions
pub same_test : (s t : Bool) → (T s → T t) → (T t → T s) → s ≡ t
same_test true true f g = refl
same_test true false f g = absurd (f tt)
same_test false true f g = absurd (g tt)
same_test false false f g = refl

ltb-scale : (a b k : ℕ) → 0 < k → ltb (a * k) (b * k) ≡ ltb a b
ltb-scale a b k p =
    same_test (ltb (a * k) (b * k)) (ltb a b) (λ t. lt→ltb a b (lt_of_mul-lt-mul_right k (ltb→lt (a * k) (b * k) t)))
    (λ t. lt→ltb (a * k) (b * k) (mul-lt-mul_of_pos_right (ltb→lt a b t) p))

lt-cross : (x y : Float) → T (positive x) → T (positive y) → lt x y ≡ ltb (num x * den y) (num y * den x)
unfolding lt
lt-cross nan y p q = absurd p
lt-cross (inf s) y p q = absurd p
lt-cross (fin true m e) y p q = absurd p
lt-cross (fin false m e) nan p q = absurd q
lt-cross (fin false m e) (inf t) p q = absurd q
lt-cross (fin false m e) (fin true n d) p q = absurd q
lt-cross (fin false m e) (fin false n d) p q = refl

-- y is a / c
module _ (x y : Float) (a c : ℕ) (p : T (positive x)) (q : T (positive y)) (C : 0 < c) (v : HasValue y false a c) where
  left : num x * den y * c ≡ num x * c * den y
  left = mul_right_comm (num x) (den y) c

  right : num y * den x * c ≡ a * den x * den y
  right =
      mul_right_comm (num y) (den x) c ∙ ap (λ (k : ℕ). k * den x) (value→cross y a c v) ∙ mul_right_comm a (den y) (den x)

  pub lt-value : lt x y ≡ ltb (num x * c) (a * den x)
  lt-value =
      lt-cross x y p q ∙ sym (ltb-scale (num x * den y) (num y * den x) c C) ∙ ap₂ ltb left right
      ∙ ltb-scale (num x * c) (a * den x) (den y) (den_pos y)

-- ════ halves
-- 4602678819172646912 are the bits of 0.5, and 2 ^ 1074 of the smallest float make 1
pub halves : (n : ℕ) → 0 < n → n < 2 ^ 53 → HasValue (mul binary64 (of_int binary64 (pos n)) (of_bits binary64 4602678819172646912)) false n 2
unfolding of_int of_bits
halves n p h =
    let x = round binary64 false n 1 in
    let y = fin false 1 (negsuc 0) in
    let v : HasValue x false n 1 = round_whole binary64 false n (omega arith) in
    let e : mul binary64 x y ≡ round binary64 false (n * 1) 2 = mul_at binary64 x y n 1 1 2 (positive_of_value x n 1 v p) tt (lit< tt) (lit< tt) v (refl, refl) in
    subst (λ (z : Float). HasValue z false n 2) (sym e)
    (subst (λ (k : ℕ). HasValue (round binary64 false (n * 1) 2) false k 2) (mul-one n)
    (round_exact binary64 false (n * 1) 2 n 1073 (lit< tt) h (lt_of_lt_of_le (shl_lt 53 1073 h) (pow_mono {i = 53 + 1073} {j = 1074 + 1024} (lit≤ tt)))
    (ap (λ (k : ℕ). k * 2 ^ 1074) (mul-one n) ∙ sym (mul_assoc n (2 ^ 1073) 2))))
