-- The magnitude of a near float, from the fields of its bits.
--   field, digits          the exponent's field, and the digits that are kept
--   field-near             the field of a near float, so small that the shift, 1075 less it, is above 0
--   parts_low, parts-high  the magnitude where the field is 0, and else with one digit before those that are kept
use mathlib.Core.Path.{◌≡◌, refl, sym, ap, ◌∙◌, subst}
use mathlib.Core.Bool.{Bool, true, false, cond}
use Prim.Native.Nat.{ℕ, zero, suc, ◌+◌, ◌-◌, ◌*◌, ◌/◌, ◌%◌, ◌^◌, ◌≤◌, ◌<◌}
use native.Mathlib.Nat as N
use native.Mathlib.Omega.{arith}
use lib.Dec.{T, eqb, leb, lit<}
use lib.Pow.{pow-add, pow_pos, pow_mono}
use lib.Ieee.{Float, nan, inf, fin, binary64, odd, of_fields, of_bits, to_bits, fits}
use lib.Ieee.Bits.{of_bits-to_bits}
use lib.Ieee.Exact.{HasValue, odd_sign}
use lib.Ieee.Positive.{num, den, den_pos}
use lib.Ieee.Scale.{finite}
use Rattle.rounding.specs.Ready.{farthest_near, Near}
use Rattle.thousandths.specs.Steps.{IsParts}

-- where an f64 parts its digits, its exponent and its sign; the digit that a float with all its digits has before those that are kept
abbrev leading : ℕ
leading = 2 ^ 52

abbrev sign : ℕ
sign = 2 ^ 63

abbrev pub field : Float → ℕ
field x = to_bits binary64 x % sign / leading

abbrev pub digits : Float → ℕ
digits x = to_bits binary64 x % leading

-- ════ the value by the fields
-- the magnitude of x is d times 2 ^ g of the smallest floats, of which 2 ^ 1074 make 1
abbrev Units : Float → ℕ → ℕ → Type 0
Units x d g = num x * 2 ^ 1074 ≡ d * 2 ^ g * den x

abbrev Fields : Float → ℕ → ℕ → Type 0
Fields x zero t = Units x t 0
Fields x (suc g) t = Units x (leading + t) g

units : (x : Float) (s : Bool) (d g : ℕ) → HasValue x s (d * 2 ^ g) (2 ^ 1074) → Units x d g
units nan s d g v = absurd v
units (inf t) s d g v = absurd v
units (fin t m e) s d g v = v.1

not-special : (b s : Bool) → T (finite (cond b (inf s) nan)) → ⊥
not-special true s h = h
not-special false s h = h

of-fields : (s : Bool) (f t : ℕ) → T (finite (of_fields binary64 s f t)) → Fields (of_fields binary64 s f t) f t
unfolding of_fields
of-fields s zero t h = units (odd 53 s t 0 1074) s t 0 (odd_sign 53 s t 0 1074)
of-fields s (suc g) t h = go (eqb (suc g) 2047) h
  where
    go : (b : Bool) → T (finite (cond b (cond (eqb t 0) (inf s) nan) (odd 53 s (leading + t) g 1074)))
        → Fields (cond b (cond (eqb t 0) (inf s) nan) (odd 53 s (leading + t) g 1074)) (suc g) t
    go true h = absurd (not-special (eqb t 0) s h)
    go false h = units (odd 53 s (leading + t) g 1074) s (leading + t) g (odd_sign 53 s (leading + t) g 1074)

of-bits : (x : Float) → T (fits binary64 x) → T (finite x) → Fields x (field x) (digits x)
unfolding of_bits
of-bits x f h =
    let back : of_fields binary64 (leb sign (to_bits binary64 x)) (field x) (digits x) ≡ x = of_bits-to_bits binary64 x f in
    subst (λ y. Fields y (field x) (digits x)) back (of-fields (leb sign (to_bits binary64 x)) (field x) (digits x) (subst (λ y. T (finite y)) (sym back) h))

-- ════ a near float's
-- The powers are numbers of their own here, u for 2 ^ 1074: written out, they are too large for `omega`.
too_far : (n d k p u : ℕ) → 0 < d → 0 < u → n ≤ farthest_near * d → farthest_near < k → u ≤ p → n * u ≡ k * p * d → ⊥
too_far n d k p u D U l h g e =
    omega (arith, N.mul-le-mul_right u l, N.mul-le-mul_right d (N.mul-le-mul h g), N.mul-pos D U)

lowered : (n d k p q u : ℕ) → 0 < p → q * p ≡ u → n * u ≡ k * p * d → n * q ≡ k * d
lowered n d k p q u P s e =
    N.eq_of_mul-eq-mul_right p P (n * q) (k * d) (N.mul_assoc n q p ∙ ap (λ j. n * j) s ∙ e ∙ N.mul_right_comm k p d)

module _ (x : Float) where
  parts : (d g s : ℕ) → d < 2 ^ 53 → s + g ≡ 1074 → Units x d g → IsParts x d s
  parts d g s l e v =
      record { value = lowered (num x) (den x) d (2 ^ g) (2 ^ s) (2 ^ 1074) (pow_pos g) (sym (pow-add 2 s g) ∙ ap (λ j. 2 ^ j) e) v; few = l }

  near : (f t : ℕ) → Near x → Fields x f t → f ≤ 1074
  near zero t n v = omega arith
  near (suc g) t n v =
      let far : 1074 ≤ g → ⊥ = λ h. too_far (num x) (den x) (leading + t) (2 ^ g) (2 ^ 1074) (den_pos x) (pow_pos 1074) n.small (omega arith) (pow_mono {i = 1074} {j = g} h) v in
      omega arith

  low : (f t : ℕ) → t < leading → f ≡ 0 → Fields x f t → IsParts x t 1074
  low zero t l e v = parts t 0 1074 (omega arith) refl v
  low (suc g) t l e v = absurd (omega arith)

  high : (f t : ℕ) → t < leading → (f ≡ 0 → ⊥) → f ≤ 1074 → Fields x f t → IsParts x (leading + t) (1075 - f)
  high zero t l n h v = absurd (n refl)
  high (suc g) t l n h v = parts (leading + t) g (1075 - suc g) (omega arith) (omega arith) v

module _ (x : Float) (f : T (fits binary64 x)) (n : Near x) where
  few : digits x < leading
  few = N.mod-lt (to_bits binary64 x) (lit< tt)

  pub field-near : field x ≤ 1074
  field-near = near x (field x) (digits x) n (of-bits x f n.finite)

  pub parts_low : field x ≡ 0 → IsParts x (digits x) 1074
  parts_low e = low x (field x) (digits x) few e (of-bits x f n.finite)

  pub parts-high : (field x ≡ 0 → ⊥) → IsParts x (leading + digits x) (1075 - field x)
  parts-high h = high x (field x) (digits x) few h field-near (of-bits x f n.finite)
