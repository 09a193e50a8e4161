-- Answers as floats.
--   zero-positive   the answer of a zero is the positive zero
--   never-nan       no answer is a NaN
use Rattle.std.proofs.Common.{◌≡◌, ℕ, zero, suc, ◌+◌, ◌*◌, ◌^◌, Bool, true, false, cond, eqb, ltb, ℤ, pos, negsuc, refl, ap, ◌∙◌, true≢false}
use lib.Ieee.{Float, nan, inf, fin, Format, binary64, prec, emax, low, unlike, up, down, odd, units, round, div, of_int, is_nan}
use Rattle.rounding.specs.Answer.{float_of}

pub zero-positive : float_of (pos 0) ≡ fin false 0 (pos 0)
unfolding float_of div of_int
zero-positive = refl

-- ════ rounding gives a number or an infinity
module _ (f : Format) where
  odd_number : (d : ℕ) (s : Bool) (q k l : ℕ) → is_nan (odd d s q k l) ≡ false
  unfolding odd is_nan
  odd_number d s zero k l = refl
  odd_number d s (suc q) k l = refl

  units_number : (s : Bool) (q k : ℕ) → is_nan (units f s q k) ≡ false
  unfolding units is_nan
  units_number s q k = either (ltb (q * 2 ^ k) (2 ^ (low f + suc (emax f))))
    where
      either : (b : Bool) → is_nan (cond b (odd (suc (prec f)) s q k (low f)) (inf s)) ≡ false
      either true = odd_number (suc (prec f)) s q k (low f)
      either false = refl

  round_number : (s : Bool) (n d : ℕ) → is_nan (round f s n d) ≡ false
  unfolding round
  round_number s n d = units_number s _ _

  of_int-number : (z : ℤ) → is_nan (of_int f z) ≡ false
  unfolding of_int
  of_int-number (pos n) = round_number false n 1
  of_int-number (negsuc n) = round_number true (suc n) 1

  -- a quotient by a finite number that is not zero
  div-number : (x : Float) (t : Bool) (n : ℕ) (d : ℤ) → is_nan x ≡ false → eqb n 0 ≡ false → is_nan (div f x (fin t n d)) ≡ false
  unfolding div is_nan
  div-number nan t n d e h = absurd (true≢false e)
  div-number (inf s) t n d e h = refl
  div-number (fin s m c) t n d e h =
      let quotient : Float = round f (unlike s t) (m * up c * down d) (n * up d * down c) in
      ap (λ b. is_nan (cond b (cond (eqb m 0) nan (inf (unlike s t))) quotient)) h ∙ round_number (unlike s t) (m * up c * down d) (n * up d * down c)

-- 10¹⁷ is 5¹⁷·2¹⁷
divisor : of_int binary64 (pos (10 ^ 17)) ≡ fin false (5 ^ 17) (pos 17)
unfolding of_int
divisor = refl

pub never-nan : (z : ℤ) → is_nan (float_of z) ≡ false
unfolding float_of
never-nan z = ap (λ y. is_nan (div binary64 (of_int binary64 z) y)) divisor ∙ div-number binary64 (of_int binary64 z) false (5 ^ 17) (pos 17) (of_int-number binary64 z) refl
