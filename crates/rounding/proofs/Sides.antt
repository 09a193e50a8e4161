-- A magnitude a / b, rounded, by the side of the half above its whole part that it lies on.
--   rounded-below, rounded-from   below the half it is the whole part, and from the half on the next
--   whole-part-le                 it is at least the whole part
--   whole-part-within             the whole part is at most k where a / b is
use Rattle.std.proofs.Common.{◌≡◌, ℕ, ◌+◌, ◌*◌, ◌/◌, ◌<◌, ◌≤◌, true, false, ltb, suc-mul, div-lt_iff_lt-mul, le-div_iff_mul-le, div-mul-le_self, arith, ltb-false, ltb-true}
use native.Mathlib.Nat.{lt-div-mul-add}
use Rattle.whole.specs.Nearest.{nearest_up}
use Rattle.whole.proofs.Nearest.{up-between}

-- twice b times the half above the whole part of a / b, with which 2a is compared
abbrev pub half : ℕ → ℕ → ℕ
half a b = (2 * (a / b) + 1) * b

module _ (a b : ℕ) (p : 0 < b) where
  pub rounded-below : ltb (2 * a) (half a b) ≡ true → a / b ≡ nearest_up b a
  rounded-below h = up-between b p (a / b) a (omega (arith, div-mul-le_self a b)) (omega (arith, ltb-true (2 * a) (half a b) h, suc-mul (a / b) b))

  pub rounded-from : ltb (2 * a) (half a b) ≡ false → a / b + 1 ≡ nearest_up b a
  rounded-from h =
      let l : a < a / b * b + b = lt-div-mul-add p in
      up-between b p (a / b + 1) a (omega (arith, ltb-false (2 * a) (half a b) h)) (omega arith)

  pub whole-part-le : a / b ≤ nearest_up b a
  whole-part-le = (le-div_iff_mul-le p).1 (omega (arith, div-mul-le_self a b))

  pub whole-part-within : (k : ℕ) → a ≤ k * b → a / b ≤ k
  whole-part-within k l = let h : a / b < k + 1 = (div-lt_iff_lt-mul p).1 (let g : a < (k + 1) * b = omega arith in g) in omega arith
