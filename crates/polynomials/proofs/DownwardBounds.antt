-- What a sum from the highest power down stays within.
--   down-part, down-product, down-number   at naturals, r at least 1: what is taken so far, that times r, and each number are at most what all come to
--   down-within              the magnitude of a sum is at most what the magnitudes come to
--   product-fits, next_fits  so what the code forms on the way fits 64 bits, where the magnitudes come to the cap at most
--   number_size, row-size    a number, and a row, against its magnitudes
--   weight-rows              the weight of a group by its rows
--   rows_weight, rows_none, rows_more, rows_all   the rows from a power on, as a loop takes them
--   rows-part, row-light     neither these nor a single row weigh more than the group
use mathlib.Core.Path.{◌≡◌, sym, ◌∙◌, ap, subst}
use mathlib.Core.List.{List, map}
use Prim.Native.Nat.{ℕ, zero, suc, ◌+◌, ◌-◌, ◌*◌, ◌≤◌, ◌<◌}
use native.Mathlib.Nat as N
use native.Mathlib.Decide.{dec_lt}
use native.Mathlib.Omega.{arith}
use native.Mathlib.Numerals.{add-one}
use lib.IntN.{ℤ, pos, nat_abs, ◌+ℤ◌, ◌*ℤ◌}
use lib.ListN.{length, length-map, get_or-map}
use mir.Syntax.{w64}
use mir.Val.{SFits}
use Rattle.whole.proofs.Magnitudes.{nat_abs-+, nat_abs-*}
use Rattle.whole.proofs.Machine.{nat_abs-sfits}
use Rattle.polynomials.specs.Numbers.{ints, nats}
use Rattle.polynomials.specs.Order.{size, place}
use Rattle.polynomials.specs.Group.{number, weight}
use Rattle.polynomials.specs.Downward.{down, row_downward, row_weight}
use Rattle.polynomials.specs.Limits.{cap}
use Rattle.polynomials.proofs.Semiring.{natural}
use Rattle.polynomials.proofs.Downward.{down-start, down-more, down-all, row-past, rows-value}

-- ════ at naturals
module _ (g : ℕ → ℕ) (r : ℕ) (one : 1 ≤ r) (n : ℕ) where
  -- what the numbers from the power p on come to
  abbrev from : ℕ → ℕ
  from p = down nats ◌*◌ g r (n - p) p

  step : (p : ℕ) → p < n → from p ≡ from (p + 1) * r + g p
  step = down-more nats ◌*◌ g r n

  grows : (p : ℕ) → p < n → from (p + 1) ≤ from p
  grows p h = omega (arith, step p h, N.mul-le-mul_left (from (p + 1)) one)

  part : (p : ℕ) → p ≤ n → from p ≤ from 0
  part zero h = N.le_refl _
  part (suc p) h = omega (arith, grows p h, part p (omega arith), ap from (add-one p))

  pub down-part : (p : ℕ) → p ≤ n → from p ≤ down nats ◌*◌ g r n 0
  down-part p h = omega (arith, part p h, down-all nats ◌*◌ g r n)

  pub down-product : (p : ℕ) → p < n → from (p + 1) * r ≤ down nats ◌*◌ g r n 0
  down-product p h = omega (arith, step p h, down-part p (omega arith))

  pub down-number : (p : ℕ) → p ≤ n → g p ≤ down nats ◌*◌ g r n 0
  down-number p h = pick (dec_lt p n)
    where
      pick : Dec (p < n) → g p ≤ down nats ◌*◌ g r n 0
      pick (yes b) = omega (arith, step p b, down-part p h)
      pick (no b) = let e : p ≡ n = omega arith in omega (arith, ap g e, down-start nats ◌*◌ g r n, down-part n (N.le_refl n))

-- ════ against magnitudes
module _ (f : ℕ → ℤ) (g : ℕ → ℕ) (x : ℤ) (r : ℕ) (each : (i : ℕ) → nat_abs (f i) ≤ g i) (near : nat_abs x ≤ r) where
  pub down-within : (k p : ℕ) → nat_abs (down ints ◌*ℤ◌ f x k p) ≤ down nats ◌*◌ g r k p
  unfolding down
  down-within zero p = each p
  down-within (suc k) p =
      let above = down ints ◌*ℤ◌ f x k (suc p) in
      omega (arith, nat_abs-+ (above *ℤ x) (f p), nat_abs-* above x, N.mul-le-mul (down-within k (suc p)) near, each p)

  -- ════ in 64 bits
  module _ (n : ℕ) (one : 1 ≤ r) (light : down nats ◌*◌ g r n 0 ≤ cap) (p : ℕ) (h : p < n) where
    abbrev taken : ℤ
    taken = down ints ◌*ℤ◌ f x (n - (p + 1)) (p + 1)

    pub product-fits : SFits w64 (taken *ℤ x)
    product-fits =
        nat_abs-sfits (taken *ℤ x)
        (omega (arith, nat_abs-* taken x, N.mul-le-mul (down-within (n - (p + 1)) (p + 1)) near, down-product g r one n p h))

    pub next_fits : SFits w64 (taken *ℤ x +ℤ f p)
    next_fits =
        subst (SFits w64) (down-more ints ◌*ℤ◌ f x n p h)
        (nat_abs-sfits _ (omega (arith, down-within (n - p) p, down-part g r one n p (N.le_of_lt h))))

-- ════ the rows of a group
module _ (d : ℕ) (l : List ℤ) where
  pub number_size : (p q : ℕ) → nat_abs (number ints l p q) ≤ number nats (map nat_abs l) p q
  unfolding number
  number_size p q = N.le_of_eq (sym (get_or-map nat_abs l (place p q) (pos 0)))

  pub row-size : (x : ℤ) (r q : ℕ) → nat_abs x ≤ r → nat_abs (row_downward ints ◌*ℤ◌ d (number ints l) x q) ≤ row_weight d l r q
  row-size x r q h = down-within (λ p. number ints l p q) (λ p. number nats (map nat_abs l) p q) x r (λ p. number_size p q) h (d - q) 0

  module _ (r t : ℕ) where
    -- what the rows from the power q on weigh; one more stands above them, which is 0, so that a loop may start with nothing
    abbrev pub rows_weight : ℕ → ℕ
    rows_weight q = down nats ◌*◌ (row_weight d l r) t (d + 1 - q) q

    pub rows_more : (q : ℕ) {s : ℕ} → q ≤ d → s ≡ rows_weight (q + 1) → s * t + row_weight d l r q ≡ rows_weight q
    rows_more q h e = ap (λ m. m * t + row_weight d l r q) e ∙ sym (down-more nats ◌*◌ (row_weight d l r) t (d + 1) q (omega arith))

    module _ (few : length l ≤ size d) where
      few-sizes : length (map nat_abs l) ≤ size d
      few-sizes = omega (arith, length-map l nat_abs)

      pub rows_none : rows_weight (d + 1) ≡ 0
      rows_none = down-start nats ◌*◌ (row_weight d l r) t (d + 1) ∙ row-past natural d (map nat_abs l) few-sizes r t (d + 1) (omega arith)

      -- all rows, also where some above the degree are taken
      pub weight-rows : (e : ℕ) → d ≤ e → down nats ◌*◌ (row_weight d l r) t e 0 ≡ weight l r t
      weight-rows = rows-value natural d (map nat_abs l) few-sizes r t

      pub rows_all : rows_weight 0 ≡ weight l r t
      rows_all = down-all nats ◌*◌ (row_weight d l r) t (d + 1) ∙ weight-rows (d + 1) (omega arith)

      module _ (one : 1 ≤ t) (q : ℕ) (h : q ≤ d) where
        pub rows-part : rows_weight q ≤ weight l r t
        rows-part = omega (arith, down-part (row_weight d l r) t one (d + 1) q (omega arith), weight-rows (d + 1) (omega arith))

        pub row-light : row_weight d l r q ≤ weight l r t
        row-light = omega (arith, down-number (row_weight d l r) t one d q h, weight-rows d (N.le_refl d))
