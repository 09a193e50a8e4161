-- How far a value in fixed point is off, in whole numbers. v, in units of 10⁻⁹, stands for e in the printed units of 10⁻⁵ over m.
--   Off m n v e       2·|m v − 10⁴ e| ≤ n: twice the distance, m times as fine
--   off-exact         a printed number is not off
--   off-+             the distances of a sum add up
--   off-times         a product with a reading of at most R: the distance grows R-fold where the unit grows 10⁶-fold, and one half of that unit comes with
--                     the rounding
--   off_nil           0 is not off; nil-times: nor is 0 times a reading
use mathlib.Core.Path.{◌≡◌, sym, ◌∙◌, ap, ap₂}
use Prim.Native.Nat.{ℕ, ◌+◌, ◌*◌, ◌≤◌}
use native.Mathlib.Nat as N
use native.Mathlib.Omega.{arith}
use lib.IntN.{ℤ, pos, nat_abs, ◌+ℤ◌, ◌-ℤ◌, ◌*ℤ◌, *ℤ-zero}
use Rattle.whole.specs.Nearest.{nearest_away}
use Rattle.whole.proofs.Ring.{*ℤ-assoc}
use Rattle.whole.proofs.Identity.{quote, quote-pos, by, ring3, ring6}
use Rattle.whole.proofs.Magnitudes.{nat_abs-+, nat_abs-*}
use Rattle.whole.proofs.Nearest.{nearest-near}
use Rattle.polynomials.proofs.Semiring.{whole, nil-mul}
use Rattle.cumulus_page.specs.Model.{microradians}
use Rattle.microradians.specs.Fixed.{per_printed, ◌⊛◌}

-- microradians in a radian
abbrev pub M : ℕ
M = microradians.radian

-- a record, so that a proof shows its numbers
pub record Off (m n : ℕ) (v e : ℤ) : Type 0 where
  pub off : 2 * nat_abs (pos m *ℤ v -ℤ pos per_printed *ℤ e) ≤ n

split-exact : (m a c : ℤ) → m *ℤ (c *ℤ a) -ℤ a *ℤ (c *ℤ m) ≡ pos 0
split-exact m a c = ring3 m a c (λ ρ e f g. simp (quote, quote-pos ρ, e, f, g) (by _ _ _ tt))

split-sum : (m a v w e f : ℤ) → m *ℤ (v +ℤ w) -ℤ a *ℤ (e +ℤ f) ≡ (m *ℤ v -ℤ a *ℤ e) +ℤ (m *ℤ w -ℤ a *ℤ f)
split-sum m a v w e f = ring6 m a v w e f (λ ρ g h i j k l. simp (quote, g, h, i, j, k, l) (by _ _ _ tt))

-- with b for the exact value that v stands for
split-times : (m k t v r b : ℤ) → m *ℤ k *ℤ t -ℤ b *ℤ r ≡ m *ℤ (k *ℤ t -ℤ v *ℤ r) +ℤ (m *ℤ v -ℤ b) *ℤ r
split-times m k t v r b = ring6 m k t v r b (λ ρ a c d e f g. simp (quote, a, c, d, e, f, g) (by _ _ _ tt))

pub off-exact : (m : ℕ) (c : ℤ) → Off m 0 (c *ℤ pos per_printed) (c *ℤ pos m)
off-exact m c = record { off = rw (split-exact (pos m) (pos per_printed) c) (omega arith) }

pub off-+ : {m a b : ℕ} {v w e f : ℤ} → Off m a v e → Off m b w f → Off m (a + b) (v +ℤ w) (e +ℤ f)
off-+ {m} {a} {b} {v} {w} {e} {f} g h =
    record {
      off = rw (split-sum (pos m) (pos per_printed) v w e f) (omega (arith, nat_abs-+ (pos m *ℤ v -ℤ pos per_printed *ℤ e) (pos m *ℤ w -ℤ pos per_printed *ℤ f), g.off, h.off));
    }

pub off-times : {m n : ℕ} {v e : ℤ} (r : ℤ) (R : ℕ) → nat_abs r ≤ R → Off m n v e → Off (m * M) (n * R + m * M) (v ⊛ r) (e *ℤ r)
off-times {m} {n} {v} {e} r R hr g =
    let a = pos M *ℤ (v ⊛ r) -ℤ v *ℤ r in
    let b = pos m *ℤ v -ℤ pos per_printed *ℤ e in
    record {
      off =
          rw (sym (*ℤ-assoc (pos per_printed) e r), split-times (pos m) (pos M) (v ⊛ r) v r (pos per_printed *ℤ e))
          (bound (nat_abs a) (nat_abs b) _ (nearest-near M (omega arith) (v *ℤ r)) g.off (omega (arith, nat_abs-+ (pos m *ℤ a) (b *ℤ r), nat_abs-* (pos m) a, nat_abs-* b r)));
    }
  where
    bound : (a b z : ℕ) → 2 * a ≤ M → 2 * b ≤ n → z ≤ m * a + b * nat_abs r → 2 * z ≤ n * R + m * M
    bound a b z ha hb hz = omega (arith, N.mul-le-mul_left m ha, N.mul-le-mul hb hr)

pub nil-times : (r : ℤ) → pos 0 ⊛ r ≡ pos 0
unfolding nearest_away
nil-times r = ap (nearest_away M) (nil-mul whole r)

pub off_nil : (m : ℕ) {v e : ℤ} → v ≡ pos 0 → e ≡ pos 0 → Off m 0 v e
off_nil m {v} {e} d f = record { off = N.le_of_eq (ap₂ (λ v e. 2 * nat_abs (pos m *ℤ v -ℤ pos per_printed *ℤ e)) d f ∙ nothing) }
  where
    nothing : 2 * nat_abs (pos m *ℤ pos 0 -ℤ pos per_printed *ℤ pos 0) ≡ 0
    nothing = ap (λ z. 2 * nat_abs (z -ℤ pos per_printed *ℤ pos 0)) (*ℤ-zero (pos m))
