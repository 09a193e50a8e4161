-- `shifting::multiplied_row` meets its contract. Assumes nothing.
use mathlib.Core.Path.{◌≡◌, sym, ◌∙◌, ap, subst}
use mathlib.Core.List.{List, []}
use Prim.Native.Nat.{ℕ, zero, suc, ◌^◌, ◌-◌, ◌≤◌, ◌<◌}
use native.Mathlib.Nat as N
use native.Mathlib.Decide.{ℕ_discrete}
use native.Mathlib.Omega.{arith}
use borrow.Author.Rules.{rules}
use lib.IntN.{ℤ, pos, nat_abs, pow, ◌*ℤ◌}
use lib.ListN.{length, get_or, set, length-set}
use lib.Seq.{get_or-set_same, get_or-set_other}
use mir.Syntax.{w64}
use mir.Val.{SFits, to_z, of_z}
use mir.Facts.{to_z-of_z}
use Rattle.whole.proofs.Ring.{*ℤ-unit, pow-zero, pow-suc}
use Rattle.whole.proofs.Magnitudes.{within, within-*, within-pow}
use Rattle.whole.proofs.Machine.{within-sfits, op-bits, op-back}
use Rattle.polynomials.specs.Numbers.{ints}
use Rattle.polynomials.specs.Sum.{listed}
use Rattle.polynomials.specs.Binomial.{choose, multiplied_out}
use Rattle.polynomials.specs.Limits.{farthest, highest_degree}
use Rattle.polynomials.proofs.Listed.{length-listed, get_or-listed, listed-is}
use Rattle.shifting.proofs.multiplied_row.Invariants.{Turn}
use Rattle.shifting.proofs.multiplied_row.Goals as goal

-- row k of the binomial numbers
binomials : ℕ → List ℤ
binomials k = listed 5 (λ p. pos (choose k p))

choose-small : (k p : ℕ) → choose k p ≤ 2 ^ k
unfolding choose
choose-small k zero = N.one-le-pow k 2 (omega arith)
choose-small zero (suc p) = omega arith
choose-small (suc k) (suc p) = omega (arith, choose-small k p, choose-small k (suc p), N.pow-suc 2 k)

module _ (s : ℤ) (near : nat_abs s ≤ farthest) (k : ℕ) (h : k ≤ highest_degree) where
  number_fits : (p : ℕ) → SFits w64 (multiplied_out ints s k p)
  number_fits p =
      within-sfits (within-* (within (pos (choose k p))) (within-pow (record { size = near }) (k - p)))
      (N.lt_of_le_of_lt (N.mul-le-mul (N.le_trans (choose-small k p) (N.pow-le-pow_right {n = 2} (omega arith) h)) (N.pow-le-pow_right {n = farthest} (omega arith) {i = k - p} {j = 4} (omega arith))) (omega arith))

  first : (row : List ℤ) → row ≡ binomials k → Turn s k row (pos 1) k
  unfolding binomials
  first row e =
      record {
        five = ap length e ∙ length-listed 5 (λ p. pos (choose k p));
        power-is = sym (none k (N.le_refl k));
        done = λ i b d. number i d ∙ sym (ap (λ z. pos (choose k i) *ℤ z) (none i b) ∙ *ℤ-unit (pos (choose k i)));
        left = λ i b. number i (omega arith);
      }
    where
      number : (i : ℕ) → i < 5 → get_or row i (pos 0) ≡ pos (choose k i)
      number i d = ap (λ l. get_or l i (pos 0)) e ∙ get_or-listed 5 (λ p. pos (choose k p)) i (pos 0) d

      none : (i : ℕ) → k ≤ i → pow s (k - i) ≡ pos 1
      none i b = let e : k - i ≡ 0 = omega arith in ap (pow s) e ∙ pow-zero s

  -- one place down: the power is the next, and fits
  module _ (p : ℕ) (b : 0 < p) (few : p ≤ k) where
    more : pow s (k - p) *ℤ s ≡ pow s (k - (p - 1))
    more = let e : suc (k - p) ≡ k - (p - 1) = omega arith in sym (pow-suc s (k - p)) ∙ ap (pow s) e

    more-fits : SFits w64 (pow s (k - p) *ℤ s)
    more-fits =
        rw more
        (within-sfits (within-pow (record { size = near }) (k - (p - 1))) (N.lt_of_le_of_lt (N.pow-le-pow_right {n = farthest} (omega arith) {i = k - (p - 1)} {j = 4} (omega arith)) (omega arith)))

    next : {row : List ℤ} {power : ℤ} {v w : ℤ} → Turn s k row power p → v ≡ multiplied_out ints s k (p - 1) → w ≡ pow s (k - (p - 1)) → Turn s k (set row (p - 1) v) w (p - 1)
    next {row} {power} {v} t e g =
        record {
          five = length-set row (p - 1) v ∙ t.five;
          power-is = g;
          done = λ i d f. pick i d f (ℕ_discrete i (p - 1));
          left = λ i d. get_or-set_other row (p - 1) i v (pos 0) (λ c. absurd (omega arith)) ∙ t.left i (omega arith);
        }
      where
        pick : (i : ℕ) → p - 1 ≤ i → i < 5 → Dec (i ≡ p - 1) → get_or (set row (p - 1) v) i (pos 0) ≡ multiplied_out ints s k i
        pick i d f (yes c) = rw c (get_or-set_same row (p - 1) v (pos 0) (omega (arith, t.five)) ∙ e)
        pick i d f (no c) = get_or-set_other row (p - 1) i v (pos 0) c ∙ t.done i (omega arith) f

    -- the two products as the code makes them
    module _ {row : List ℤ} {power : ℤ} (t : Turn s k row power p) where
      power-bits : SFits w64 (power *ℤ s)
      power-bits = subst (λ z. SFits w64 (z *ℤ s)) (sym t.power-is) more-fits

      power-now : to_z w64 (of_z w64 (power *ℤ s)) ≡ pow s (k - (p - 1))
      power-now = to_z-of_z power-bits ∙ ap (λ z. z *ℤ s) t.power-is ∙ more

      module _ (f : SFits w64 (get_or row (p - 1) (pos 0))) where
        number_is : to_z w64 (of_z w64 (get_or row (p - 1) (pos 0))) ≡ pos (choose k (p - 1))
        number_is = to_z-of_z {w = w64} f ∙ t.left (p - 1) (omega arith)

        number-bits : SFits w64 (to_z w64 (of_z w64 (get_or row (p - 1) (pos 0))) *ℤ to_z w64 (of_z w64 (power *ℤ s)))
        number-bits = op-bits ◌*ℤ◌ number_is power-now (number_fits (p - 1))

        again : Turn s k (set row (p - 1) (to_z w64 (of_z w64 (to_z w64 (of_z w64 (get_or row (p - 1) (pos 0))) *ℤ to_z w64 (of_z w64 (power *ℤ s)))))) (to_z w64 (of_z w64 (power *ℤ s))) (p - 1)
        again = next t (op-back ◌*ℤ◌ number_is power-now (number_fits (p - 1))) power-now

-- the shift, as the code holds it
near : {s : ℤ} → SFits w64 s → nat_abs s ≤ farthest → nat_abs (to_z w64 (of_z w64 s)) ≤ farthest
near f h = subst (λ z. nat_abs z ≤ farthest) (sym (to_z-of_z {w = w64} f)) h

-- ---- the goals
pub loop-p-init : goal.loop-p-init
unfolding binomials listed choose
loop-p-init c = first _ (near c.ranges.s c.requires.0) c.args.k c.requires.1 _ (get_or-listed 5 binomials c.args.k [] (omega (arith, c.requires.1)))

pub overflow_mul-power : goal.overflow_mul-power
overflow_mul-power c = power-bits _ (near c.ranges.s c.requires.0) c.args.k c.requires.1 c.loop-p.p c.loop-p-test.true c.loop-p.auto.p c.loop-p.invariant

pub overflow_mul-row : goal.overflow_mul-row
overflow_mul-row c =
    let f : SFits w64 (get_or c.loop-p.row (c.loop-p.p - 1) (pos 0)) = search rules in
    number-bits _ (near c.ranges.s c.requires.0) c.args.k c.requires.1 c.loop-p.p c.loop-p-test.true c.loop-p.auto.p c.loop-p.invariant f

pub loop-p-preserved : goal.loop-p-preserved
loop-p-preserved c =
    let f : SFits w64 (get_or c.loop-p.row (c.loop-p.p - 1) (pos 0)) = search rules in
    again _ (near c.ranges.s c.requires.0) c.args.k c.requires.1 c.loop-p.p c.loop-p-test.true c.loop-p.auto.p c.loop-p.invariant f

pub returns : goal.returns
returns c =
    let t = c.loop-p.invariant in
    sym (listed-is (pos 0) 5 (multiplied_out ints (to_z w64 (of_z w64 c.args.s)) c.args.k) c.loop-p.row t.five (λ i d. t.done i (omega (arith, c.loop-p-test.false)) d))
    ∙ ap (λ z. listed 5 (multiplied_out ints z c.args.k)) (to_z-of_z c.ranges.s)
