-- `shifting::moved_number` meets its contract. The weight bounds each of the terms and their sums. Assumes nothing.
use mathlib.Core.Path.{◌≡◌, refl, sym, ◌∙◌, ap, subst}
use mathlib.Core.List.{List, []}
use Prim.Native.Nat.{ℕ, ◌+◌, ◌≤◌, ◌<◌}
use native.Mathlib.Nat as N
use native.Mathlib.Numerals.{add-one}
use native.Mathlib.Omega.{arith}
use borrow.Author.Rules.{rules}
use lib.IntN.{ℤ, pos, nat_abs, ◌+ℤ◌, ◌*ℤ◌}
use lib.ListN.{length, get_or}
use mir.Syntax.{w64}
use mir.Val.{SFits, to_z, of_z}
use mir.Facts.{to_z-of_z}
use Rattle.whole.proofs.Machine.{nat_abs-sfits, op-bits, op-back}
use Rattle.polynomials.specs.Numbers.{ints}
use Rattle.polynomials.specs.Sum.{sum as Σ}
use Rattle.polynomials.specs.Order.{below}
use Rattle.polynomials.specs.Binomial.{multiplied_out, multiplied_rows, shift_in}
use Rattle.polynomials.specs.Group.{own, moved_number}
use Rattle.polynomials.specs.Limits.{cap}
use Rattle.polynomials.specs.Ready.{Movable}
use Rattle.polynomials.specs.declared.Variable.{Variable}
use Rattle.polynomials.proofs.Semiring.{whole}
use Rattle.polynomials.proofs.Sums.{sum-suc, sum-shrink}
use Rattle.polynomials.proofs.Bounds.{moved-part-within, given-within}
use Rattle.polynomials.proofs.MultipliedRows.{row_number}
use Rattle.polynomials.proofs.Chains.{chain, gap, gap-near, chain_next, chain-degree, chain-far, given-chain, given-end}
use Rattle.shifting.proofs.moved_number.Invariants.{terms, Turn}
use Rattle.shifting.proofs.moved_number.Goals as goal

-- ---- the term at a place inside the list
module _ (w : Variable) (s : ℤ) (l : List ℤ) (ready : Movable w s l) (b p : ℕ) (start : chain w b p < length l) where
  fits : (z : ℤ) → nat_abs z ≤ cap → SFits w64 z
  fits z h = nat_abs-sfits z (omega arith)

  sum_fits : (j : ℕ) → j ≤ length l → SFits w64 (Σ ints j (terms w s l b p))
  sum_fits j h = fits _ (N.le_trans (moved-part-within w s l 1 1 (N.le_refl 1) (N.le_refl 1) (own w p b) (own w b p) start j h) ready.light)

  low : (j : ℕ) {i : ℕ} → i ≡ chain w b (p + j) → i < length l → b + p + j < 5
  unfolding below
  low j e h = omega (arith, chain-degree w 5 b (p + j) (omega (arith, e, h, ready.few)))

  module _ (j : ℕ) (h : chain w b (p + j) < length l) where
    short : j < length l
    short = omega (arith, chain-far w b (p + j))

    term_fits : SFits w64 (terms w s l b p j)
    term_fits = fits _ (N.le_trans (given-within w s l 1 1 (N.le_refl 1) (N.le_refl 1) (own w p b) (own w b p) start j short) ready.light)

    product_fits : SFits w64 (get_or l (chain w b (p + j)) (pos 0) *ℤ multiplied_out ints s (p + j) p)
    product_fits = subst (SFits w64) (given-chain w s l b p j) term_fits

    next-sum : Σ ints j (terms w s l b p) +ℤ terms w s l b p j ≡ Σ ints (j + 1) (terms w s l b p)
    next-sum = rw add-one (sym (sum-suc whole j (terms w s l b p)))

    next_fits : SFits w64 (Σ ints j (terms w s l b p) +ℤ terms w s l b p j)
    next_fits = rw next-sum (sum_fits (j + 1) (omega (arith, short)))

    next-turn : {sum more : ℤ} {i step : ℕ} → Turn w s l b p j sum i → step ≡ gap w (b + p + j) → more ≡ Σ ints j (terms w s l b p) +ℤ terms w s l b p j → Turn w s l b p (j + 1) more (i + step)
    next-turn {i = i} {step} t g e =
        let here : i + step ≡ chain w b (p + (j + 1)) = omega (arith, t.here, g, chain_next w b (p + j) (b + p + j) (omega arith), ap (chain w b) (N.add_assoc p j 1)) in
        record { few = omega (arith, short); here = here; low = low (j + 1) here; sum_is = e ∙ next-sum }

  all : (j : ℕ) → j ≤ length l → length l ≤ chain w b (p + j) → Σ ints j (terms w s l b p) ≡ moved_number ints w s l (own w p b) (own w b p)
  unfolding moved_number
  all j h k = sym (sum-shrink whole j (length l) (terms w s l b p) h (λ i a. given-end w s l b p j i k a))

  -- at a turn: the number and what stands in its row, as they are read, the term, and the sum with it
  module _ (rows : List (List ℤ)) (made : rows ≡ multiplied_rows s) {j i : ℕ} {sum : ℤ} (t : Turn w s l b p j sum i) (h : i < length l) where
    on : chain w b (p + j) < length l
    on = subst (λ k. k < length l) t.here h

    module _ (f : SFits w64 (get_or l i (pos 0))) (g : SFits w64 (get_or (get_or rows (p + j) []) p (pos 0))) where
      number_is : to_z w64 (of_z w64 (get_or l i (pos 0))) ≡ get_or l (chain w b (p + j)) (pos 0)
      number_is = to_z-of_z {w = w64} f ∙ ap (λ k. get_or l k (pos 0)) t.here

      row_is : to_z w64 (of_z w64 (get_or (get_or rows (p + j) []) p (pos 0))) ≡ multiplied_out ints s (p + j) p
      row_is = to_z-of_z {w = w64} g ∙ row_number s made (p + j) p (omega (arith, t.low h)) (omega (arith, t.low h))

      product-bits : SFits w64 (to_z w64 (of_z w64 (get_or l i (pos 0))) *ℤ to_z w64 (of_z w64 (get_or (get_or rows (p + j) []) p (pos 0))))
      product-bits = op-bits ◌*ℤ◌ number_is row_is (product_fits j on)

      term_is : to_z w64 (of_z w64 (to_z w64 (of_z w64 (get_or l i (pos 0))) *ℤ to_z w64 (of_z w64 (get_or (get_or rows (p + j) []) p (pos 0))))) ≡ terms w s l b p j
      term_is = op-back ◌*ℤ◌ number_is row_is (product_fits j on) ∙ sym (given-chain w s l b p j)

      sum-bits : SFits w64 (sum +ℤ to_z w64 (of_z w64 (to_z w64 (of_z w64 (get_or l i (pos 0))) *ℤ to_z w64 (of_z w64 (get_or (get_or rows (p + j) []) p (pos 0))))))
      sum-bits = op-bits ◌+ℤ◌ t.sum_is term_is (next_fits j on)

      again : {step : ℕ} → step ≡ gap w (b + p + j) → Turn w s l b p (j + 1) (to_z w64 (of_z w64 (sum +ℤ to_z w64 (of_z w64 (to_z w64 (of_z w64 (get_or l i (pos 0))) *ℤ to_z w64 (of_z w64 (get_or (get_or rows (p + j) []) p (pos 0)))))))) (i + step)
      again k = next-turn j on t k (op-back ◌+ℤ◌ t.sum_is term_is (next_fits j on))

inside : {a k n : ℕ} → a ≡ k → a < n → k < n
inside e h = omega arith

-- ---- the goals
pub loop-i-init : goal.loop-i-init
unfolding Σ
loop-i-init c =
    let a = c.args in
    let here : a.at ≡ chain a.which a.beside (a.p + 0) = c.requires.there.0 ∙ ap (chain a.which a.beside) (sym (N.add-zero a.p)) in
    record {
      few = omega arith;
      here = here;
      low = low a.which (shift_in a.rows.now.numbers) a.from.now c.requires.movable a.beside a.p (inside c.requires.there.0 c.requires.there.1) 0 here;
      sum_is = refl;
    }

pub overflow_mul-sum : goal.overflow_mul-sum
overflow_mul-sum c =
    let f : SFits w64 (get_or c.args.from.now c.loop-i.i (pos 0)) = search rules in
    let h : SFits w64 (get_or (get_or c.args.rows.now.numbers (c.args.p + c.loop-i.j) []) c.args.p (pos 0)) = search rules in
    product-bits c.args.which (shift_in c.args.rows.now.numbers) c.args.from.now c.requires.movable c.args.beside c.args.p (inside c.requires.there.0 c.requires.there.1) c.args.rows.now.numbers c.args.rows.now.of_a_shift c.loop-i.invariant c.loop-i-test.true f h

pub overflow_add-sum-in-loop-i : goal.overflow_add-sum-in-loop-i
overflow_add-sum-in-loop-i c =
    let f : SFits w64 (get_or c.args.from.now c.loop-i.i (pos 0)) = search rules in
    let h : SFits w64 (get_or (get_or c.args.rows.now.numbers (c.args.p + c.loop-i.j) []) c.args.p (pos 0)) = search rules in
    sum-bits c.args.which (shift_in c.args.rows.now.numbers) c.args.from.now c.requires.movable c.args.beside c.args.p (inside c.requires.there.0 c.requires.there.1) c.args.rows.now.numbers c.args.rows.now.of_a_shift c.loop-i.invariant c.loop-i-test.true f h

pub overflow_add-i : goal.overflow_add-i
overflow_add-i c =
    let near = gap-near c.args.which (c.args.beside + c.args.p + c.loop-i.j) c.gap-i.ensures in
    omega (arith, near.1, c.loop-i.invariant.low c.loop-i-test.true, c.loop-i-test.true, c.requires.movable.few)

pub loop-i-smaller : goal.loop-i-smaller
loop-i-smaller c =
    let near = gap-near c.args.which (c.args.beside + c.args.p + c.loop-i.j) c.gap-i.ensures in
    omega (arith, near.0, c.loop-i-test.true)

pub loop-i-preserved : goal.loop-i-preserved
loop-i-preserved c =
    let f : SFits w64 (get_or c.args.from.now c.loop-i.i (pos 0)) = search rules in
    let h : SFits w64 (get_or (get_or c.args.rows.now.numbers (c.args.p + c.loop-i.j) []) c.args.p (pos 0)) = search rules in
    again c.args.which (shift_in c.args.rows.now.numbers) c.args.from.now c.requires.movable c.args.beside c.args.p (inside c.requires.there.0 c.requires.there.1) c.args.rows.now.numbers c.args.rows.now.of_a_shift c.loop-i.invariant c.loop-i-test.true f h c.gap-i.ensures

pub returns : goal.returns
returns c =
    let t = c.loop-i.invariant in
    t.sum_is
    ∙ all c.args.which (shift_in c.args.rows.now.numbers) c.args.from.now c.requires.movable c.args.beside c.args.p (inside c.requires.there.0 c.requires.there.1) c.loop-i.j t.few (omega (arith, t.here, c.loop-i-test.false))
