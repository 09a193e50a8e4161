-- `shifting::move_group` meets its contract. Assumes nothing.
use mathlib.Core.Path.{◌≡◌, refl, sym, ◌∙◌, ap, ap₂}
use mathlib.Core.List.{List}
use Prim.Native.Nat.{ℕ, ◌+◌, ◌≤◌, ◌<◌}
use native.Mathlib.Nat as N
use native.Mathlib.Decide.{ℕ_discrete}
use native.Mathlib.Omega.{arith}
use mir.Syntax.{w64}
use borrow.Author.Rules.{rules}
use lib.IntN.{ℤ, pos}
use lib.ListN.{length, get_or, set, length-set}
use lib.Seq.{get_or-set_same, get_or-set_other}
use mir.Val.{SFits}
use mir.Facts.{to_z-of_z}
use Rattle.polynomials.specs.Numbers.{ints}
use Rattle.polynomials.specs.Order.{below}
use Rattle.polynomials.specs.Binomial.{shift_in}
use Rattle.polynomials.specs.Ready.{Movable}
use Rattle.polynomials.specs.Group.{own, moved_number, replaced, moved}
use Rattle.polynomials.specs.declared.Variable.{Variable}
use Rattle.polynomials.specs.declared.Variable.TheVariants.{First, Second}
use Rattle.polynomials.proofs.Places.{powers-place}
use Rattle.polynomials.proofs.Listed.{listed-is}
use Rattle.polynomials.proofs.Chains.{chain, gap, gap-near, chain_next, chain-beside, chain-rises, chain-degree, chain-powers}
use Rattle.shifting.proofs.move_group.Invariants.{mine, others, moved_at, Filled, Stands}
use Rattle.shifting.proofs.move_group.Goals as goal

module _ (w : Variable) (s : ℤ) (l : List ℤ) where
  none : (out : List ℤ) → Filled w s l out 0 0
  unfolding Filled
  none out k h a c = absurd (omega (arith, c (omega arith)))

  number-there : (b p : ℕ) → moved_number ints w s l (own w p b) (own w b p) ≡ moved_at w s l (chain w b p)
  unfolding moved_at
  number-there b p = let e = powers-place (own w p b) (own w b p) in ap₂ (moved_number ints w s l) (sym e.0) (sym e.1)

  low : Movable w s l → (b p : ℕ) {at : ℕ} → at ≡ chain w b p → at < length l → b + p < 5
  unfolding below
  low m b p e h = chain-degree w 5 b p (omega (arith, e, h, m.few))

  -- a number is written, and the loop goes on to the next of the chain
  more : Movable w s l → (out : List ℤ) (b p at step : ℕ) (v : ℤ) → at < length l → Stands w s l out b p at → step ≡ gap w (b + p) → v ≡ moved_at w s l (chain w b p) → Stands w s l (set out at v) b (p + 1) (at + step)
  unfolding Filled
  more m out b p at step v h t g e =
      let here : at + step ≡ chain w b (p + 1) = omega (arith, t.here, chain_next w b p (b + p) (omega arith)) in
      record { long = length-set out at v ∙ t.long; here = here; low = low m b (p + 1) here; filled = λ k i a c. pick k i a c (ℕ_discrete k at) }
    where
      pick : (k : ℕ) → k < length l → others w k ≤ b → (b ≤ others w k → mine w k < p + 1) → Dec (k ≡ at) → get_or (set out at v) k (pos 0) ≡ moved_at w s l k
      pick k i a c (yes z) = rw z (get_or-set_same out at v (pos 0) (omega (arith, t.long)) ∙ e ∙ ap (moved_at w s l) (sym t.here))
      pick k i a c (no z) =
          get_or-set_other out at k v (pos 0) z
          ∙ t.filled k i a (λ d. N.lt_of_not-le (λ y. z (sym (chain-powers w k) ∙ ap₂ (chain w) (omega arith) (omega (arith, c d)) ∙ sym t.here)))

  -- a place that is not passed is not before the one where the loop stands
  ahead : (b p k : ℕ) → b ≤ others w k → p ≤ mine w k → chain w b p ≤ k
  ahead b p k h i = omega (arith, chain-rises w b p (others w k) (mine w k) h i, chain-powers w k)

  -- a chain has left the group, and the loop goes on to the next chain
  next-chain : Movable w s l → (out : List ℤ) (b p at start step : ℕ) → length l ≤ at → Stands w s l out b p at → start ≡ chain w b 0 → step ≡ gap (own w Second First) b → Stands w s l out (b + 1) 0 (start + step)
  unfolding Filled
  next-chain m out b p at start step h t e g =
      let here : start + step ≡ chain w (b + 1) 0 = omega (arith, chain-beside w b) in
      record {
        long = t.long;
        here = here;
        low = low m (b + 1) 0 here;
        filled = λ k i a c.
            let beside : others w k < b + 1 = N.lt_of_not-le (λ d. omega (arith, c d)) in
            t.filled k i (omega arith) (λ d. N.lt_of_not-le (λ y. omega (arith, ahead b p k d y, t.here)));
      }

  -- the first place of a chain is past the group
  full : (out : List ℤ) (b at : ℕ) → length l ≤ at → Stands w s l out b 0 at → out ≡ moved w s l
  unfolding Filled moved_at replaced
  full out b at h t =
      sym (listed-is (pos 0) (length l) (moved_at w s l) out t.long (λ k i.
      let low : others w k < b = N.lt_of_not-le (λ d. omega (arith, ahead b 0 k d (omega arith), t.here)) in
      t.filled k i (omega arith) (λ d. absurd (omega arith))))

-- the gap to the next chain, as it came back
gap_is : (w : Variable) (b : ℕ) {v : Variable} {step : ℕ} → step ≡ gap v b → v ≡ own w Second First → step ≡ gap (own w Second First) b
gap_is w b e h = e ∙ ap (λ u. gap u b) h

-- ---- the goals
pub loop-start-init : goal.loop-start-init
unfolding below
loop-start-init c = record {
  long = c.requires.same_length;
  here = by c.args.which;
  low = low c.args.which (shift_in c.args.rows.now.numbers) c.args.from.now c.requires.movable 0 0 (by c.args.which);
  filled = none c.args.which (shift_in c.args.rows.now.numbers) c.args.from.now c.args.out.now;
}
  where
    by : (v : Variable) → 0 ≡ chain v 0 0
    by First = refl
    by Second = refl

pub overflow_add-at : goal.overflow_add-at
overflow_add-at c =
    let near = gap-near c.args.which (c.loop-start.beside + c.loop-at.p) c.gap-at.ensures in
    omega (arith, near.1, c.loop-at.invariant.low c.loop-at-test.true, c.loop-at-test.true, c.requires.movable.few)

pub loop-at-smaller : goal.loop-at-smaller
loop-at-smaller c =
    let near = gap-near c.args.which (c.loop-start.beside + c.loop-at.p) c.gap-at.ensures in
    omega (arith, near.0, c.loop-at-test.true)

pub loop-at-preserved : goal.loop-at-preserved
loop-at-preserved c =
    let f : SFits w64 c.moved_number-x.result = search rules in
    more c.args.which (shift_in c.args.rows.now.numbers) c.args.from.now c.requires.movable c.loop-at.out c.loop-start.beside c.loop-at.p c.loop-at.at c.gap-at.result _ c.loop-at-test.true c.loop-at.invariant c.gap-at.ensures
    (to_z-of_z {w = w64} f ∙ c.moved_number-x.ensures ∙ number-there c.args.which (shift_in c.args.rows.now.numbers) c.args.from.now c.loop-start.beside c.loop-at.p)

pub overflow_add-start : goal.overflow_add-start
overflow_add-start c =
    let near = gap-near (own c.args.which Second First) c.loop-start.beside (gap_is c.args.which c.loop-start.beside c.gap-start.ensures c.other.ensures) in
    omega (arith, near.1, c.loop-start.invariant.low c.loop-start-test.true, c.loop-start-test.true, c.requires.movable.few)

pub loop-start-smaller : goal.loop-start-smaller
loop-start-smaller c =
    let near = gap-near (own c.args.which Second First) c.loop-start.beside (gap_is c.args.which c.loop-start.beside c.gap-start.ensures c.other.ensures) in
    omega (arith, near.0, c.loop-start-test.true)

pub loop-start-preserved : goal.loop-start-preserved
loop-start-preserved c =
    next-chain c.args.which (shift_in c.args.rows.now.numbers) c.args.from.now c.requires.movable c.loop-at.out c.loop-start.beside c.loop-at.p c.loop-at.at c.loop-start.start c.gap-start.result c.loop-at-test.false c.loop-at.invariant c.loop-start.invariant.here
    (gap_is c.args.which c.loop-start.beside c.gap-start.ensures c.other.ensures)

pub returns : goal.returns
returns c = full c.args.which (shift_in c.args.rows.now.numbers) c.args.from.now c.loop-start.out c.loop-start.beside c.loop-start.start c.loop-start-test.false c.loop-start.invariant
