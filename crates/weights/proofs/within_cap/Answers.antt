-- `weights::within_cap`: where one row more passes the cap, the whole weight does, and so not all are within it. Assumes nothing.
use Rattle.std.proofs.Common.{arith, ◌≡◌, ℕ, ◌+◌, ◌*◌, ◌-◌, ◌<◌, ◌≤◌, Bool, true, false, refl, sym, ◌∙◌, ap, subst, List, ℤ, length, take, drop, Option, Some, None}
use native.Mathlib.Nat as N
use native.Mathlib.Numerals.{add-one}
use borrow.Author.Tests.{le-leb, lt-leb}
use lib.Dec.{leb}
use lib.ListN.{length-take}
use Rattle.polynomials.specs.Order.{size}
use Rattle.polynomials.specs.Group.{weight}
use Rattle.polynomials.specs.Groups.{total_weight}
use Rattle.polynomials.specs.Downward.{row_weight}
use Rattle.polynomials.specs.Limits.{cap, against, joint}
use Rattle.polynomials.specs.Ready.{Reached}
use Rattle.polynomials.specs.declared.Reach.{Reach}
use Rattle.polynomials.proofs.Cap.{within-against, passed-against, within-joint, passed-joint}
use Rattle.polynomials.proofs.DownwardBounds.{rows_weight, rows_none, rows_more, rows-part, rows_all}
use Rattle.layout.specs.declared.Kind.{Kind}
use Rattle.layout.specs.declared.Model.{Model}
use Rattle.layout.specs.Shape.{Shape, block_start, table_length, shape, own, shared, own_at, shared_at}
use Rattle.layout.specs.Limits.{every}
use Rattle.layout.specs.Blocks.{groups}
use Rattle.layout.specs.Sound.{within_cap}
use Rattle.layout.specs.Reaches.{reaches_of}
use Rattle.laws.proofs.Tests.{every-none, every_more, every-stops, every-ext}
use Rattle.layout.proofs.Fine.{FineKind, split, own-fine, inside, few-variables, few-table}
use Rattle.laws.proofs.Own.{own-inside}
use Rattle.weights.specs.Ready.{reach_in, high_in, Measured}
use Rattle.weights.proofs.Weighing.{own_weight, both_weight, fits, coefficient-weight}
use Rattle.weights.proofs.within_cap.Goals as goal

-- ════ the reaches l, and the own group, of the kind k with n numbers
module _ (d : Model) (t : List ℤ) {sizes : List ℕ} {l : List Reach} {k : Kind} {n : ℕ} (whole : length t ≡ table_length (shape d)) (measured : Measured sizes l) (k-is : k ≡ own (shape d)) (n-is : n ≡ size k.degree) where
  abbrev S : Shape
  S = shape d

  abbrev v : Reach
  v = reach_in l (k.v + 1)

  k-fine : FineKind S.variables k
  k-fine = subst (λ (k : Kind). FineKind S.variables k) (sym k-is) (own-fine d)

  v-reached : Reached v
  v-reached = measured.reached (k.v + 1) (omega (arith, k-fine.second, few-variables d))

  v-is : v.size ≡ high_in l (own S).v
  v-is = ap (λ i. (reach_in l i).size) (add-one k.v) ∙ ap (λ (k : Kind). high_in l k.v) k-is

  -- what a coefficient weighs: in the piece's own group, in what the pieces share, and in all
  abbrev own_of : ℕ → ℕ → ℕ
  own_of = own_weight S t l

  abbrev both_of : ℕ → ℕ
  both_of = both_weight S t l

  abbrev all : ℕ → ℕ → ℕ
  all b p = own_of b p + both_of b

  abbrev block_fits : ℕ → Bool
  block_fits b = every 2 (fits S t l b)

  asked : within_cap S t (reaches_of sizes) ≡ every S.blocks block_fits
  unfolding within_cap
  asked = every-ext S.blocks _ _ (λ b hb. every-ext 2 _ _ (λ p hp. ap (λ m. leb m cap) (coefficient-weight sizes l measured d t b p hp)))

  -- one that is past the cap
  past : (b p : ℕ) → b < S.blocks → p < 2 → cap < all b p → false ≡ within_cap S t (reaches_of sizes)
  past b p hb hp h = sym (asked ∙ every-stops S.blocks block_fits b hb (every-stops 2 (fits S t l b) p hp (lt-leb (all b p) cap h)))

  -- ════ a block, and what its pieces share
  module _ (b : ℕ) (below : b < S.blocks) {start : ℕ} (start-is : start ≡ block_start S b) where
    shared-is : {w : Option ℕ} → w ≡ against (total_weight (groups (shared S) (drop (shared_at S start) t)) (high_in l)) → w ≡ against (both_of b)
    shared-is h = h ∙ ap (λ a. against (total_weight (groups (shared S) (drop (shared_at S a) t)) (high_in l))) start-is

    within : (both : ℕ) → Some both ≡ against (total_weight (groups (shared S) (drop (shared_at S start) t)) (high_in l)) → (both ≡ both_of b) × (both_of b ≤ cap)
    within both h = within-against both (both_of b) (shared-is h)

    -- ════ a piece, its own group and the rows of it
    module _ (p : ℕ) (half : p < 2) where
      abbrev u : Reach
      u = reach_in l p

      abbrev from : ℕ
      from = start + n * p

      abbrev group : List ℤ
      group = take (from + n - from) (drop from t)

      count-is : from + n - from ≡ size k.degree
      count-is = omega (arith, n-is)

      own-size : n ≡ size (own S).degree
      own-size = n-is ∙ ap (λ (k : Kind). size k.degree) k-is

      from_is : from ≡ own_at S (block_start S b) p
      from_is = omega (arith, start-is, ap (λ m. m * p) own-size)

      -- it lies in the table
      end : from + n ≤ length t
      end = omega (arith, from_is, own-size, own-inside S (split d) p half, inside S b below, whole)

      few : length group ≤ size k.degree
      few = omega (arith, length-take (from + n - from) (drop from t), count-is)

      u-reached : Reached u
      u-reached = measured.reached p (omega (arith, half))

      -- the rows from a power on
      abbrev rest : ℕ → ℕ
      rest = rows_weight k.degree group u.size v.size

      whole_is : weight group u.size v.size ≡ own_of b p
      whole_is =
          let e = count-is ∙ ap (λ (k : Kind). size k.degree) k-is in
          λ i. weight (take (e i) (drop (from_is i) t)) u.size (v-is i)

      part : (q : ℕ) → q ≤ k.degree → rest q ≤ own_of b p
      part q h = N.le_trans (rows-part k.degree group u.size v.size few v-reached.one q h) (N.le_of_eq whole_is)

      -- none of them, one more, one that passes the cap, and all
      rest-none : 0 ≡ rest (k.degree + 1 - 0)
      rest-none = let e : k.degree + 1 ≡ k.degree + 1 - 0 = omega arith in sym (rows_none k.degree group u.size v.size few) ∙ ap rest e

      rest-more : (row sum : ℕ) → row ≤ k.degree → sum ≡ rest (k.degree + 1 - row) → sum * v.size + row_weight k.degree group u.size (k.degree - row) ≡ rest (k.degree - row)
      rest-more row sum h is =
          let e : k.degree + 1 - row ≡ k.degree - row + 1 = omega arith in
          rows_more k.degree group u.size v.size (k.degree - row) (omega arith) (is ∙ ap rest e)

      rest-past : (row sum : ℕ) → row ≤ k.degree → sum ≡ rest (k.degree + 1 - row)
          → None ≡ joint (sum * v.size) (row_weight k.degree group u.size (k.degree - row)) → cap < own_of b p
      rest-past row sum h is e =
          omega (arith, passed-joint (sum * v.size) (row_weight k.degree group u.size (k.degree - row)) e, rest-more row sum h is, part (k.degree - row) (omega arith))

      rest-all : (row sum : ℕ) → k.degree + 1 ≤ row → sum ≡ rest (k.degree + 1 - row) → sum ≡ own_of b p
      rest-all row sum h is =
          let e : k.degree + 1 - row ≡ 0 = omega arith in
          is ∙ ap rest e ∙ rows_all k.degree group u.size v.size few ∙ whole_is

pub blocks-2-init : goal.blocks-2-init
blocks-2-init c = (every-none _, refl)

pub loop-piece-init : goal.loop-piece-init
loop-piece-init c = (every-none _, c.blocks-2.invariant.1)

-- a piece's own group lies in the table
lies : (c : goal.After-u-1) → c.start-start.result + c.size-size.result * c.loop-piece.piece + c.size-size.result ≤ length c.args.table.now
lies c =
    let b = c.blocks-2.block in
    let below : b < (shape c.args.model).blocks = omega (arith, c.blocks-blocks.ensures) in
    end c.args.model c.args.table.now c.requires.whole c.all_reaches-reaches.ensures c.kind-own.ensures c.size-size.ensures b below c.start-start.ensures c.loop-piece.piece c.loop-piece-test.true

pub overflow_add-from : goal.overflow_add-from
overflow_add-from c = omega (arith, lies c, few-table c.args.model, c.requires.whole)

pub overflow_add-to : goal.overflow_add-to
overflow_add-to c = omega (arith, lies c, few-table c.args.model, c.requires.whole)

pub offset_bounds-table-from : goal.offset_bounds-table-from
offset_bounds-table-from c = omega (arith, lies c, few-table c.args.model, c.requires.whole)

pub slice_bounds-group-end : goal.slice_bounds-group-end
slice_bounds-group-end c = omega (arith, lies c)

pub loop-row-init : goal.loop-row-init
loop-row-init c =
    let b = c.blocks-2.block in
    let below : b < (shape c.args.model).blocks = omega (arith, c.blocks-blocks.ensures) in (
      rest-none c.args.model c.args.table.now c.requires.whole c.all_reaches-reaches.ensures c.kind-own.ensures c.size-size.ensures b below c.start-start.ensures c.loop-piece.piece c.loop-piece-test.true,
      c.loop-piece.invariant.1,
    )

pub loop-row-preserved : goal.loop-row-preserved
loop-row-preserved c =
    let b = c.blocks-2.block in
    let row = c.loop-row.row in
    let d = c.kind-own.result.degree in
    let below : b < (shape c.args.model).blocks = omega (arith, c.blocks-blocks.ensures) in
    let next = rest-more c.args.model c.args.table.now c.requires.whole c.all_reaches-reaches.ensures c.kind-own.ensures c.size-size.ensures b below c.start-start.ensures c.loop-piece.piece c.loop-piece-test.true row c.loop-row.sum (omega arith) c.loop-row.invariant.0 in
    let e : d - row ≡ d + 1 - (row + 1) = omega arith in
    (within-joint _ _ c.in-Some-add_row.more c.in-Some-add_row.ensures ∙ next ∙ ap (rows_weight d _ _ _) e, c.loop-row.invariant.1)

pub loop-piece-preserved : goal.loop-piece-preserved
loop-piece-preserved c =
    let m = c.args.model in
    let b = c.blocks-2.block in
    let p = c.loop-piece.piece in
    let below : b < (shape m).blocks = omega (arith, c.blocks-blocks.ensures) in
    let sum = rest-all m c.args.table.now c.requires.whole c.all_reaches-reaches.ensures c.kind-own.ensures c.size-size.ensures b below c.start-start.ensures p c.loop-piece-test.true c.loop-row.row c.loop-row.sum (omega arith) c.loop-row.invariant.0 in
    let w = within m c.args.table.now c.requires.whole c.all_reaches-reaches.ensures c.kind-own.ensures c.size-size.ensures b below c.start-start.ensures c.in-Some.both c.in-Some.ensures in
    let h : own_weight (shape m) c.args.table.now c.all_reaches-reaches.result b p + both_weight (shape m) c.args.table.now c.all_reaches-reaches.result b ≤ cap = omega (arith, sum, w.0, w.1, c.if-sum-both.false) in
    (every_more p _ c.loop-piece.invariant.0 (le-leb _ _ h), c.loop-row.invariant.1)

pub blocks-2-preserved : goal.blocks-2-preserved
blocks-2-preserved c =
    let e : c.loop-piece.piece ≡ 2 = omega arith in
    let f = fits (shape c.args.model) c.args.table.now c.all_reaches-reaches.result c.blocks-2.block in
    (every_more c.blocks-2.block _ c.blocks-2.invariant.0 (subst (λ m. every m f ≡ true) e c.loop-piece.invariant.0), c.loop-piece.invariant.1)

pub returns-after-blocks-2 : goal.returns-after-blocks-2
returns-after-blocks-2 c =
    let m = c.args.model in
    let S = shape m in
    let e : c.blocks-2.block ≡ S.blocks = omega (arith, c.blocks-blocks.ensures) in
    let f : ℕ → Bool = λ b. every 2 (fits S c.args.table.now c.all_reaches-reaches.result b) in
    c.blocks-2.invariant.1
    ∙ sym (asked m c.args.table.now c.requires.whole c.all_reaches-reaches.ensures c.kind-own.ensures c.size-size.ensures ∙ subst (λ m. every m f ≡ true) e c.blocks-2.invariant.0)

pub returns-in_default : goal.returns-in_default
returns-in_default c =
    let m = c.args.model in
    let b = c.blocks-2.block in
    let below : b < (shape m).blocks = omega (arith, c.blocks-blocks.ensures) in
    let told = shared-is m c.args.table.now c.requires.whole c.all_reaches-reaches.ensures c.kind-own.ensures c.size-size.ensures b below c.start-start.ensures c.in_default.ensures in
    let h : cap < both_weight (shape m) c.args.table.now c.all_reaches-reaches.result b = passed-against _ told in
    past m c.args.table.now c.requires.whole c.all_reaches-reaches.ensures c.kind-own.ensures c.size-size.ensures b 0 below (omega arith) (omega arith)

pub returns-in_default-add_row : goal.returns-in_default-add_row
returns-in_default-add_row c =
    let m = c.args.model in
    let b = c.blocks-2.block in
    let p = c.loop-piece.piece in
    let below : b < (shape m).blocks = omega (arith, c.blocks-blocks.ensures) in
    let h = rest-past m c.args.table.now c.requires.whole c.all_reaches-reaches.ensures c.kind-own.ensures c.size-size.ensures b below c.start-start.ensures p c.loop-piece-test.true c.loop-row.row c.loop-row.sum (omega arith) c.loop-row.invariant.0 c.in_default-add_row.ensures in
    past m c.args.table.now c.requires.whole c.all_reaches-reaches.ensures c.kind-own.ensures c.size-size.ensures b p below c.loop-piece-test.true (omega (arith, h))

pub returns-then-sum-both : goal.returns-then-sum-both
returns-then-sum-both c =
    let m = c.args.model in
    let b = c.blocks-2.block in
    let p = c.loop-piece.piece in
    let below : b < (shape m).blocks = omega (arith, c.blocks-blocks.ensures) in
    let sum = rest-all m c.args.table.now c.requires.whole c.all_reaches-reaches.ensures c.kind-own.ensures c.size-size.ensures b below c.start-start.ensures p c.loop-piece-test.true c.loop-row.row c.loop-row.sum (omega arith) c.loop-row.invariant.0 in
    let w = within m c.args.table.now c.requires.whole c.all_reaches-reaches.ensures c.kind-own.ensures c.size-size.ensures b below c.start-start.ensures c.in-Some.both c.in-Some.ensures in
    past m c.args.table.now c.requires.whole c.all_reaches-reaches.ensures c.kind-own.ensures c.size-size.ensures b p below c.loop-piece-test.true (omega (arith, sum, w.0, w.1, c.if-sum-both.true))
