-- `blocks::move_block` meets its contract. Assumes nothing.
use mathlib.Core.Path.{◌≡◌, refl, sym, ◌∙◌, ap, subst}
use mathlib.Core.List.{List, ◌∷◌}
use Prim.Native.Nat.{ℕ, ◌+◌, ◌*◌, ◌≤◌, ◌<◌}
use native.Mathlib.Omega.{arith}
use lib.IntN.{ℤ}
use lib.ListN.{length, drop}
use Rattle.polynomials.specs.Order.{size}
use Rattle.polynomials.specs.Binomial.{shift_in}
use Rattle.polynomials.specs.Groups.{grouped, moved_group}
use Rattle.polynomials.proofs.Places.{below-highest}
use Rattle.layout.specs.declared.Kind.{Kind}
use Rattle.layout.specs.declared.Model.{Model}
use Rattle.layout.specs.Shape.{shape, kind_at, own}
use Rattle.layout.proofs.Fine.{FineKind, fine, fine-at, split, two-groups, own-fine, few-block}
use Rattle.laws.proofs.Walk.{at-kind}
use Rattle.blocks.specs.Ready.{between, placed, Between, Shiftable}
use Rattle.blocks.proofs.BlockMoves.{Moved, moved_none, moved_all, moved_more, next-end, next-ready}
use Rattle.blocks.proofs.Sums.{few}
use Rattle.blocks.proofs.move_block.Goals as goal

module _ (model : Model) (i : ℕ) (s : ℤ) (from : List ℤ) (v : Shiftable (shape model) i s from) where
  -- a group moved from `a` to `e`
  abbrev group_from : Kind → ℕ → ℕ → List ℤ
  group_from k a e = (moved_group i s (grouped k.u k.v (between from a e))).numbers

  -- one group more: it stands in the block, and can be moved
  step : (k : Kind) (g a n e : ℕ) (out : List ℤ) → drop g (shape model).kinds ≡ k ∷ drop (g + 1) (shape model).kinds → n ≡ size k.degree → a + n ≡ e → Moved (shape model) i s from out g a
      → Between from out a e k.u k.v i s × Moved (shape model) i s from (placed out a e (group_from k a e)) (g + 1) e
  step k g a n e out q is p m =
      let is-fine : FineKind (shape model).variables k = fine-at (shape model).variables g (shape model).kinds _ k (fine model) q in
      let end : a + size k.degree ≡ e = omega (arith, is, p) in
      subst (λ e. Between from out a e k.u k.v i s × Moved (shape model) i s from (placed out a e (group_from k a e)) (g + 1) e) end (
        record {
          same = m.same;
          order = omega arith;
          inside = next-end (shape model) i s from out g a m k q;
          group = next-ready (shape model) i s from out g a m k q is-fine v.near;
        },
        moved_more (shape model) i s from out g a m k q,
      )

  -- ---- the pieces' own groups
  module _ (first : Kind) (own_is : first ≡ own (shape model)) (n : ℕ) (size_is : n ≡ size first.degree) where
    first_next : drop 0 (shape model).kinds ≡ first ∷ drop 1 (shape model).kinds
    first_next = at-kind (shape model) 0 first (omega (arith, two-groups model)) own_is

    second-next : drop 1 (shape model).kinds ≡ first ∷ drop 2 (shape model).kinds
    second-next = ap (drop 1) (split model).kinds ∙ ap (λ k. k ∷ drop 2 (shape model).kinds) (sym own_is)

    small : n ≤ size 4
    small = omega (arith, size_is, few first.degree (subst (λ (k : Kind). FineKind (shape model).variables k) (sym own_is) (own-fine model)).few)

    module _ (out₀ : List ℤ) (long : length out₀ ≡ length from) where
      first_step : Between from out₀ 0 n first.u first.v i s × Moved (shape model) i s from (placed out₀ 0 n (group_from first 0 n)) 1 n
      first_step = step first 0 0 n n out₀ first_next size_is (omega arith) (moved_none (shape model) i s from out₀ long v)

      module _ (out₁ : List ℤ) (first-is : out₁ ≡ placed out₀ 0 n (group_from first 0 n)) where
        one-moved : Moved (shape model) i s from out₁ 1 n
        one-moved = subst (λ l. Moved (shape model) i s from l 1 n) (sym first-is) first_step.1

        second-step : Between from out₁ n (2 * n) first.u first.v i s × Moved (shape model) i s from (placed out₁ n (2 * n) (group_from first n (2 * n))) 2 (2 * n)
        second-step = step first 1 n n (2 * n) out₁ second-next size_is (omega arith) one-moved

        two-moved : (out₂ : List ℤ) → out₂ ≡ placed out₁ n (2 * n) (group_from first n (2 * n)) → Moved (shape model) i s from out₂ 2 (2 * n)
        two-moved out₂ second-is = subst (λ l. Moved (shape model) i s from l 2 (2 * n)) (sym second-is) second-step.1

  -- ---- the group that is moved
  module _ (k : Kind) (g at n : ℕ) (out : List ℤ) (h : g < length (shape model).kinds) (kind_is : k ≡ kind_at (shape model) g) (size_is : n ≡ size k.degree) (m : Moved (shape model) i s from out g at) where
    is-next : drop g (shape model).kinds ≡ k ∷ drop (g + 1) (shape model).kinds
    is-next = at-kind (shape model) g k h kind_is

    ready : Between from out at (at + n) k.u k.v i s
    ready = (step k g at n (at + n) out is-next size_is refl m).0

    more-moved : (next : List ℤ) → next ≡ placed out at (at + n) (group_from k at (at + n)) → Moved (shape model) i s from next (g + 1) (at + n)
    more-moved next is = subst (λ l. Moved (shape model) i s from l (g + 1) (at + n)) (sym is) (step k g at n (at + n) out is-next size_is refl m).1

-- ---- the goals
pub overflow_mul-at : goal.overflow_mul-at
overflow_mul-at c =
    let a = c.args in
    omega (arith, small a.model a.variable (shift_in a.rows.now.numbers) a.from.now c.requires.shiftable c.kind-own.result c.kind-own.ensures c.size-size.result c.size-size.ensures, below-highest)

pub move_between-requires : goal.move_between-requires
move_between-requires c =
    let a = c.args in
    (first_step a.model a.variable (shift_in a.rows.now.numbers) a.from.now c.requires.shiftable c.kind-own.result c.kind-own.ensures c.size-size.result c.size-size.ensures a.out.now c.requires.same_length).0

pub move_between-requires-2 : goal.move_between-requires-2
move_between-requires-2 c =
    let a = c.args in
    (second-step a.model a.variable (shift_in a.rows.now.numbers) a.from.now c.requires.shiftable c.kind-own.result c.kind-own.ensures c.size-size.result c.size-size.ensures a.out.now c.requires.same_length c.move_between.new.out c.move_between.ensures).0

pub loop-group-init : goal.loop-group-init
loop-group-init c =
    let a = c.args in
    two-moved a.model a.variable (shift_in a.rows.now.numbers) a.from.now c.requires.shiftable c.kind-own.result c.kind-own.ensures c.size-size.result c.size-size.ensures a.out.now c.requires.same_length c.move_between.new.out c.move_between.ensures c.move_between-2.new.out c.move_between-2.ensures

pub overflow_add-end : goal.overflow_add-end
overflow_add-end c =
    let a = c.args in
    let l = c.loop-group in
    let b = ready a.model a.variable (shift_in a.rows.now.numbers) a.from.now c.requires.shiftable c.kind-kind.result l.group l.at c.size.result l.out (omega (arith, c.loop-group-test.true, c.groups-group-end.ensures)) c.kind-kind.ensures c.size.ensures l.invariant in
    omega (arith, b.inside, c.requires.shiftable.whole, few-block a.model)

pub move_between-requires-in-loop-group : goal.move_between-requires-in-loop-group
move_between-requires-in-loop-group c =
    let a = c.args in
    let l = c.loop-group in
    ready a.model a.variable (shift_in a.rows.now.numbers) a.from.now c.requires.shiftable c.kind-kind.result l.group l.at c.size.result l.out (omega (arith, c.loop-group-test.true, c.groups-group-end.ensures)) c.kind-kind.ensures c.size.ensures l.invariant

pub loop-group-preserved : goal.loop-group-preserved
loop-group-preserved c =
    let a = c.args in
    let l = c.loop-group in
    more-moved a.model a.variable (shift_in a.rows.now.numbers) a.from.now c.requires.shiftable c.kind-kind.result l.group l.at c.size.result l.out (omega (arith, c.loop-group-test.true, c.groups-group-end.ensures)) c.kind-kind.ensures c.size.ensures l.invariant c.move_between-in-loop-group.new.out c.move_between-in-loop-group.ensures

pub returns : goal.returns
returns c =
    let a = c.args in
    let l = c.loop-group in
    moved_all (shape a.model) a.variable (shift_in a.rows.now.numbers) a.from.now l.out l.group l.at l.invariant (omega (arith, c.loop-group-test.false, c.groups-group-end.ensures))
