-- `blocks::coefficient_at` meets its contract. Assumes nothing.
use mathlib.Core.Path.{◌≡◌, sym, ◌∙◌, ap, subst, subst₂}
use mathlib.Core.List.{List, ◌∷◌}
use Prim.Native.Nat.{ℕ, ◌+◌, ◌*◌, ◌≤◌, ◌<◌}
use native.Mathlib.Omega.{arith}
use borrow.Author.Rules.{rules}
use lib.IntN.{ℤ, ◌+ℤ◌}
use lib.ListN.{length, drop}
use mir.Syntax.{w64}
use mir.Val.{SFits, to_z, of_z}
use mir.Facts.{to_z-of_z}
use Rattle.polynomials.specs.Order.{size}
use Rattle.polynomials.specs.Groups.{value_of, total}
use Rattle.layout.specs.declared.Kind.{Kind}
use Rattle.layout.specs.declared.Model.{Model}
use Rattle.layout.specs.Shape.{Shape, block_start, shape, kind_at, own, own_at, shared_at}
use Rattle.layout.specs.Numbers.{table_size}
use Rattle.layout.specs.Blocks.{piece, led, coefficient}
use Rattle.layout.specs.Reading.{readings}
use Rattle.layout.proofs.Fine.{fine, fine-at, split, own-fine, few-table}
use Rattle.laws.proofs.Walk.{at-kind}
use Rattle.blocks.specs.Ready.{GroupAt, Valued}
use Rattle.blocks.proofs.Sums.{Summed, shared_long, own-long, own-ready, summed-own, summed-all, next-ready, more-fits, summed-more}
use Rattle.blocks.proofs.coefficient_at.Goals as goal

module _ (m : Model) (t : List ℤ) (b n : ℕ) (x : List ℤ) (v : Valued (shape m) t b n x) where
  abbrev S : Shape
  S = shape m

  abbrev whole : ℤ
  whole = total (coefficient S t b (piece n)) (readings x)

  small : length t ≤ table_size
  small = omega (arith, few-table m, v.whole)

  -- ---- where the piece's own group stands, and the shared ones
  module _ {first : Kind} (own_is : first ≡ own S) {count : ℕ} (size_is : count ≡ size first.degree) {start : ℕ} (start_is : start ≡ block_start S b) where
    own-size : count ≡ size (own S).degree
    own-size = size_is ∙ ap (λ (k : Kind). size k.degree) own_is

    shared-at : start + 2 * count ≡ shared_at S (block_start S b)
    shared-at = omega (arith, start_is, own-size)

    shared-within : start + 2 * count ≤ table_size
    shared-within = omega (arith, shared-at, small, shared_long S (split m) t b n x v)

    own-at : start + count * n ≡ own_at S (block_start S b) n
    own-at = omega (arith, start_is, ap (λ k. k * n) own-size)

    own-within : start + count * n ≤ table_size
    own-within = omega (arith, own-at, small, own-long S (split m) t b n x v)

    ready-own : GroupAt t (start + count * n) (size first.degree) first.u first.v x
    ready-own = subst₂ (λ a (k : Kind). GroupAt t a (size k.degree) k.u k.v x) (sym own-at) (sym own_is) (own-ready S (split m) t b n x v (own-fine m))

    start-sum : {sum : ℤ} → sum ≡ value_of (led first (drop (start + count * n) t)) (readings x) → Summed S t x whole 2 (start + 2 * count) sum
    start-sum e =
        subst₂ (Summed S t x whole 2) (sym shared-at) (sym (e ∙ (λ i. value_of (led (own_is i) (drop (own-at i) t)) (readings x)))) (summed-own S (split m) t b n x v)

  -- ---- the group that is read
  module _ {g at : ℕ} {sum : ℤ} (summed : Summed S t x whole g at sum) (h : g < length S.kinds) {k : Kind} (kind_is : k ≡ kind_at S g) where
    is-next : drop g S.kinds ≡ k ∷ drop (g + 1) S.kinds
    is-next = at-kind S g k h kind_is

    ready-next : GroupAt t at (size k.degree) k.u k.v x
    ready-next = next-ready S t x whole g at sum summed k is-next (fine-at S.variables g S.kinds _ k (fine m) is-next) v.state

    module _ {more : ℤ} (e : more ≡ value_of (led k (drop at t)) (readings x)) where
      sum-fits : SFits w64 (sum +ℤ more)
      sum-fits = subst (λ z. SFits w64 (sum +ℤ z)) (sym e) (more-fits S t x whole g at sum summed k is-next)

      next-sum : {count : ℕ} → count ≡ size k.degree → Summed S t x whole (g + 1) (at + count) (to_z w64 (of_z w64 (sum +ℤ more)))
      next-sum is =
          subst₂ (Summed S t x whole (g + 1)) (ap (λ n. at + n) (sym is)) (sym (to_z-of_z {w = w64} sum-fits ∙ ap (λ z. sum +ℤ z) e))
          (summed-more S t x whole g at sum summed k is-next)

-- ---- the goals
pub overflow_mul-at : goal.overflow_mul-at
overflow_mul-at c = omega (arith, shared-within c.args.model c.args.table.now c.args.block c.args.piece c.args.state.now c.requires c.kind-own.ensures c.size-size.ensures c.start-start.ensures)

pub overflow_add-at : goal.overflow_add-at
overflow_add-at c = omega (arith, shared-within c.args.model c.args.table.now c.args.block c.args.piece c.args.state.now c.requires c.kind-own.ensures c.size-size.ensures c.start-start.ensures)

pub overflow_add-start : goal.overflow_add-start
overflow_add-start c = omega (arith, own-within c.args.model c.args.table.now c.args.block c.args.piece c.args.state.now c.requires c.kind-own.ensures c.size-size.ensures c.start-start.ensures)

pub group_at-sum-requires-clause-group : goal.group_at-sum-requires-clause-group
group_at-sum-requires-clause-group c = ready-own c.args.model c.args.table.now c.args.block c.args.piece c.args.state.now c.requires c.kind-own.ensures c.size-size.ensures c.start-start.ensures

pub loop-group-init : goal.loop-group-init
loop-group-init c =
    let f : SFits w64 c.group_at-sum.result = search rules in
    start-sum c.args.model c.args.table.now c.args.block c.args.piece c.args.state.now c.requires c.kind-own.ensures c.size-size.ensures c.start-start.ensures
    (to_z-of_z {w = w64} f ∙ c.group_at-sum.ensures)

pub group_at-sum-requires-in-loop-group-clause-group : goal.group_at-sum-requires-in-loop-group-clause-group
group_at-sum-requires-in-loop-group-clause-group c =
    ready-next c.args.model c.args.table.now c.args.block c.args.piece c.args.state.now c.requires c.loop-group.invariant (omega (arith, c.loop-group-test.true, c.groups-group-end.ensures)) c.kind-kind.ensures

pub overflow_add-sum : goal.overflow_add-sum
overflow_add-sum c =
    let f : SFits w64 c.group_at-sum-in-loop-group.result = search rules in
    sum-fits c.args.model c.args.table.now c.args.block c.args.piece c.args.state.now c.requires c.loop-group.invariant (omega (arith, c.loop-group-test.true, c.groups-group-end.ensures)) c.kind-kind.ensures
    (to_z-of_z {w = w64} f ∙ c.group_at-sum-in-loop-group.ensures)

pub overflow_add-at-in-loop-group : goal.overflow_add-at-in-loop-group
overflow_add-at-in-loop-group c =
    let r = ready-next c.args.model c.args.table.now c.args.block c.args.piece c.args.state.now c.requires c.loop-group.invariant (omega (arith, c.loop-group-test.true, c.groups-group-end.ensures)) c.kind-kind.ensures in
    omega (arith, c.size-at.ensures, r.inside, small c.args.model c.args.table.now c.args.block c.args.piece c.args.state.now c.requires)

pub loop-group-preserved : goal.loop-group-preserved
loop-group-preserved c =
    let f : SFits w64 c.group_at-sum-in-loop-group.result = search rules in
    next-sum c.args.model c.args.table.now c.args.block c.args.piece c.args.state.now c.requires c.loop-group.invariant (omega (arith, c.loop-group-test.true, c.groups-group-end.ensures)) c.kind-kind.ensures
    (to_z-of_z {w = w64} f ∙ c.group_at-sum-in-loop-group.ensures) c.size-at.ensures

pub returns : goal.returns
returns c = summed-all (shape c.args.model) c.args.table.now c.args.state.now _ c.loop-group.group c.loop-group.at _ c.loop-group.invariant (omega (arith, c.loop-group-test.false, c.groups-group-end.ensures))
