-- `weights::shared` weighs one group more at each turn; what passes the cap on the way passes it at the end. Assumes nothing.
use Rattle.std.proofs.Common.{arith, ◌≡◌, ℕ, ◌+◌, ◌*◌, ◌<◌, ◌≤◌, sym, ◌∙◌, ap, subst, subst₂, List, ◌∷◌, ℤ, length, drop}
use Rattle.polynomials.specs.Order.{size}
use Rattle.polynomials.specs.Groups.{weight_of, total_weight}
use Rattle.polynomials.specs.Limits.{cap, against}
use Rattle.polynomials.specs.declared.Reach.{Reach}
use Rattle.polynomials.proofs.Cap.{against-within, against-passed, within-against, passed-against}
use Rattle.layout.specs.declared.Kind.{Kind}
use Rattle.layout.specs.declared.Model.{Model}
use Rattle.layout.specs.Shape.{Shape, kind_at, shape, own, shared, shared_at}
use Rattle.layout.specs.Blocks.{led, groups}
use Rattle.layout.proofs.Fine.{FineKind, fine, fine-at, split, few-variables}
use Rattle.laws.proofs.Walk.{at-kind}
use Rattle.weights.specs.Ready.{high_in, GroupWeighable, Shareable}
use Rattle.weights.proofs.Weighing.{Weighing, weighing-none, weighing-all, weighing-more, next-inside, next-weight}
use Rattle.weights.proofs.shared.Goals as goal

module _ (m : Model) (t : List ℤ) (start : ℕ) (l : List Reach) (ready : Shareable (shape m) t start l) where
  abbrev S : Shape
  S = shape m

  abbrev r : ℕ → ℕ
  r = high_in l

  abbrev whole : ℕ
  whole = total_weight (groups (shared S) (drop (shared_at S start) t)) r

  -- where the shared groups start
  module _ (k : Kind) (k-is : k ≡ own S) (n : ℕ) (n-is : n ≡ size k.degree) where
    first : Weighing S t r whole 2 (start + 2 * n) 0
    first =
        let e : start + 2 * n ≡ shared_at S start = omega (arith, n-is ∙ ap (λ (k : Kind). size k.degree) k-is) in
        subst (λ a. Weighing S t r whole 2 a 0) (sym e) (weighing-none S t r (split m) start ready.inside)

  -- the group that is weighed
  module _ (g at sum : ℕ) (w : Weighing S t r whole g at sum) (below : g < length S.kinds) (k : Kind) (k-is : k ≡ kind_at S g) where
    next : drop g S.kinds ≡ k ∷ drop (g + 1) S.kinds
    next = at-kind S g k below k-is

    inside : at + size k.degree ≤ length t
    inside = next-inside S t r whole g at sum w k next

    fine-k : FineKind S.variables k
    fine-k = fine-at S.variables g S.kinds _ k (fine m) next

    weighable : GroupWeighable t at k l
    weighable =
        record {
          inside = inside;
          few = fine-k.few;
          first = omega (arith, fine-k.first, few-variables m);
          second = omega (arith, fine-k.second, few-variables m);
          reached = ready.reached;
        }

    part : sum + weight_of (led k (drop at t)) r ≤ whole
    part = omega (arith, next-weight S t r whole g at sum w k next)

    more : (n s : ℕ) → n ≡ size k.degree → s ≡ weight_of (led k (drop at t)) r → Weighing S t r whole (g + 1) (at + n) (sum + s)
    more n s n-is s-is = subst₂ (λ n s. Weighing S t r whole (g + 1) (at + n) (sum + s)) (sym n-is) (sym s-is) (weighing-more S t r whole g at sum w k next)

pub overflow_mul-at : goal.overflow_mul-at
overflow_mul-at c =
    let w = first c.args.model c.args.table.now c.args.start c.args.reaches c.requires _ c.kind-own.ensures _ c.size.ensures in
    omega (arith, w.inside)

pub overflow_add-at : goal.overflow_add-at
overflow_add-at c =
    let w = first c.args.model c.args.table.now c.args.start c.args.reaches c.requires _ c.kind-own.ensures _ c.size.ensures in
    omega (arith, w.inside)

pub loop-group-init : goal.loop-group-init
loop-group-init c = (first c.args.model c.args.table.now c.args.start c.args.reaches c.requires _ c.kind-own.ensures _ c.size.ensures, omega arith)

pub weight_of-requires : goal.weight_of-requires
weight_of-requires c =
    let a = c.args in
    let g = c.loop-group in
    weighable a.model a.table.now a.start a.reaches c.requires g.group g.at g.sum g.invariant.0 (omega arith) _ c.kind-kind.ensures

pub returns-in_err-more : goal.returns-in_err-more
returns-in_err-more c =
    let a = c.args in
    let g = c.loop-group in
    let past : cap < weight_of (led c.kind-kind.result (drop g.at a.table.now)) (high_in a.reaches) = passed-against _ c.in_err-more.ensures in
    let p = part a.model a.table.now a.start a.reaches c.requires g.group g.at g.sum g.invariant.0 (omega arith) _ c.kind-kind.ensures in
    c.from_residual.ensures ∙ against-passed (whole a.model a.table.now a.start a.reaches c.requires) (omega (arith, past, p))

pub returns-then-more-sum : goal.returns-then-more-sum
returns-then-more-sum c =
    let a = c.args in
    let g = c.loop-group in
    let told = within-against _ _ c.in_ok-more.ensures in
    let p = part a.model a.table.now a.start a.reaches c.requires g.group g.at g.sum g.invariant.0 (omega arith) _ c.kind-kind.ensures in
    against-passed (whole a.model a.table.now a.start a.reaches c.requires) (omega (arith, told.0, p))

pub overflow_add-at-in-loop-group : goal.overflow_add-at-in-loop-group
overflow_add-at-in-loop-group c =
    let a = c.args in
    let g = c.loop-group in
    let h = inside a.model a.table.now a.start a.reaches c.requires g.group g.at g.sum g.invariant.0 (omega arith) _ c.kind-kind.ensures in
    omega (arith, h)

pub loop-group-preserved : goal.loop-group-preserved
loop-group-preserved c =
    let a = c.args in
    let g = c.loop-group in
    let told = within-against _ _ c.in_ok-more.ensures in
    (more a.model a.table.now a.start a.reaches c.requires g.group g.at g.sum g.invariant.0 (omega arith) _ c.kind-kind.ensures _ _ c.size-at.ensures told.0, omega arith)

pub returns : goal.returns
returns c =
    let g = c.loop-group in
    let S = shape c.args.model in
    let done : length S.kinds ≤ g.group = omega (arith, c.groups-group-end.ensures) in
    against-within _ g.invariant.1 ∙ ap against (weighing-all S c.args.table.now (high_in c.args.reaches) _ g.group g.at g.sum g.invariant.0 done)
