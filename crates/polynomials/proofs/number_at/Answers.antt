-- `polynomials::number_at`: the number stands behind those of lower degrees, q places on. Assumes nothing.
use Rattle.std.proofs.Common.{arith, rules, ◌≡◌, ℕ, ◌+◌, ◌*◌, ◌/◌, sym, ◌∙◌, ap, pos, get_or, w64, to_z, of_z}
use lib.ListN.{get_or-eq_default}
use Rattle.polynomials.specs.Order.{place}
use Rattle.polynomials.specs.Group.{number}
use Rattle.polynomials.proofs.Places.{below-is}
use Rattle.polynomials.proofs.number_at.Goals as goal

at-is : (p q : ℕ) → (p + q) * (p + q + 1) / 2 + q ≡ place p q
at-is p q = ap (λ n. n + q) (below-is (p + q))

pub returns-then-at-group : goal.returns-then-at-group
unfolding number
returns-then-at-group c =
    let p = c.args.p in
    let q = c.args.q in
    let h : to_z w64 (of_z w64 (get_or c.args.group.now ((p + q) * (p + q + 1) / 2 + q) (pos 0))) ≡ get_or c.args.group.now ((p + q) * (p + q + 1) / 2 + q) (pos 0) = search rules in
    h ∙ ap (λ i. get_or c.args.group.now i (pos 0)) (at-is p q)

pub returns : goal.returns
unfolding number
returns c = let e = at-is c.args.p c.args.q in sym (get_or-eq_default c.args.group.now (pos 0) (omega arith))
