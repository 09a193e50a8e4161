-- A coefficient group by group, over the groups of any shape.
--   few          no group has more numbers than one of the highest degree
--   Summed       what a loop over the groups has summed, with summed-own: once the piece's own group is read, summed-all: at the end
--   next-ready, more-fits, summed-more   the next group can be read, and the sum with it
use mathlib.Core.Path.{◌≡◌, sym, ◌∙◌, ap, subst}
use mathlib.Core.List.{List, ◌∷◌}
use Prim.Native.Nat.{ℕ, suc, ◌+◌, ◌≤◌}
use native.Mathlib.Nat as N
use native.Mathlib.Omega.{arith}
use lib.IntN.{ℤ, nat_abs, ◌+ℤ◌, +ℤ_idr, +ℤ_assoc}
use lib.ListN.{length, drop}
use mir.Syntax.{w64}
use mir.Val.{SFits}
use Rattle.whole.proofs.Magnitudes.{nat_abs-+}
use Rattle.whole.proofs.Machine.{nat_abs-sfits}
use Rattle.polynomials.specs.Order.{size}
use Rattle.polynomials.specs.Groups.{Group, value_of, weight_of, total, total_weight}
use Rattle.polynomials.specs.Limits.{cap, highest_degree}
use Rattle.polynomials.proofs.Places.{below-mono}
use Rattle.polynomials.proofs.Bounds.{value-within}
use Rattle.layout.specs.declared.Kind.{Kind}
use Rattle.layout.specs.Shape.{Shape, kinds_length, block_start, own, shared, own_at, shared_at}
use Rattle.layout.specs.Blocks.{piece, led, groups, coefficient}
use Rattle.layout.specs.Reading.{readings}
use Rattle.layout.proofs.Fine.{FineKind, Split, inside}
use Rattle.laws.proofs.Walk.{length-next, groups-next, groups_none}
use Rattle.laws.proofs.Own.{block-long, own-inside, coefficient-own}
use Rattle.blocks.specs.Ready.{sizes, GroupAt, Valued}

pub few : (d : ℕ) → d ≤ highest_degree → size d ≤ size highest_degree
few d h = below-mono (suc d) (suc highest_degree) (omega arith)

value-light : (g : Group) (x : ℕ → ℤ) → nat_abs (value_of g x) ≤ weight_of g (sizes x)
value-light g x = value-within g.numbers (x g.u) (x g.v) _ _ (N.le-max_right 1 (nat_abs (x g.u))) (N.le-max_right 1 (nat_abs (x g.v)))

-- part of the way through the groups: those before the one numbered g are summed, and it stands at `at`
pub record Summed (S : Shape) (t x : List ℤ) (whole : ℤ) (g at : ℕ) (sum : ℤ) : Type 0 where
  pub inside : at + kinds_length (drop g S.kinds) ≤ length t
  pub value : sum +ℤ total (groups (drop g S.kinds) (drop at t)) (readings x) ≡ whole
  pub light : nat_abs sum + total_weight (groups (drop g S.kinds) (drop at t)) (sizes (readings x)) ≤ cap

-- ════ the piece's own group
module _ (S : Shape) (f : Split S) (t : List ℤ) (b n : ℕ) (x : List ℤ) (v : Valued S t b n x) where
  abbrev start : ℕ
  start = block_start S b

  abbrev first : Group
  first = led (own S) (drop (own_at S start n) t)

  abbrev others : List Group
  others = groups (shared S) (drop (shared_at S start) t)

  weights : weight_of first (sizes (readings x)) + total_weight others (sizes (readings x)) ≤ cap
  unfolding total_weight
  weights = subst (λ gs. total_weight gs (sizes (readings x)) ≤ cap) (coefficient-own S f t b n v.half) v.light

  pub shared_long : shared_at S start + kinds_length (shared S) ≤ length t
  shared_long = omega (arith, inside S b v.block, v.whole, block-long S f)

  pub own-long : own_at S start n + size (own S).degree ≤ length t
  own-long = omega (arith, inside S b v.block, v.whole, own-inside S f n v.half)

  pub own-ready : FineKind S.variables (own S) → GroupAt t (own_at S start n) (size (own S).degree) (own S).u (own S).v x
  own-ready k =
      record {
        inside = own-long;
        few = few (own S).degree k.few;
        first = omega (arith, k.first, v.state);
        second = omega (arith, k.second, v.state);
        light = omega (arith, weights);
      }

  pub summed-own : Summed S t x (total (coefficient S t b (piece n)) (readings x)) 2 (shared_at S start) (value_of first (readings x))
  unfolding total
  summed-own =
      record {
        inside = shared_long;
        value = ap (λ gs. total gs (readings x)) (sym (coefficient-own S f t b n v.half));
        light = omega (arith, weights, value-light first (readings x));
      }

-- ════ one group more
module _ (S : Shape) (t x : List ℤ) (whole : ℤ) (g at : ℕ) (sum : ℤ) (m : Summed S t x whole g at sum) where
  pub summed-all : length S.kinds ≤ g → sum ≡ whole
  unfolding total
  summed-all h = sym (+ℤ_idr sum) ∙ ap (λ gs. sum +ℤ total gs (readings x)) (sym (groups_none S g h (drop at t))) ∙ m.value

  module _ (k : Kind) (e : drop g S.kinds ≡ k ∷ drop (g + 1) S.kinds) where
    abbrev group : Group
    group = led k (drop at t)

    abbrev after : List Group
    after = groups (drop (g + 1) S.kinds) (drop (at + size k.degree) t)

    heavier : nat_abs sum + (weight_of group (sizes (readings x)) + total_weight after (sizes (readings x))) ≤ cap
    unfolding total_weight
    heavier = subst (λ gs. nat_abs sum + total_weight gs (sizes (readings x)) ≤ cap) (groups-next S g k e t at) m.light

    pub next-ready : FineKind S.variables k → S.variables ≤ length x → GroupAt t at (size k.degree) k.u k.v x
    next-ready f l =
        record {
          inside = omega (arith, length-next S g k e, m.inside);
          few = few k.degree f.few;
          first = omega (arith, f.first);
          second = omega (arith, f.second);
          light = omega (arith, heavier);
        }

    abbrev more : ℤ
    more = sum +ℤ value_of group (readings x)

    more-size : nat_abs more ≤ nat_abs sum + weight_of group (sizes (readings x))
    more-size = omega (arith, nat_abs-+ sum (value_of group (readings x)), value-light group (readings x))

    pub more-fits : SFits w64 more
    more-fits = nat_abs-sfits more (omega (arith, heavier, more-size))

    pub summed-more : Summed S t x whole (g + 1) (at + size k.degree) more
    unfolding total
    summed-more =
        record {
          inside = omega (arith, length-next S g k e, m.inside);
          value = +ℤ_assoc sum (value_of group (readings x)) _ ∙ ap (λ gs. sum +ℤ total gs (readings x)) (sym (groups-next S g k e t at)) ∙ m.value;
          light = omega (arith, heavier, more-size);
        }
