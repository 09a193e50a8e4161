-- The weight of a coefficient: that of its piece's own group, and that of the groups that the pieces share.
--   Weighing          what a loop over the shared groups has weighed, with weighing-none, next-inside, weighing-more and weighing-all
--   own_weight, both_weight, coefficient-weight   a coefficient's weight by the two
--   fits              whether it is within the cap
use mathlib.Core.Path.{◌≡◌, refl, sym, ◌∙◌, ap, ap₂}
use mathlib.Core.Bool.{Bool}
use mathlib.Core.List.{List, [], ◌∷◌}
use Prim.Native.Nat.{ℕ, zero, suc, ◌+◌, ◌≤◌, ◌<◌}
use native.Mathlib.Omega.{arith}
use lib.Dec.{leb}
use lib.IntN.{ℤ}
use lib.ListN.{length, take, drop}
use Rattle.polynomials.specs.Order.{size}
use Rattle.polynomials.specs.Group.{weight}
use Rattle.polynomials.specs.Groups.{weight_of, total_weight}
use Rattle.polynomials.specs.Limits.{cap}
use Rattle.polynomials.specs.declared.Reach.{Reach}
use Rattle.layout.specs.declared.Kind.{Kind}
use Rattle.layout.specs.declared.Model.{Model}
use Rattle.layout.specs.Shape.{Shape, kinds_length, block_length, block_start, shape, own, shared, own_at, shared_at}
use Rattle.layout.specs.Numbers.{variables_room}
use Rattle.layout.specs.Blocks.{Piece, low, high, piece, led, groups, coefficient}
use Rattle.layout.specs.Reaches.{reaches_of}
use Rattle.layout.proofs.Fine.{Beside, Split, split, Fine, fine, fine-drop, own-fine, few-variables}
use Rattle.laws.proofs.Walk.{length-next, groups-next, groups_none}
use Rattle.laws.proofs.Own.{block-long, coefficient-own}
use Rattle.weights.specs.Ready.{reach_in, high_in, Measured}

-- ════ part of the way through the shared groups: those before the one numbered g are weighed, and it stands at `at`
pub record Weighing (S : Shape) (t : List ℤ) (r : ℕ → ℕ) (whole g at sum : ℕ) : Type 0 where
  pub inside : at + kinds_length (drop g S.kinds) ≤ length t
  pub weight : sum + total_weight (groups (drop g S.kinds) (drop at t)) r ≡ whole

module _ (S : Shape) (t : List ℤ) (r : ℕ → ℕ) where
  pub weighing-none : Split S → (start : ℕ) → start + block_length S ≤ length t → Weighing S t r (total_weight (groups (shared S) (drop (shared_at S start) t)) r) 2 (shared_at S start) 0
  weighing-none f start h = record { inside = omega (arith, block-long S f); weight = omega arith }

  module _ (whole g at sum : ℕ) (w : Weighing S t r whole g at sum) where
    pub weighing-all : length S.kinds ≤ g → sum ≡ whole
    unfolding total_weight
    weighing-all h = let e : sum ≡ sum + 0 = omega arith in e ∙ ap (λ gs. sum + total_weight gs r) (sym (groups_none S g h (drop at t))) ∙ w.weight

    module _ (k : Kind) (e : drop g S.kinds ≡ k ∷ drop (g + 1) S.kinds) where
      pub next-inside : at + size k.degree ≤ length t
      next-inside = omega (arith, length-next S g k e, w.inside)

      pub next-weight : sum + (weight_of (led k (drop at t)) r + total_weight (groups (drop (g + 1) S.kinds) (drop (at + size k.degree) t)) r) ≡ whole
      unfolding total_weight
      next-weight = ap (λ gs. sum + total_weight gs r) (sym (groups-next S g k e t at)) ∙ w.weight

      pub weighing-more : Weighing S t r whole (g + 1) (at + size k.degree) (sum + weight_of (led k (drop at t)) r)
      weighing-more = record { inside = omega (arith, length-next S g k e, w.inside); weight = omega (arith, next-weight) }

-- ════ a coefficient by its piece's own group and what the pieces share
module _ (S : Shape) (t : List ℤ) (l : List Reach) where
  abbrev pub own_weight : ℕ → ℕ → ℕ
  own_weight b n = weight (take (size (own S).degree) (drop (own_at S (block_start S b) n) t)) (reach_in l n).size (high_in l (own S).v)

  abbrev pub both_weight : ℕ → ℕ
  both_weight b = total_weight (groups (shared S) (drop (shared_at S (block_start S b)) t)) (high_in l)

-- the weight of a coefficient is within the cap
abbrev pub fits : Shape → List ℤ → List Reach → ℕ → ℕ → Bool
fits S t l b n = leb (own_weight S t l b n + both_weight S t l b) cap

module _ (sizes : List ℕ) (l : List Reach) (m : Measured sizes l) where
  beside-zero : (p : Piece) (i : ℕ) → 0 < i → i < variables_room → reaches_of sizes p i ≡ high_in l i
  beside-zero p zero h k = absurd (omega arith)
  beside-zero low (suc i) h k = sym (m.same (suc (suc i)) (omega arith))
  beside-zero high (suc i) h k = sym (m.same (suc (suc i)) (omega arith))

  at_zero : (n : ℕ) → n < 2 → reaches_of sizes (piece n) 0 ≡ (reach_in l n).size
  at_zero zero h = sym (m.same 0 (omega arith))
  at_zero (suc zero) h = sym (m.same 1 (omega arith))
  at_zero (suc (suc n)) h = absurd (omega arith)

  shared_same : (v : ℕ) → v ≤ variables_room → (p : Piece) (ks : List Kind) (g : List ℤ) → Beside ks → Fine v ks → total_weight (groups ks g) (reaches_of sizes p) ≡ total_weight (groups ks g) (high_in l)
  unfolding Beside Fine groups total_weight
  shared_same v few p [] g f h = refl
  shared_same v few p (k ∷ ks) g f h = λ i.
      weight (take (size k.degree) g) (beside-zero p k.u f.0.0 (omega (arith, h.0.first)) i) (beside-zero p k.v f.0.1 (omega (arith, h.0.second)) i)
      + shared_same v few p ks (drop (size k.degree) g) f.1 h.1 i

  pub coefficient-weight : (d : Model) (t : List ℤ) (b n : ℕ) → n < 2
      → total_weight (coefficient (shape d) t b (piece n)) (reaches_of sizes (piece n)) ≡ own_weight (shape d) t l b n + both_weight (shape d) t l b
  unfolding total_weight
  coefficient-weight d t b n h =
      let S = shape d in
      let s = split d in
      let first = ap (reaches_of sizes (piece n)) s.first ∙ at_zero n h in
      let second = beside-zero (piece n) (own S).v s.second (omega (arith, (own-fine d).second, few-variables d)) in
      ap (λ gs. total_weight gs (reaches_of sizes (piece n))) (coefficient-own S s t b n h)
      ∙ ap₂ ◌+◌ (ap₂ (weight (take (size (own S).degree) (drop (own_at S (block_start S b) n) t))) first second)
      (shared_same S.variables (few-variables d) (piece n) (shared S) (drop (shared_at S (block_start S b)) t) s.beside (fine-drop S.variables 2 S.kinds (fine d)))
