-- A coefficient by its piece's own group and the groups that count in both pieces, which stand behind the own groups of the two.
--   groups-take       the groups of a block are those that the table has from its start on
--   coefficient-own   the groups of a coefficient
--   block-long        the own groups and the shared ones make up a block
--   own-inside        a piece's own group lies in its block
use mathlib.Core.Path.{◌≡◌, refl, sym, ◌∙◌, ap, ap₂}
use mathlib.Core.List.{List, [], ◌∷◌}
use Prim.Native.Nat.{ℕ, zero, suc, ◌+◌, ◌-◌, ◌*◌, ◌≤◌, ◌<◌}
use native.Mathlib.Nat as N
use native.Mathlib.Numerals.{unary_clauses}
use native.Mathlib.Omega.{arith}
use lib.IntN.{ℤ}
use lib.ListN.{take, drop}
use lib.Seq.{take-take, take-nil, drop-drop}
use Rattle.polynomials.specs.Order.{size}
use Rattle.polynomials.specs.Groups.{Group}
use Rattle.layout.specs.declared.Kind.{Kind}
use Rattle.layout.specs.Shape.{Shape, kinds_length, block_length, block_start, own, shared, own_at, shared_at}
use Rattle.layout.specs.Blocks.{Piece, low, high, piece, led, groups, chosen, coefficient}
use Rattle.layout.proofs.Fine.{Split}

drop-take : {A : Type 0} (n m : ℕ) (l : List A) → drop n (take m l) ≡ take (m - n) (drop n l)
drop-take zero m l = simp unary_clauses
drop-take (suc n) zero l = let e : 0 ≡ 0 - suc n = omega arith in ap (λ m. take m (drop (suc n) l)) e
drop-take (suc n) (suc m) [] = sym (take-nil (suc m - suc n))
drop-take (suc n) (suc m) (a ∷ l) = simp unary_clauses (drop-take n m l)

pub groups-take : (ks : List Kind) (m : ℕ) (l : List ℤ) → kinds_length ks ≤ m → groups ks (take m l) ≡ groups ks l
unfolding groups kinds_length
groups-take [] m l h = refl
groups-take (k ∷ ks) m l h =
    let n = size k.degree in
    ap₂ (λ a r. record { u = k.u; v = k.v; numbers = a } ∷ r) (take-take n m l (omega arith)) (ap (groups ks) (drop-take n m l) ∙ groups-take ks (m - n) (drop n l) (omega arith))

-- from the third on all groups count in both pieces
chosen-shared : (p : Piece) (n : ℕ) (gs : List Group) → chosen p (suc (suc n)) gs ≡ gs
unfolding chosen
chosen-shared p n [] = refl
chosen-shared p n (g ∷ gs) = ap (λ r. g ∷ r) (chosen-shared p (suc n) gs)

module _ (S : Shape) (f : Split S) where
  abbrev s : ℕ
  s = size (own S).degree

  pub block-long : block_length S ≡ 2 * s + kinds_length (shared S)
  unfolding kinds_length
  block-long = ap kinds_length f.kinds ∙ omega arith

  pub own-inside : (n : ℕ) → n < 2 → s * n + s ≤ block_length S
  own-inside zero h = omega (arith, block-long)
  own-inside (suc zero) h = omega (arith, block-long)
  own-inside (suc (suc n)) h = absurd (omega arith)

  module _ (t : List ℤ) (b : ℕ) where
    abbrev start : ℕ
    start = block_start S b

    abbrev held : List ℤ → List ℤ → List ℤ → ℕ → List Group
    held l m r n = chosen (piece n) 0 (led (own S) l ∷ led (own S) m ∷ groups (shared S) r)

    all : (n : ℕ) → coefficient S t b (piece n) ≡ held (drop start t) (drop s (drop start t)) (drop s (drop s (drop start t))) n
    unfolding coefficient groups
    all n =
        ap (chosen (piece n) 0) (groups-take S.kinds (block_length S) (drop start t) (N.le_refl (block_length S)))
        ∙ ap (λ ks. chosen (piece n) 0 (groups ks (drop start t))) f.kinds

    at_second : drop s (drop start t) ≡ drop (own_at S start 1) t
    at_second = let e : start + s ≡ own_at S start 1 = omega arith in drop-drop s start t ∙ ap (λ n. drop n t) e

    at-shared : drop s (drop s (drop start t)) ≡ drop (shared_at S start) t
    at-shared = let e : start + s + s ≡ shared_at S start = omega arith in ap (drop s) (drop-drop s start t) ∙ drop-drop s (start + s) t ∙ ap (λ n. drop n t) e

    at_first : drop start t ≡ drop (own_at S start 0) t
    at_first = let e : start ≡ own_at S start 0 = omega arith in ap (λ n. drop n t) e

    pub coefficient-own : (n : ℕ) → n < 2 → coefficient S t b (piece n) ≡ led (own S) (drop (own_at S start n) t) ∷ groups (shared S) (drop (shared_at S start) t)
    unfolding chosen
    coefficient-own zero h =
        all 0 ∙ ap₂ (λ l r. led (own S) l ∷ r) at_first (chosen-shared low 0 (groups (shared S) (drop s (drop s (drop start t)))) ∙ ap (groups (shared S)) at-shared)
    coefficient-own (suc zero) h =
        all 1 ∙ ap₂ (λ l r. led (own S) l ∷ r) at_second (chosen-shared high 0 (groups (shared S) (drop s (drop s (drop start t)))) ∙ ap (groups (shared S)) at-shared)
    coefficient-own (suc (suc n)) h = absurd (omega arith)
