-- The groups of a block one after another, as a loop goes over them: those from the one numbered g on.
--   at-kind                     the next, and those after it
--   length-next, groups-next    how many numbers they have, and the groups that stand at a place
--   length_none, groups_none    past the last
use mathlib.Core.Path.{◌≡◌, sym, ◌∙◌, ap, ap₂}
use mathlib.Core.List.{List, [], ◌∷◌}
use Prim.Native.Nat.{ℕ, zero, suc, ◌+◌, ◌≤◌, ◌<◌}
use native.Mathlib.Numerals.{add-one}
use native.Mathlib.Omega.{arith}
use lib.IntN.{ℤ}
use lib.ListN.{length, drop}
use lib.Seq.{drop-cons, drop-nil, drop-drop}
use Rattle.polynomials.specs.Order.{size}
use Rattle.layout.specs.declared.Kind.{Kind}
use Rattle.layout.specs.Shape.{Shape, kinds_length, kind_at}
use Rattle.layout.specs.Blocks.{led, groups}

pub at-kind : (S : Shape) (g : ℕ) (k : Kind) → g < length S.kinds → k ≡ kind_at S g → drop g S.kinds ≡ k ∷ drop (g + 1) S.kinds
at-kind S g k h e = drop-cons S.kinds g _ h ∙ ap₂ (λ a n. a ∷ drop n S.kinds) (sym e) (sym (add-one g))

module _ (S : Shape) (g : ℕ) where
  module _ (k : Kind) (e : drop g S.kinds ≡ k ∷ drop (g + 1) S.kinds) where
    pub length-next : kinds_length (drop g S.kinds) ≡ size k.degree + kinds_length (drop (g + 1) S.kinds)
    unfolding kinds_length
    length-next = ap kinds_length e

    pub groups-next : (l : List ℤ) (at : ℕ) → groups (drop g S.kinds) (drop at l) ≡ led k (drop at l) ∷ groups (drop (g + 1) S.kinds) (drop (at + size k.degree) l)
    unfolding groups
    groups-next l at = ap (λ ks. groups ks (drop at l)) e ∙ ap (λ m. led k (drop at l) ∷ groups (drop (g + 1) S.kinds) m) (drop-drop (size k.degree) at l)

  module _ (h : length S.kinds ≤ g) where
    past : {A : Type 0} (n : ℕ) (l : List A) → length l ≤ n → drop n l ≡ []
    past n [] h = drop-nil n
    past zero (a ∷ l) h = absurd (omega arith)
    past (suc n) (a ∷ l) h = past n l (omega arith)

    pub length_none : kinds_length (drop g S.kinds) ≡ 0
    unfolding kinds_length
    length_none = ap kinds_length (past g S.kinds h)

    pub groups_none : (l : List ℤ) → groups (drop g S.kinds) l ≡ []
    unfolding groups
    groups_none l = ap (λ ks. groups ks l) (past g S.kinds h)
