-- A block moved group by group, over the groups of any shape.
--   each_light    where what counts in each piece is within the cap, so is each group
--   Moved         what a loop over the groups has written: at the start, after one group more, at the end
--   next-end, next-ready   the next group stands in the block, and can be moved
use mathlib.Core.Path.{◌≡◌, refl, sym, ◌∙◌, ap, subst}
use mathlib.Core.Bool.{Bool, true, false}
use mathlib.Core.List.{List, [], ◌∷◌, ◌++◌, append_assoc, append-nil}
use Prim.Native.Nat.{ℕ, zero, suc, ◌+◌, ◌-◌, ◌≤◌}
use native.Mathlib.Omega.{arith}
use lib.Dec.{eqb}
use lib.IntN.{ℤ, nat_abs}
use lib.ListN.{length, take, drop, length-take, length-drop}
use lib.Seq.{take_all}
use Rattle.polynomials.specs.Order.{size}
use Rattle.polynomials.specs.Groups.{Group, grouped, weight_of, total_weight, moved_group, moved_groups}
use Rattle.polynomials.specs.Limits.{cap, farthest}
use Rattle.polynomials.proofs.Together.{length-moved_if}
use Rattle.layout.specs.declared.Kind.{Kind}
use Rattle.layout.specs.Shape.{Shape, kinds_length}
use Rattle.layout.specs.Blocks.{Piece, piece, led, groups, laid_out, counts, keep, chosen}
use Rattle.layout.specs.Moving.{moved_block}
use Rattle.layout.proofs.Fine.{FineKind}
use Rattle.laws.proofs.Walk.{length-next, length_none, groups-next, groups_none}
use Rattle.blocks.specs.Ready.{between, placed, shift_reach, EachLight, ShiftableGroup, Shiftable}
use Rattle.blocks.proofs.Filled.{length-placed, take-placed}
use Rattle.blocks.proofs.Sums.{few}

-- ════ each group
-- every group counts in one of the pieces
counted : (n : ℕ) → counts n (piece n) ≡ true
counted zero = refl
counted (suc zero) = refl
counted (suc (suc n)) = refl

module _ (r : ℕ → ℕ) where
  rest : (b : Bool) (g : Group) (gs : List Group) → total_weight (keep b g gs) r ≤ cap → total_weight gs r ≤ cap
  unfolding total_weight
  rest true g gs h = omega arith
  rest false g gs h = h

  pub each_light : (n : ℕ) (gs : List Group) → ((p : Piece) → total_weight (chosen p n gs) r ≤ cap) → EachLight r gs
  unfolding chosen EachLight total_weight
  each_light n [] h = tt
  each_light n (g ∷ gs) h =
      let w : weight_of g r + total_weight (chosen (piece n) (suc n) gs) r ≤ cap = subst (λ b. total_weight (keep b g (chosen (piece n) (suc n) gs)) r ≤ cap) (counted n) (h (piece n)) in
      (omega (arith, w), each_light (suc n) gs (λ p. rest (counts n p) g (chosen p (suc n) gs) (h p)))

length-moved_group : (i : ℕ) (s : ℤ) (g : Group) → length (moved_group i s g).numbers ≡ length g.numbers
unfolding moved_group
length-moved_group i s g = length-moved_if (eqb g.v i) _ s _ ∙ length-moved_if (eqb g.u i) _ s g.numbers

-- ════ part of the way through the groups: those before the one numbered g are moved, and it stands at `at`
pub record Moved (S : Shape) (i : ℕ) (s : ℤ) (from out : List ℤ) (g at : ℕ) : Type 0 where
  pub same : length out ≡ length from
  pub left : at + kinds_length (drop g S.kinds) ≡ length from
  pub written : take at out ++ laid_out (moved_groups i s (groups (drop g S.kinds) (drop at from))) ≡ moved_block S i s from
  pub light : EachLight (shift_reach i s) (groups (drop g S.kinds) (drop at from))

module _ (S : Shape) (i : ℕ) (s : ℤ) (from : List ℤ) where
  pub moved_none : (out : List ℤ) → length out ≡ length from → Shiftable S i s from → Moved S i s from out 0 0
  unfolding moved_block
  moved_none out e v = record { same = e; left = omega (arith, v.whole); written = refl; light = v.light }

  module _ (out : List ℤ) (g at : ℕ) (m : Moved S i s from out g at) where
    pub moved_all : length S.kinds ≤ g → out ≡ moved_block S i s from
    unfolding laid_out
    moved_all h =
        sym (take_all at out (omega (arith, m.same, m.left, length_none S g h))) ∙ sym (append-nil (take at out))
        ∙ ap (λ gs. take at out ++ laid_out (moved_groups i s gs)) (sym (groups_none S g h (drop at from))) ∙ m.written

    module _ (k : Kind) (e : drop g S.kinds ≡ k ∷ drop (g + 1) S.kinds) where
      abbrev n : ℕ
      n = size k.degree

      pub next-end : at + n ≤ length from
      next-end = omega (arith, length-next S g k e, m.left)

      each : (weight_of (led k (drop at from)) (shift_reach i s) ≤ cap) × EachLight (shift_reach i s) (groups (drop (g + 1) S.kinds) (drop (at + n) from))
      unfolding EachLight
      each = subst (EachLight (shift_reach i s)) (groups-next S g k e from at) m.light

      group-is : between from at (at + n) ≡ take n (drop at from)
      group-is = let e : at + n - at ≡ n = omega arith in ap (λ c. take c (drop at from)) e

      pub next-ready : {v : ℕ} → FineKind v k → nat_abs s ≤ farthest → ShiftableGroup k.u k.v i s (between from at (at + n))
      next-ready f h =
          subst (λ l. ShiftableGroup k.u k.v i s l) (sym group-is)
          record {
            apart = f.apart;
            few = omega (arith, length-take n (drop at from), few k.degree f.few);
            near = h;
            light = each.0;
          }

      abbrev numbers_of : List ℤ
      numbers_of = (moved_group i s (grouped k.u k.v (between from at (at + n)))).numbers

      long : length numbers_of ≡ at + n - at
      long = length-moved_group i s _ ∙ length-take (at + n - at) (drop at from) ∙ omega (arith, length-drop at from, next-end)

      pub moved_more : Moved S i s from (placed out at (at + n) numbers_of) (g + 1) (at + n)
      unfolding laid_out
      moved_more =
          record {
            same = length-placed out at (at + n) numbers_of (omega arith) (omega (arith, next-end, m.same)) long ∙ m.same;
            left = omega (arith, length-next S g k e, m.left);
            written =
                ap (λ l. l ++ laid_out (moved_groups i s (groups (drop (g + 1) S.kinds) (drop (at + n) from))))
                (take-placed out at (at + n) numbers_of (omega arith) (omega (arith, next-end, m.same)) long (take at out) refl)
                ∙ append_assoc (take at out) numbers_of _
                ∙ ap (λ l. take at out ++ ((moved_group i s (grouped k.u k.v l)).numbers ++ laid_out (moved_groups i s (groups (drop (g + 1) S.kinds) (drop (at + n) from))))) group-is
                ∙ ap (λ gs. take at out ++ laid_out (moved_groups i s gs)) (sym (groups-next S g k e from at)) ∙ m.written;
            light = each.1;
          }
