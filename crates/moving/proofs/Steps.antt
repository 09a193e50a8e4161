-- What the code meets when it asks whether the datum of a variable may be moved.
--   moved_room, same-moved  the limits as the code moves them, in their room, have the moved limits of the table
--   moved-held            they are what `Limits::moved` gives
--   moved-good            where the table's limits are good, they are good exactly where those are in range
--   moved-range, moved-reaches, moved-written   so they are in range where those are, reach as far, and are written as those
--   sound-behind, some-refusal   a refusal behind those of the table: the first where the table is sound, and in any case there is one
--   move-own, move-bad, move-refused   the number of a move: the table's refusals, then the move's own
--   move-allowed          of a table with good limits, a move that has no refusal of its own is accepted
--   move-far              a move by more than the longest shift takes a limit out of its range
--   lengthened            the moved reaches of the variable can be made longer by the size of the shift
--   move-one, move-light  the longer ones are at least 1, and weigh what the weight rule asks
use mathlib.Core.Path.{◌≡◌, refl, sym, ◌∙◌, ap, subst}
use mathlib.Core.Bool.{Bool, true, false, not, cond}
use mathlib.Core.List.{List, [], ◌∷◌, ◌++◌}
use Prim.Native.Nat.{ℕ, zero, suc, ◌+◌, ◌-◌, ◌≤◌, ◌<◌}
use native.Mathlib.Nat as N
use native.Mathlib.Omega.{arith}
use lib.Dec.{eqb}
use lib.IntN.{ℤ, pos, nat_abs}
use lib.ListN.{length, take}
use lib.Seq.{get_or-take, length-take-le}
use Rattle.polynomials.specs.Sum.{listed}
use Rattle.polynomials.specs.Groups.{longer}
use Rattle.polynomials.proofs.Listed.{length-listed, listed-is}
use Rattle.layout.specs.declared.Model.{Model}
use Rattle.layout.specs.Shape.{Shape, WellFormed, limits_length, table_length, shape}
use Rattle.layout.specs.Numbers.{limits_room}
use Rattle.layout.specs.Limits.{farthest_limit, longest_shift, all_in_range, good}
use Rattle.layout.specs.Blocks.{Piece, low, high}
use Rattle.layout.specs.Sound.{reach, within_cap, light}
use Rattle.layout.specs.Reaches.{reach_at, listed_reaches, reaches_of}
use Rattle.layout.specs.Refusals.{Refusal, ◌when◌, first, bad_limits, too_heavy}
use Rattle.layout.specs.Moving.{moved_limit, moved_limits, move_reach, move_light, move_number}
use Rattle.layout.specs.Accepted.{MoveAccepted}
use Rattle.layout.proofs.Fine.{well-formed, few-limits}
use Rattle.laws.proofs.LimitLaws.{SameLimits, all_in_range-same, reach-same}
use Rattle.laws.proofs.Moved.{get_or-moved_limits}
use Rattle.laws.proofs.Refused.{first-skip, first-hit, move-asked}
use Rattle.laws.proofs.Accepted.{first-passed}
use Rattle.laws.proofs.NearMoves.{light-kept}
use Rattle.laws.proofs.Reaches.{reach-one, reach-other, longer-other, listed-reach}
use Rattle.laws.proofs.SoundMoved.{move-within, moved-reach-within}
use Rattle.laws.proofs.Weights.{within_cap-agreed}
use Rattle.limits.specs.declared.Limits.{Limits}
use Rattle.limits.proofs.Moved.{room_moved, good-room-moved}
use Rattle.moving.specs.Ready.{Lengthened, HoldsMoved, move_own}
use Rattle.tables.specs.Ready.{unsound}
use Rattle.tables.proofs.Taken.{taken, same_taken, light-listed}

-- ════ what is refused
-- what stands behind some refusals counts by the first of it alone
first-behind : (rs : List Refusal) (qs ps : List Refusal) → first qs ≡ first ps → first (rs ++ qs) ≡ first (rs ++ ps)
unfolding first
first-behind [] qs ps e = e
first-behind (r ∷ rs) qs ps e = ap (cond r.holds r.number) (first-behind rs qs ps e)

first-only : (n : ℕ) → first ((n when true) ∷ []) ≡ n
unfolding first
first-only n = refl

module _ (S : Shape) (t : List ℤ) (n : ℕ) where
  -- behind those of a sound table a refusal is the first
  pub sound-behind : good S t ≡ true → light S t ≡ true → first (unsound S t ++ (n when true) ∷ []) ≡ n
  sound-behind g l = first-skip bad_limits _ g ∙ first-skip too_heavy _ l ∙ first-only n

  pub some-refusal : 0 < n → 0 < first (unsound S t ++ (n when true) ∷ [])
  unfolding first
  some-refusal h = by (good S t) (light S t)
    where
      by : (g l : Bool) → 0 < cond (not g) bad_limits (cond (not l) too_heavy n)
      by true true = h
      by true false = omega arith
      by false l = omega arith

module _ (S : Shape) (t : List ℤ) (i : ℕ) (s : ℤ) (out : List ℤ) (a : length t ≡ table_length S) (b : length out ≡ table_length S) (v : i < S.variables) where
  -- the refusals of the table, then the move's own
  pub move-own : move_number S t i s out ≡ first (unsound S t ++ move_own S t i s)
  move-own = move-asked S t i s out a b v

  pub move-bad : good S t ≡ false → move_number S t i s out ≡ bad_limits
  move-bad g = move-own ∙ first-hit bad_limits _ g

  -- the weight rule implies that the table is light
  pub move-allowed : WellFormed S → good S t ≡ true → first (move_own S t i s) ≡ 0 → MoveAccepted S t i s out
  move-allowed w g e =
      let f = first-passed 5 _ _ e in
      let h = first-passed 6 _ _ f.1 in
      record { table = a; output = b; variable = v; limits = g; weights = light-kept S i s t w.in-variables h.0; moved-limits = f.0; moved-weights = h.0 }

  pub move-refused : (n : ℕ) → n ≡ first (move_own S t i s) → move_number S t i s out ≡ first (unsound S t ++ (n when true) ∷ [])
  move-refused n e = move-own ∙ first-behind (unsound S t) (move_own S t i s) ((n when true) ∷ []) (sym e ∙ sym (first-only n))

not_so : {b : Bool} → (b ≡ true → ⊥) → b ≡ false
not_so {b = true} h = absurd (h refl)
not_so {b = false} h = refl

longer-least : (i n : ℕ) (r : ℕ → ℕ) (k : ℕ) → r k ≤ longer i n r k
unfolding longer
longer-least i n r k = by (eqb k i)
  where
    by : (b : Bool) → r k ≤ cond b (r k + n) (r k)
    by true = omega arith
    by false = omega arith

longer-at : (i n : ℕ) (r q : ℕ → ℕ) (k : ℕ) → r k ≡ q k → longer i n r k ≡ longer i n q k
unfolding longer
longer-at i n r q k e = ap (λ m. cond (eqb k i) (m + n) m) e

module _ (m : Model) (t : List ℤ) (i : ℕ) (s : ℤ) where
  abbrev S : Shape
  S = shape m

  abbrev moved : List ℤ
  moved = moved_limits S i s t

  -- the limits taken from the table, moved in their room
  abbrev pub moved_room : List ℤ
  moved_room = listed limits_room (moved_limit S i s (taken m t))

  pub same-moved : SameLimits S moved_room moved
  same-moved = room_moved m i s (taken m t) t (same_taken m t)

  pub moved-written : take (limits_length S) moved_room ≡ moved
  unfolding moved_limits
  moved-written =
      sym (listed-is (pos 0) (limits_length S) (moved_limit S i s t) (take (limits_length S) moved_room) (length-take-le (limits_length S) moved_room (omega (arith, few-limits m, length-listed limits_room (moved_limit S i s (taken m t))))) (λ k h. get_or-take (limits_length S) moved_room k (pos 0) h ∙ same-moved.at k h ∙ get_or-moved_limits S i s t k h))

  -- what `Limits::moved` gives of limits that are taken from the table
  pub moved-held : (k l : Limits) (z : ℤ) → (k.model ≡ m) × (k.numbers ≡ taken m t) → z ≡ s → (l.model ≡ k.model) × (l.numbers ≡ listed limits_room (moved_limit (shape k.model) i z k.numbers))
      → HoldsMoved m t i s l
  moved-held k l z a e b = record { model = b.0 ∙ a.0; numbers = b.1 ∙ (λ j. listed limits_room (moved_limit (shape (a.0 j)) i (e j) (a.1 j))) }

  -- limits that hold them
  module _ (l : Limits) (e : HoldsMoved m t i s l) where
    pub moved-good : good S t ≡ true → good (shape l.model) l.numbers ≡ all_in_range S moved
    moved-good g = (λ j. good (shape (e.model j)) (e.numbers j)) ∙ good-room-moved m i s (taken m t) t (same_taken m t) g

    pub moved-range : all_in_range (shape l.model) l.numbers ≡ all_in_range S moved
    moved-range = (λ j. all_in_range (shape (e.model j)) (e.numbers j)) ∙ all_in_range-same same-moved

    pub moved-reaches : listed_reaches (reach (shape l.model) l.numbers) ≡ listed_reaches (reach S moved_room)
    moved-reaches = λ j. listed_reaches (reach (shape (e.model j)) (e.numbers j))

  -- ════ the reaches of the weight rule
  abbrev pub longer_reach : Piece → ℕ → ℕ
  longer_reach p = longer i (nat_abs s) (reach S moved_room p)

  pub move-one : (p : Piece) (k : ℕ) → 1 ≤ longer_reach p k
  move-one p k = N.le_trans (reach-one S moved_room p k) (longer-least i (nat_abs s) (reach S moved_room p) k)

  pub move-light : within_cap S t (reaches_of (listed_reaches longer_reach)) ≡ move_light S i s t
  move-light =
      light-listed m t longer_reach (longer-other (reach S moved_room) (reach-other S moved_room) i (nat_abs s))
      ∙ within_cap-agreed S (well-formed m).in-variables t longer_reach (move_reach S i s t) (λ p k h. longer-at i (nat_abs s) (reach S moved_room p) (reach S moved p) k (reach-same same-moved p k h))

  -- ════ a move of a table with good limits
  module _ (h : i < S.variables) (g : good S t ≡ true) where
    pub move-far : longest_shift < nat_abs s → all_in_range S moved ≡ false
    move-far k = not_so (λ e. let near : nat_abs s ≤ longest_shift = move-within S i s t h g e in omega arith)

    -- that keeps them in range
    pub lengthened : all_in_range S moved ≡ true → Lengthened (listed_reaches (reach S moved_room)) i (nat_abs s)
    lengthened e = record { fits = λ k l o. rw (listed-reach (reach S moved_room) k l) (omega (arith, each k o, move-within S i s t h g e)) }
      where
        within : (p : Piece) → reach S moved_room p i ≤ farthest_limit
        within p = N.le_trans (N.le_of_eq (reach-same same-moved p i h)) (moved-reach-within S i s t (well-formed m).has-variable e g p i h)

        each : (k : ℕ) → k - 1 ≡ i → reach_at (reach S moved_room) k ≤ farthest_limit
        each zero o = let q : i ≡ 0 = omega arith in subst (λ v. reach S moved_room low v ≤ farthest_limit) q (within low)
        each (suc k) o = let q : i ≡ k = omega arith in subst (λ v. reach S moved_room high v ≤ farthest_limit) q (within high)
