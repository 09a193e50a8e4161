-- A datum moved: which moves are accepted, and what the moved table answers.
use mathlib.Core.Path.{◌≡◌, refl, sym, ◌∙◌, ap, subst}
use mathlib.Core.Logic.{◌↔◌, ◌⊎◌}
use mathlib.Core.Bool.{true, false, cond}
use mathlib.Core.List.{List}
use Prim.Native.Nat.{ℕ, ◌≤◌, ◌<◌}
use native.Mathlib.Omega.{arith}
use lib.Dec.{eqb}
use lib.IntN.{ℤ, pos, neg_ℤ, nat_abs, ◌+ℤ◌, ◌-ℤ◌, ◌*ℤ◌}
use lib.ListN.{length}
use Rattle.polynomials.specs.Groups.{total_weight, less}
use Rattle.polynomials.specs.Limits.{cap}
use Rattle.layout.specs.Shape.{Shape, WellFormed, limits_length, table_length, cumulus}
use Rattle.layout.specs.Limits.{fine_cut, is_fine_cut, all_in_range}
use Rattle.layout.specs.Blocks.{Piece, coefficient}
use Rattle.layout.specs.Sound.{SoundTable}
use Rattle.layout.specs.Refusals.{done, wrong_table, no_variable, limit_past, move_too_heavy}
use Rattle.layout.specs.Reading.{readings, read_number, read_output}
use Rattle.layout.specs.Moving.{moved_limit, moved_limits, moved_table, moved_state, move_reach, move_light, move_number, move_output}
use Rattle.layout.specs.Accepted.{MoveAccepted}
use Rattle.laws.proofs.LimitLaws.{good-facts, range-within, within-range, fine-same}
use Rattle.laws.proofs.Weights.{within_cap-fact, fact-within_cap}
use Rattle.layout.specs.declared.Model.TheVariants.{Cumulus}
use Rattle.laws.proofs.Moved.{get_or-moved_limits, moved-limits, fine-moved_limits, moved_table-twice, moved_table-nil, moved_table-back, moved_table-swap}
use Rattle.laws.proofs.SoundMoved.{moved-sound, still-range, still-light}
use Rattle.laws.proofs.ReadingMoved.{readings-moved, read_number-moved, read_output-moved}
use Rattle.laws.proofs.Refused.{move-given, move-kept, move-wrong-table, move-no-variable}
use Rattle.laws.proofs.Accepted.{move-told, sound-limits, sound-weights, move-done-exactly, move-limit-past-exactly, move-past-cap-exactly, move-no-other}
use Rattle.cumulus_page.specs.Envelope.{farthest_move}
use Rattle.cumulus_page.specs.Published.{published}
use Rattle.cumulus_page.proofs.Moves.{move-accepted}
use Rattle.promises.proofs.Promises.Tables.{every-model-is-well-formed}

-- What some of these ask of a shape, that of a Cumulus One table has.
pub cumulus-well-formed : WellFormed cumulus
cumulus-well-formed = every-model-is-well-formed Cumulus

module _ (S : Shape) where
  -- ════ What a move leaves
  -- An accepted move leaves the moved table,
  pub accepted-is-moved : (t : List ℤ) (i : ℕ) (s : ℤ) (out : List ℤ) → move_number S t i s out ≡ done → move_output S t i s out ≡ moved_table S i s t
  accepted-is-moved = move-given S

  -- and a refused one what was there.
  pub refused-move-writes-nothing : (t : List ℤ) (i : ℕ) (s : ℤ) (out : List ℤ) → 0 < move_number S t i s out → move_output S t i s out ≡ out
  refused-move-writes-nothing t i s out h = move-kept S t i s out refl h

  -- ════ Which moves are accepted
  -- Only a sound table is moved, with room, in one of its variables, and by a move that keeps both rules below.
  pub only-sound-is-moved : (t : List ℤ) (i : ℕ) (s : ℤ) (out : List ℤ) → move_number S t i s out ≡ done → MoveAccepted S t i s out
  only-sound-is-moved = move-told S

  -- A table of another length is refused by 1, whatever else holds;
  pub other-length-is-not-moved : (t : List ℤ) (i : ℕ) (s : ℤ) (out : List ℤ) → (length t ≡ table_length S → ⊥) → move_number S t i s out ≡ wrong_table
  other-length-is-not-moved = move-wrong-table S

  -- with room for the moved table, a variable that there is not by 5.
  pub no-such-variable : (t : List ℤ) (i : ℕ) (s : ℤ) (out : List ℤ) → length t ≡ table_length S → length out ≡ table_length S → S.variables ≤ i → move_number S t i s out ≡ no_variable
  no-such-variable = move-no-variable S

  module _ (t : List ℤ) (i : ℕ) (s : ℤ) (out : List ℤ) (w : SoundTable S t) (room : length out ≡ table_length S) (known : i < S.variables) where
    -- A sound table's move, with room and in one of its variables, gives 0 exactly where every moved limit is in range and the weight rule is kept,
    pub move-accepted-exactly : (move_number S t i s out ≡ done) ↔ ((all_in_range S (moved_limits S i s t) ≡ true) × (move_light S i s t ≡ true))
    move-accepted-exactly = move-done-exactly S t i s out w room known

    -- 6 exactly where a moved limit leaves its range,
    pub move-past-range-exactly : (move_number S t i s out ≡ limit_past) ↔ (all_in_range S (moved_limits S i s t) ≡ false)
    move-past-range-exactly = move-limit-past-exactly S t i s out w room known

    -- 7 exactly where none does and the weight rule is broken,
    pub move-too-heavy-exactly : (move_number S t i s out ≡ move_too_heavy) ↔ ((all_in_range S (moved_limits S i s t) ≡ true) × (move_light S i s t ≡ false))
    move-too-heavy-exactly = move-past-cap-exactly S t i s out w room known

    -- and no other number.
    pub move-no-other-number : (move_number S t i s out ≡ done) ⊎ ((move_number S t i s out ≡ limit_past) ⊎ (move_number S t i s out ≡ move_too_heavy))
    move-no-other-number = move-no-other S t i s out w room known

  -- In range: each moved limit but the fine cut is in -2000..2000.
  pub range-rule : (t : List ℤ) (i : ℕ) (s : ℤ) → (all_in_range S (moved_limits S i s t) ≡ true) ↔ ((k : ℕ) → k < limits_length S → is_fine_cut S k ≡ false → nat_abs (moved_limit S i s t k) ≤ 2000)
  range-rule t i s = (
    λ e k h n. rw (get_or-moved_limits S i s t k h) at (range-within S (moved_limits S i s t) e k h n),
    λ f. within-range S (moved_limits S i s t) (λ k h n. rw (get_or-moved_limits S i s t k h) (f k h n)),
  )

  -- A move in alpha takes the fine cut 1000 s less; a move in another variable keeps it.
  pub fine-cut-moves : S.has_fine_cut ≡ true → 1 ≤ S.variables → (t : List ℤ) (i : ℕ) (s : ℤ) → fine_cut S (moved_table S i s t) ≡ cond (eqb 0 i) (fine_cut S t -ℤ pos 1000 *ℤ s) (fine_cut S t)
  unfolding less
  fine-cut-moves e v t i s = fine-same (moved-limits S i s t) e v ∙ fine-moved_limits S i s t e v

  -- The weight rule: no coefficient passes the cap in either piece, with variable i's power taken of its new reach and the size of s.
  pub weight-rule : (t : List ℤ) (i : ℕ) (s : ℤ)
      → (move_light S i s t ≡ true) ↔ ((b : ℕ) → b < S.blocks → (p : Piece) → total_weight (coefficient S t b p) (move_reach S i s t p) ≤ cap)
  weight-rule t i s = (within_cap-fact S t (move_reach S i s t), fact-within_cap S t (move_reach S i s t))

  module _ (w : WellFormed S) where
    -- A move by 0 of a sound table is accepted, and keeps it.
    pub move-by-nothing : (t : List ℤ) (i : ℕ) (room : List ℤ) → SoundTable S t → length room ≡ table_length S → i < S.variables
        → (move_number S t i (pos 0) room ≡ done) × (move_output S t i (pos 0) room ≡ t)
    move-by-nothing t i room a e h =
        let d = (move-accepted-exactly t i (pos 0) room a e h).1 (still-range S i t (good-facts S t (sound-limits a)).range, still-light S w.in-variables i t (sound-weights a)) in
        (d, accepted-is-moved t i (pos 0) room d ∙ moved_table-nil S t a.long i)

    -- An accepted move leaves a sound table, of a table's length: the next move and the next read take it as it is.
    pub moved-stays-sound : (t : List ℤ) (i : ℕ) (s : ℤ) (room : List ℤ) → move_number S t i s room ≡ done → SoundTable S (move_output S t i s room)
    moved-stays-sound t i s room d = subst (SoundTable S) (sym (accepted-is-moved t i s room d)) (moved-sound w (move-told S t i s room d))

    -- ════ What the moved table answers
    -- It answers at a reading less s as the old one at that reading: the number, refusals included, and the values;
    pub moved-answers-as-before : (t : List ℤ) (i : ℕ) (s : ℤ) (room : List ℤ) → move_number S t i s room ≡ done → (x : ℕ → ℤ) (out : List ℤ)
        → (read_number S (move_output S t i s room) (less i s x) out ≡ read_number S t x out) × (read_output S (move_output S t i s room) (less i s x) out ≡ read_output S t x out)
    moved-answers-as-before t i s room d x out =
        let a = move-told S t i s room d in
        let e = accepted-is-moved t i s room d in
        (ap (λ u. read_number S u (less i s x) out) e ∙ read_number-moved w a x out, ap (λ u. read_output S u (less i s x) out) e ∙ read_output-moved w a x out)

    -- said of the numbers of a state, as `read` takes them.
    pub moved-answers-each-state : (t : List ℤ) (i : ℕ) (s : ℤ) (room : List ℤ) → move_number S t i s room ≡ done → (state out : List ℤ) → length state ≡ S.variables
        → (read_number S (move_output S t i s room) (readings (moved_state i s state)) out ≡ read_number S t (readings state) out)
        × (read_output S (move_output S t i s room) (readings (moved_state i s state)) out ≡ read_output S t (readings state) out)
    moved-answers-each-state t i s room d state out e =
        let f = readings-moved i s state (omega (arith, e, (move-told S t i s room d).variable)) in
        let r = moved-answers-as-before t i s room d (readings state) out in
        (ap (λ y. read_number S (move_output S t i s room) y out) f ∙ r.0, ap (λ y. read_output S (move_output S t i s room) y out) f ∙ r.1)

  -- ════ Moves one after another
  -- Two accepted moves in one variable leave what the move by their sum leaves, where that is accepted;
  pub moves-compose : (t : List ℤ) (i : ℕ) (s r : ℤ) (a b c : List ℤ) → move_number S t i s a ≡ done → move_number S (move_output S t i s a) i r b ≡ done
      → move_number S t i (s +ℤ r) c ≡ done → move_output S (move_output S t i s a) i r b ≡ move_output S t i (s +ℤ r) c
  moves-compose t i s r a b c d f g =
      accepted-is-moved (move_output S t i s a) i r b f ∙ ap (moved_table S i r) (accepted-is-moved t i s a d) ∙ moved_table-twice S t (move-told S t i s a d).table i s r
      ∙ sym (accepted-is-moved t i (s +ℤ r) c g)

  -- there and back leave the table as it was;
  pub moves-restore : (t : List ℤ) (i : ℕ) (s : ℤ) (a b : List ℤ) → move_number S t i s a ≡ done → move_number S (move_output S t i s a) i (neg_ℤ s) b ≡ done
      → move_output S (move_output S t i s a) i (neg_ℤ s) b ≡ t
  moves-restore t i s a b d f =
      accepted-is-moved (move_output S t i s a) i (neg_ℤ s) b f ∙ ap (moved_table S i (neg_ℤ s)) (accepted-is-moved t i s a d) ∙ moved_table-back S t (move-told S t i s a d).table i s

  -- and moves in two variables leave the same in either order.
  pub moves-commute : (t : List ℤ) (i j : ℕ) (s r : ℤ) (a b c e : List ℤ) → move_number S t j r a ≡ done → move_number S (move_output S t j r a) i s b ≡ done
      → move_number S t i s c ≡ done → move_number S (move_output S t i s c) j r e ≡ done
      → move_output S (move_output S t j r a) i s b ≡ move_output S (move_output S t i s c) j r e
  moves-commute t i j s r a b c e d f g h =
      accepted-is-moved (move_output S t j r a) i s b f ∙ ap (moved_table S i s) (accepted-is-moved t j r a d) ∙ moved_table-swap S t (move-told S t j r a d).table i j s r
      ∙ sym (accepted-is-moved (move_output S t i s c) j r e h ∙ ap (moved_table S j r) (accepted-is-moved t i s c g))

-- ════ The published table's moves
-- Each single move is accepted whose size is at most 300, 200, 100, 200, 200, from alpha to zeta.
pub published-moves : (i : ℕ) (s : ℤ) → i < cumulus.variables → nat_abs s ≤ farthest_move i → (out : List ℤ) → length out ≡ table_length cumulus → move_number cumulus published i s out ≡ done
published-moves = move-accepted
