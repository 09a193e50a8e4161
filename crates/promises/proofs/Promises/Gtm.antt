-- The GTM's longitudinal model, a second aircraft: its table, its equations, and what is promised over every shape said of its tables. Alpha and eta are
-- the variables 0 and 1; lift, drag and pitching moment are the blocks.
use mathlib.Core.Path.{◌≡◌, refl, sym, ◌∙◌}
use mathlib.Core.Logic.{◌↔◌, ◌⊎◌}
use mathlib.Core.Bool.{true, false}
use mathlib.Core.List.{List, map}
use Prim.Native.Nat.{ℕ, ◌+◌, ◌-◌, ◌*◌, ◌≤◌, ◌<◌, max}
use native.Mathlib.Omega.{arith}
use lib.IntN.{ℤ, pos, negsuc, neg_ℤ, nat_abs, ◌+ℤ◌}
use lib.ListN.{length, get_or, replicate}
use Rattle.polynomials.specs.Order.{below}
use Rattle.polynomials.specs.Groups.{less}
use Rattle.layout.specs.declared.Model.TheVariants.{Gtm}
use Rattle.layout.specs.Shape.{WellFormed, limits_length, kinds_length, block_length, block_start, table_length, cumulus, gtm}
use Rattle.layout.specs.Limits.{lowest, highest, cut, all_in_range}
use Rattle.layout.specs.Blocks.{low, high}
use Rattle.layout.specs.Sound.{reach, light, SoundTable}
use Rattle.layout.specs.Refusals.{done, wrong_table, wrong_output, no_variable, limit_past, move_too_heavy, outside}
use Rattle.layout.specs.Publishing.{publish_number, publish_output}
use Rattle.layout.specs.Reading.{readings, inside, values, read_number, read_output}
use Rattle.layout.specs.Moving.{moved_limits, moved_state, move_light, move_number, move_output}
use Rattle.layout.specs.Accepted.{ReadAccepted, MoveAccepted}
use Rattle.laws.proofs.Published.{fitting, other}
use Rattle.printed.specs.Values.{scale_in}
use Rattle.printed.specs.Stored.{each_belongs, Multiple, degree_at}
use Rattle.gtm_page.specs.Model.{coefficients, parts, milliradians, model_value}
use Rattle.gtm_page.specs.Published.{published}
use Rattle.gtm_page.specs.Envelope.{Envelope, farthest_move}
use Rattle.gtm_page.proofs.Scaling.{published-multiples}
use Rattle.gtm_page.proofs.Envelope.{sound-table, read-inside}
use Rattle.gtm_page.proofs.Model.{own-variables, read-model}
use Rattle.gtm_page.proofs.Moves.{move-accepted}
use Rattle.promises.proofs.Promises.Tables.{every-model-is-well-formed, smallest-too-heavy, sound-answers-its-sum, only-sound-is-read, refused-read-writes-nothing, first-outside-is-named, other-length-is-not-read}
use Rattle.promises.proofs.Promises.Moves.{refused-move-writes-nothing, only-sound-is-moved, move-accepted-exactly, move-past-range-exactly, move-too-heavy-exactly, move-no-other-number, move-by-nothing, moved-stays-sound, moved-answers-as-before, moved-answers-each-state, moves-compose, moves-restore, moves-commute, other-length-is-not-moved, no-such-variable}

well : WellFormed gtm
well = every-model-is-well-formed Gtm

-- ════ Layout
-- A table has 65 numbers: 5 limits, and three blocks of 20.
pub gtm-table-numbers : (table_length gtm ≡ 65) × (limits_length gtm ≡ 5) × (gtm.blocks ≡ 3) × (block_length gtm ≡ 20)
unfolding kinds_length below
gtm-table-numbers = (refl, refl, refl, refl)

-- It has no fine cut: alpha reaches from its lowest to the cut in the low piece, and from the cut + 1 to its highest in the high one.
pub gtm-alpha-reaches : (t : List ℤ)
    → (reach gtm t low 0 ≡ max 1 (max (nat_abs (lowest gtm t 0)) (nat_abs (cut gtm t)))) × (reach gtm t high 0 ≡ max 1 (max (nat_abs (cut gtm t +ℤ pos 1)) (nat_abs (highest gtm t 0))))
gtm-alpha-reaches t = (refl, refl)

-- The blocks start at 5, 25 and 45.
pub gtm-block-starts : (b : ℕ) → block_start gtm b ≡ 5 + 20 * b
unfolding kinds_length below
gtm-block-starts b = refl

-- ════ Publishing
-- With room for a table: 0, and the published table.
pub gtm-publish-publishes : (out : List ℤ) → length out ≡ table_length gtm → (publish_number published out ≡ done) × (publish_output published out ≡ published)
gtm-publish-publishes out e = fitting published out (e ∙ sym sound-table.long)

-- With room for more or fewer numbers: 2, and nothing is written.
pub gtm-publish-refuses : (out : List ℤ) → (length out ≡ table_length gtm → ⊥) → (publish_number published out ≡ wrong_output) × (publish_output published out ≡ out)
gtm-publish-refuses out h = other published out (λ e. h (e ∙ sound-table.long))

-- The published table has a table's length and is sound: every promise about sound tables is about it too.
pub gtm-published-sound : SoundTable gtm published
gtm-published-sound = sound-table

-- Every stored number of degree n is a multiple of 1000⁴⁻ⁿ.
pub gtm-published-scaling : (k : ℕ) → limits_length gtm ≤ k → k < table_length gtm → Multiple (scale_in milliradians (degree_at gtm (k - limits_length gtm))) (get_or published k (pos 0))
gtm-published-scaling = published-multiples

-- ════ Reading the published table
-- Inside the envelope it answers the three printed coefficients exactly, in whole units of 10⁻¹⁷.
pub gtm-answers-the-print : (x : ℕ → ℤ) (out : List ℤ) → length out ≡ gtm.blocks → Envelope x
    → (read_number gtm published x out ≡ done) × (read_output gtm published x out ≡ map (λ C. model_value C x) coefficients)
gtm-answers-the-print = read-model

-- Each printed expression has only alpha and eta, and at most the degree of its group.
pub gtm-print-in-its-variables : map (λ C. each_belongs gtm (parts C)) coefficients ≡ replicate gtm.blocks (replicate (length gtm.kinds) true)
gtm-print-in-its-variables = own-variables

-- A reading is refused exactly when it is outside.
pub gtm-refuses-the-outside : (x : ℕ → ℤ) (out : List ℤ) → length out ≡ gtm.blocks → (read_number gtm published x out ≡ done) ↔ Envelope x
gtm-refuses-the-outside = read-inside

-- ════ Reading any table
-- Alpha is refused by 11, and eta by 14.
pub gtm-refusals-of-readings : (outside gtm 0 ≡ 11) × (outside gtm 1 ≡ 14)
gtm-refusals-of-readings = (refl, refl)

module _ (t : List ℤ) (w : SoundTable gtm t) (x : ℕ → ℤ) (out : List ℤ) (room : length out ≡ gtm.blocks) where
  -- A sound table, with room, is read at every reading inside its limits by the same sum over its own numbers,
  pub gtm-answers-its-sum : ((i : ℕ) → i < gtm.variables → inside gtm t x i ≡ true) → (read_number gtm t x out ≡ done) × (read_output gtm t x out ≡ values gtm t x)
  gtm-answers-its-sum = sound-answers-its-sum gtm t x out w room

  -- and gives 11 or 14 exactly for the first of the readings that is outside.
  pub gtm-first-outside-is-named : (i : ℕ) → i < gtm.variables → (read_number gtm t x out ≡ outside gtm i) ↔ (((k : ℕ) → k < i → inside gtm t x k ≡ true) × (inside gtm t x i ≡ false))
  gtm-first-outside-is-named = first-outside-is-named gtm t x out well w room

-- Nothing but a sound table is read, and a refusal writes nothing into the lent space.
pub gtm-only-sound-is-read : (t : List ℤ) (x : ℕ → ℤ) (out : List ℤ) → read_number gtm t x out ≡ done → ReadAccepted gtm t x out
gtm-only-sound-is-read = only-sound-is-read gtm

pub gtm-refused-read-writes-nothing : (t : List ℤ) (x : ℕ → ℤ) (out : List ℤ) → 0 < read_number gtm t x out → read_output gtm t x out ≡ out
gtm-refused-read-writes-nothing = refused-read-writes-nothing gtm

-- The smallest 64-bit number is too heavy in any place from 5 on.
pub gtm-smallest-too-heavy : (t : List ℤ) (k : ℕ) → limits_length gtm ≤ k → k < table_length gtm → get_or t k (pos 0) ≡ negsuc 9_223_372_036_854_775_807 → light gtm t ≡ false
gtm-smallest-too-heavy = smallest-too-heavy Gtm

-- ════ Moving any table
module _ (t : List ℤ) (i : ℕ) (s : ℤ) (out : List ℤ) (w : SoundTable gtm t) (room : length out ≡ table_length gtm) (known : i < gtm.variables) where
  -- A sound table's move, with room and in one of its variables, gives 0 exactly where every moved limit is in range and the weight rule is kept,
  pub gtm-move-accepted-exactly : (move_number gtm t i s out ≡ done) ↔ ((all_in_range gtm (moved_limits gtm i s t) ≡ true) × (move_light gtm i s t ≡ true))
  gtm-move-accepted-exactly = move-accepted-exactly gtm t i s out w room known

  -- 6 exactly where a moved limit leaves its range,
  pub gtm-move-past-range-exactly : (move_number gtm t i s out ≡ limit_past) ↔ (all_in_range gtm (moved_limits gtm i s t) ≡ false)
  gtm-move-past-range-exactly = move-past-range-exactly gtm t i s out w room known

  -- 7 exactly where none does and the weight rule is broken,
  pub gtm-move-too-heavy-exactly : (move_number gtm t i s out ≡ move_too_heavy) ↔ ((all_in_range gtm (moved_limits gtm i s t) ≡ true) × (move_light gtm i s t ≡ false))
  gtm-move-too-heavy-exactly = move-too-heavy-exactly gtm t i s out w room known

  -- and no other number.
  pub gtm-move-no-other-number : (move_number gtm t i s out ≡ done) ⊎ ((move_number gtm t i s out ≡ limit_past) ⊎ (move_number gtm t i s out ≡ move_too_heavy))
  gtm-move-no-other-number = move-no-other-number gtm t i s out w room known

-- Nothing but a sound table is moved, and a refusal writes nothing into the lent space.
pub gtm-only-sound-is-moved : (t : List ℤ) (i : ℕ) (s : ℤ) (out : List ℤ) → move_number gtm t i s out ≡ done → MoveAccepted gtm t i s out
gtm-only-sound-is-moved = only-sound-is-moved gtm

pub gtm-refused-move-writes-nothing : (t : List ℤ) (i : ℕ) (s : ℤ) (out : List ℤ) → 0 < move_number gtm t i s out → move_output gtm t i s out ≡ out
gtm-refused-move-writes-nothing = refused-move-writes-nothing gtm

-- There is no variable above 1: 5.
pub gtm-no-third-variable : (t : List ℤ) (i : ℕ) (s : ℤ) (out : List ℤ) → length t ≡ table_length gtm → length out ≡ table_length gtm → 2 ≤ i → move_number gtm t i s out ≡ no_variable
gtm-no-third-variable = no-such-variable gtm

-- A move by 0 of a sound table is accepted, and keeps it.
pub gtm-move-by-nothing : (t : List ℤ) (i : ℕ) (room : List ℤ) → SoundTable gtm t → length room ≡ table_length gtm → i < gtm.variables
    → (move_number gtm t i (pos 0) room ≡ done) × (move_output gtm t i (pos 0) room ≡ t)
gtm-move-by-nothing = move-by-nothing gtm well

-- An accepted move leaves a sound table, of a table's length.
pub gtm-moved-stays-sound : (t : List ℤ) (i : ℕ) (s : ℤ) (room : List ℤ) → move_number gtm t i s room ≡ done → SoundTable gtm (move_output gtm t i s room)
gtm-moved-stays-sound = moved-stays-sound gtm well

-- The moved table answers at a reading less s as the old one at that reading: the number, refusals included, and the values.
pub gtm-moved-answers-as-before : (t : List ℤ) (i : ℕ) (s : ℤ) (room : List ℤ) → move_number gtm t i s room ≡ done → (x : ℕ → ℤ) (out : List ℤ)
    → (read_number gtm (move_output gtm t i s room) (less i s x) out ≡ read_number gtm t x out) × (read_output gtm (move_output gtm t i s room) (less i s x) out ≡ read_output gtm t x out)
gtm-moved-answers-as-before = moved-answers-as-before gtm well

-- Said of the two numbers of a state, as `read` takes them.
pub gtm-moved-answers-each-state : (t : List ℤ) (i : ℕ) (s : ℤ) (room : List ℤ) → move_number gtm t i s room ≡ done → (state out : List ℤ) → length state ≡ gtm.variables
    → (read_number gtm (move_output gtm t i s room) (readings (moved_state i s state)) out ≡ read_number gtm t (readings state) out)
    × (read_output gtm (move_output gtm t i s room) (readings (moved_state i s state)) out ≡ read_output gtm t (readings state) out)
gtm-moved-answers-each-state = moved-answers-each-state gtm well

-- Two accepted moves in one variable leave what the move by their sum leaves, where that is accepted;
pub gtm-moves-compose : (t : List ℤ) (i : ℕ) (s r : ℤ) (a b c : List ℤ) → move_number gtm t i s a ≡ done → move_number gtm (move_output gtm t i s a) i r b ≡ done
    → move_number gtm t i (s +ℤ r) c ≡ done → move_output gtm (move_output gtm t i s a) i r b ≡ move_output gtm t i (s +ℤ r) c
gtm-moves-compose = moves-compose gtm

-- there and back leave the table as it was;
pub gtm-moves-restore : (t : List ℤ) (i : ℕ) (s : ℤ) (a b : List ℤ) → move_number gtm t i s a ≡ done → move_number gtm (move_output gtm t i s a) i (neg_ℤ s) b ≡ done
    → move_output gtm (move_output gtm t i s a) i (neg_ℤ s) b ≡ t
gtm-moves-restore = moves-restore gtm

-- and moves in alpha and in eta leave the same in either order.
pub gtm-moves-commute : (t : List ℤ) (i j : ℕ) (s r : ℤ) (a b c e : List ℤ) → move_number gtm t j r a ≡ done → move_number gtm (move_output gtm t j r a) i s b ≡ done
    → move_number gtm t i s c ≡ done → move_number gtm (move_output gtm t i s c) j r e ≡ done
    → move_output gtm (move_output gtm t j r a) i s b ≡ move_output gtm (move_output gtm t i s c) j r e
gtm-moves-commute = moves-commute gtm

-- Of the published table each single move is accepted whose size is at most 500 in alpha and 1500 in eta.
pub gtm-published-moves : (i : ℕ) (s : ℤ) → i < gtm.variables → nat_abs s ≤ farthest_move i → (out : List ℤ) → length out ≡ table_length gtm → move_number gtm published i s out ≡ done
gtm-published-moves = move-accepted

-- ════ Tables of the other aircraft
apart : table_length cumulus ≡ table_length gtm → ⊥
unfolding kinds_length below
apart e = omega arith

-- A Cumulus One table given to an operation of the GTM is refused by its length, 1,
pub cumulus-is-no-gtm-table : (t : List ℤ) → length t ≡ table_length cumulus
    → ((x : ℕ → ℤ) (out : List ℤ) → read_number gtm t x out ≡ wrong_table) × ((i : ℕ) (s : ℤ) (out : List ℤ) → move_number gtm t i s out ≡ wrong_table)
cumulus-is-no-gtm-table t e = ((λ x out. other-length-is-not-read gtm t x out (λ g. apart (sym e ∙ g))), λ i s out. other-length-is-not-moved gtm t i s out (λ g. apart (sym e ∙ g)))

-- and the other way round.
pub gtm-is-no-cumulus-table : (t : List ℤ) → length t ≡ table_length gtm
    → ((x : ℕ → ℤ) (out : List ℤ) → read_number cumulus t x out ≡ wrong_table) × ((i : ℕ) (s : ℤ) (out : List ℤ) → move_number cumulus t i s out ≡ wrong_table)
gtm-is-no-cumulus-table t e = ((λ x out. other-length-is-not-read cumulus t x out (λ g. apart (sym g ∙ e))), λ i s out. other-length-is-not-moved cumulus t i s out (λ g. apart (sym g ∙ e)))
