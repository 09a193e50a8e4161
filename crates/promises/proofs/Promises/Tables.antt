-- The published table, and what every table answers at a whole-number state.
use mathlib.Core.Path.{◌≡◌, refl, sym, ◌∙◌, ap}
use mathlib.Core.Logic.{◌↔◌}
use mathlib.Core.Bool.{true, false, not}
use mathlib.Core.List.{List, map}
use Prim.Native.Nat.{ℕ, ◌+◌, ◌-◌, ◌*◌, ◌≤◌, ◌<◌, max}
use native.Mathlib.Omega.{arith}
use borrow.Author.Tests.{not-true, not-false}
use lib.IntN.{ℤ, pos, negsuc, nat_abs, ◌+ℤ◌, ◌*ℤ◌}
use lib.ListN.{length, get_or, replicate}
use lib.Signed.{le_z, ◌≤ℤ◌, ◌<ℤ◌}
use Rattle.whole.specs.Down.{rounded_down}
use Rattle.whole.proofs.Down.{down_is, down-unique}
use Rattle.polynomials.specs.Groups.{total_weight}
use Rattle.polynomials.specs.Limits.{cap}
use Rattle.layout.specs.declared.Model.{Model}
use Rattle.layout.specs.Shape.{Shape, WellFormed, limits_length, block_length, block_start, table_length, cumulus, shape}
use Rattle.layout.specs.Limits.{lowest, highest, cut, fine_cut, is_fine_cut, good}
use Rattle.layout.specs.Blocks.{Piece, low, high, coefficient}
use Rattle.layout.specs.Sound.{reach, light, SoundTable}
use Rattle.layout.specs.Refusals.{◌when◌, first, done, wrong_table, wrong_output, outside}
use Rattle.layout.specs.Publishing.{publish_number, publish_output}
use Rattle.layout.specs.Reading.{inside, values, read_number, read_output}
use Rattle.layout.specs.Accepted.{ReadAccepted}
use Rattle.layout.proofs.Fine.{well-formed}
use Rattle.laws.proofs.Sizes.{block_size_lem, start-size, table-size}
use Rattle.laws.proofs.Tests.{&&-left, &&-right, &&-both, le_z-fact, fact-le_z}
use Rattle.laws.proofs.LimitLaws.{good-facts, facts-good, limit-within, range-within, within-range}
use Rattle.laws.proofs.Weights.{within_cap-fact, fact-within_cap}
use Rattle.laws.proofs.Heavy.{smallest-heavy}
use Rattle.laws.proofs.Published.{fitting, other, publish-kept}
use Rattle.laws.proofs.Refused.{refused_readings, read-given, read_kept, read-wrong-table, read-sound, read_done}
use Rattle.laws.proofs.Accepted.{read_told, sound-limits, sound-weights, same-exactly}
use Rattle.printed.specs.Stored.{each_belongs, Multiple, degree_at}
use Rattle.cumulus_page.specs.Model.{coefficients, parts, model_value, scale}
use Rattle.cumulus_page.specs.Envelope.{Envelope}
use Rattle.cumulus_page.specs.Published.{published}
use Rattle.cumulus_page.specs.Checked.{asked, checked}
use Rattle.cumulus_page.proofs.Length.{published-length}
use Rattle.cumulus_page.proofs.Envelope.{sound-table, read-inside}
use Rattle.cumulus_page.proofs.Model.{own-variables, read-model}
use Rattle.cumulus_page.proofs.Scaling.{published-multiples}
use Rattle.cumulus_page.proofs.Checked.{all-checked}
use Rattle.door.proofs.Firsts.{first-exactly}

-- What some of these ask of a shape, that of every model's tables has: the tables that the code serves.
pub every-model-is-well-formed : (m : Model) → WellFormed (shape m)
every-model-is-well-formed = well-formed

-- ════ Layout
-- A table has 312 numbers: 12 limits, and six blocks of 50.
pub table-numbers : (table_length cumulus ≡ 312) × (limits_length cumulus ≡ 12) × (cumulus.blocks ≡ 6) × (block_length cumulus ≡ 50)
table-numbers = (table-size, refl, refl, block_size_lem)

-- The blocks start at 12, 62, 112 and so on.
pub block-starts : (b : ℕ) → block_start cumulus b ≡ 12 + 50 * b
block-starts = start-size

-- ════ Publishing
-- With room for a table: 0, and the published table.
pub publish-publishes : (out : List ℤ) → length out ≡ table_length cumulus → (publish_number published out ≡ done) × (publish_output published out ≡ published)
publish-publishes out e = fitting published out (e ∙ sym published-length)

-- With room for more or fewer numbers: 2, and nothing is written.
pub publish-refuses : (out : List ℤ) → (length out ≡ table_length cumulus → ⊥) → (publish_number published out ≡ wrong_output) × (publish_output published out ≡ out)
publish-refuses out h = other published out (λ e. h (e ∙ published-length))

-- A refusal writes nothing into the lent space, whatever table is published.
pub refused-publish-writes-nothing : (t out : List ℤ) → 0 < publish_number t out → publish_output t out ≡ out
refused-publish-writes-nothing = publish-kept

-- The published table has a table's length and is sound: every promise about sound tables is about it too.
pub published-sound : SoundTable cumulus published
published-sound = sound-table

-- Every stored number of degree n is a multiple of 1000⁴⁻ⁿ.
pub published-scaling : (k : ℕ) → limits_length cumulus ≤ k → k < table_length cumulus → Multiple (scale (degree_at cumulus (k - limits_length cumulus))) (get_or published k (pos 0))
published-scaling = published-multiples

-- ════ Sound tables
-- Good limits: each but the fine cut lies in -2000..2000, alpha's lowest <= cut < highest, each lowest is at most its highest, and where the shape has a
-- fine cut the cut is its thousandth part, rounded down.
pub good-rule : (S : Shape) (t : List ℤ)
    → (good S t ≡ true) ↔ (((k : ℕ) → k < limits_length S → is_fine_cut S k ≡ false → nat_abs (get_or t k (pos 0)) ≤ 2000) × (lowest S t 0 ≤ℤ cut S t) × (cut S t <ℤ highest S t 0) × ((i : ℕ) → i < S.variables → lowest S t i ≤ℤ highest S t i) × (S.has_fine_cut ≡ true → cut S t ≡ rounded_down 1000 (fine_cut S t)))
good-rule S t = (
  λ e. let g = good-facts S t e in (range-within S t g.range, g.lowest-cut, g.cut-highest, g.ordered, g.cuts-agree),
  λ h. facts-good S t (record { range = within-range S t h.0; lowest-cut = h.1; cut-highest = h.2; ordered = h.3; cuts-agree = h.4 }),
)

-- Rounded down, towards minus infinity: the largest whole number of which 1000 go into z.
pub rounded-down-rule : (z q : ℤ) → (q ≡ rounded_down 1000 z) ↔ (((pos 1000 *ℤ q) ≤ℤ z) × (z <ℤ (pos 1000 *ℤ q +ℤ pos 1000)))
rounded-down-rule z q = (λ e. rw e (down_is 1000 (omega arith) z), λ h. down-unique 1000 (omega arith) z q h.0 h.1)

-- So a fine cut that belongs to a good table is small.
pub fine-cut-small : (t : List ℤ) → good cumulus t ≡ true → nat_abs (fine_cut cumulus t) ≤ 2_001_000
fine-cut-small t e = limit-within cumulus t (omega arith) (good-facts cumulus t e) 3 (omega arith)

-- Alpha reaches from its lowest to the cut + 1 in the low piece and from the cut to its highest in the high one, and is at least 1.
pub alpha-reaches : (t : List ℤ)
    → (reach cumulus t low 0 ≡ max 1 (max (nat_abs (lowest cumulus t 0)) (nat_abs (cut cumulus t +ℤ pos 1)))) × (reach cumulus t high 0 ≡ max 1 (max (nat_abs (cut cumulus t)) (nat_abs (highest cumulus t 0))))
alpha-reaches t = (refl, refl)

-- No weight of a light table passes the cap: over every block and piece, at the reaches of the table's own limits.
pub light-rule : (S : Shape) (t : List ℤ) → (light S t ≡ true) ↔ ((b : ℕ) → b < S.blocks → (p : Piece) → total_weight (coefficient S t b p) (reach S t p) ≤ cap)
light-rule S t = (within_cap-fact S t (reach S t), fact-within_cap S t (reach S t))

-- The smallest 64-bit number is too heavy in any place behind the limits, from 12 on in a Cumulus One table.
pub smallest-too-heavy : (m : Model) (t : List ℤ) (k : ℕ) → limits_length (shape m) ≤ k → k < table_length (shape m) → get_or t k (pos 0) ≡ negsuc 9_223_372_036_854_775_807 → light (shape m) t ≡ false
smallest-too-heavy = smallest-heavy

-- ════ Reading the published table
-- Inside the envelope it answers the six printed polynomials exactly, in whole units of 10⁻¹⁷.
pub published-answers-the-print : (x : ℕ → ℤ) (out : List ℤ) → length out ≡ cumulus.blocks → Envelope x
    → (read_number cumulus published x out ≡ done) × (read_output cumulus published x out ≡ map (λ C. model_value C x) coefficients)
published-answers-the-print x = read-model x

-- Each printed equation has only its own two variables, and at most the degree of its group.
pub print-in-its-variables : map (λ C. each_belongs cumulus (parts C)) coefficients ≡ replicate cumulus.blocks (replicate (length cumulus.kinds) true)
print-in-its-variables = own-variables

-- A reading is refused exactly when it is outside.
pub published-refuses-the-outside : (x : ℕ → ℤ) (out : List ℤ) → length out ≡ cumulus.blocks → (read_number cumulus published x out ≡ done) ↔ Envelope x
published-refuses-the-outside x out = read-inside x out

-- ════ Reading any table
-- A reading is inside where it is between its variable's limits, ends included.
pub inside-rule : (S : Shape) (t : List ℤ) (x : ℕ → ℤ) (i : ℕ) → (inside S t x i ≡ true) ↔ ((lowest S t i ≤ℤ x i) × (x i ≤ℤ highest S t i))
inside-rule S t x i = (
  λ e. (le_z-fact (&&-left (le_z (lowest S t i) (x i)) (le_z (x i) (highest S t i)) e), le_z-fact (&&-right (le_z (lowest S t i) (x i)) (le_z (x i) (highest S t i)) e)),
  λ h. &&-both (fact-le_z h.0) (fact-le_z h.1),
)

-- Of the refusals of readings by limits, the first that holds is that of the first reading outside.
pub outside-named : (S : Shape) → WellFormed S → (t : List ℤ) (x : ℕ → ℤ) (i : ℕ) → i < S.variables
    → (first (refused_readings S t x) ≡ outside S i) ↔ (((k : ℕ) → k < i → inside S t x k ≡ true) × (inside S t x i ≡ false))
outside-named S w t x i h =
    let q = first-exactly (λ k. outside S k when not (inside S t x k)) S.variables i h (omega arith) (λ k b d. w.named k i b h (omega arith)) in (
      λ d. ((λ k b. not-false (inside S t x k) ((q.0 d).0 k b)), not-true (inside S t x i) (q.0 d).1),
      λ g. q.1 ((λ k b. ap not (g.0 k b)), ap not g.1),
    )

module _ (S : Shape) (t : List ℤ) (x : ℕ → ℤ) (out : List ℤ) where
  -- A sound table, with room, is read at every reading inside its limits by the same sum over its own numbers,
  pub sound-answers-its-sum : SoundTable S t → length out ≡ S.blocks → ((i : ℕ) → i < S.variables → inside S t x i ≡ true)
      → (read_number S t x out ≡ done) × (read_output S t x out ≡ values S t x)
  sound-answers-its-sum w e h =
      let d = read_done S t x out w.long e (sound-limits w) (sound-weights w) h in
      (d, read-given S t x out d)

  -- and nothing else is read.
  pub only-sound-is-read : read_number S t x out ≡ done → ReadAccepted S t x out
  only-sound-is-read = read_told S t x out

  -- A table of another length is refused by 1, whatever else holds.
  pub other-length-is-not-read : (length t ≡ table_length S → ⊥) → read_number S t x out ≡ wrong_table
  other-length-is-not-read = read-wrong-table S t x out

  -- A sound table, with room, gives 11 to 15 exactly for the first of the readings that is outside.
  pub first-outside-is-named : WellFormed S → SoundTable S t → length out ≡ S.blocks → (i : ℕ) → i < S.variables
      → (read_number S t x out ≡ outside S i) ↔ (((k : ℕ) → k < i → inside S t x k ≡ true) × (inside S t x i ≡ false))
  first-outside-is-named f w e i h = same-exactly (read-sound S t x out w.long e (sound-limits w) (sound-weights w)) (outside-named S f t x i h)

  -- A refusal writes nothing into the lent space.
  pub refused-read-writes-nothing : 0 < read_number S t x out → read_output S t x out ≡ out
  refused-read-writes-nothing h = read_kept S t x out refl h

-- ════ Checked values
-- Those that are marked, 1 to 10, over one list.
pub checked-values : map (λ c. asked c.question) checked ≡ map (λ c. c.answer) checked
checked-values = all-checked
