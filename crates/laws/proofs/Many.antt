-- Many states of a table: which number is given back, and what is then left.
--   many-wrong-table, many-wrong-lengths   the table or the other lengths are refused
--   many-asked                 the lengths fit, and only the table is left to test
--   many-kept, many-given      both outputs then: as they were, or the answers
--   many-sound, many-done      what is accepted, and that it is
--   many-number-at, many-output-at   each state's number and coefficients are those of a read
use mathlib.Core.Path.{◌≡◌, sym, ◌∙◌, ap}
use mathlib.Core.Bool.{Bool, true, false, not, cond, ◌&&◌}
use mathlib.Core.List.{List, [], ◌∷◌}
use Prim.Native.Nat.{ℕ, ◌*◌, ◌<◌}
use native.Mathlib.Omega.{arith}
use borrow.Author.Tests.{eq-eqb, ne_eqb, eqb-true}
use lib.Dec.{eqb}
use lib.IntN.{ℤ, pos}
use lib.ListN.{length, get_or, take, drop}
use Rattle.polynomials.specs.Sum.{listed}
use Rattle.polynomials.specs.Groups.{total}
use Rattle.polynomials.proofs.Listed.{length-listed, get_or-listed}
use Rattle.layout.specs.Shape.{Shape, table_length}
use Rattle.layout.specs.Limits.{good}
use Rattle.layout.specs.Sound.{light}
use Rattle.layout.specs.Blocks.{coefficient}
use Rattle.layout.specs.Refusals.{first, ◌when◌, unless_refused, done, wrong_table, wrong_output, bad_limits, too_heavy}
use Rattle.layout.specs.Reading.{readings, piece_at, values, read_refusals, read_number, read_output}
use Rattle.layout.specs.Moving.{joined}
use Rattle.layout.specs.Many.{state_at, zeros, number_at, output_at, many_refusals, many_number, many_numbers, many_output}
use Rattle.laws.proofs.Joined.{joined_at}
use Rattle.laws.proofs.Tests.{&&-left, &&-right, &&-both}
use Rattle.laws.proofs.Refused.{first-skip, first-hit, kept}
use Rattle.laws.proofs.Accepted.{first-passed}

-- a read leaves the output as long as it was
length-read : (S : Shape) (t : List ℤ) (x : ℕ → ℤ) (out : List ℤ) → length out ≡ S.blocks → length (read_output S t x out) ≡ S.blocks
unfolding values read_output
length-read S t x out e = by (eqb (read_number S t x out) done)
  where
    by : (b : Bool) → length (cond b (listed S.blocks (λ b. total (coefficient S t b (piece_at S t x)) x)) out) ≡ S.blocks
    by true = length-listed S.blocks _
    by false = e

last-skip : {b : Bool} → b ≡ true → first ((too_heavy when not b) ∷ []) ≡ done
unfolding first
last-skip e = ap (λ b. cond (not b) too_heavy done) e

module _ (S : Shape) (t states : List ℤ) (numbers : List ℕ) (out : List ℤ) where
  abbrev number : ℕ
  number = many_number S t states numbers out

  pub many-given : number ≡ done → (many_numbers S t states numbers out ≡ listed (length numbers) (number_at S t states)) × (many_output S t states numbers out ≡ joined (length numbers) (output_at S t states))
  unfolding many_numbers many_output
  many-given e =
      (ap (λ n. unless_refused n (listed (length numbers) (number_at S t states)) numbers) e, ap (λ n. unless_refused n (joined (length numbers) (output_at S t states)) out) e)

  pub many-kept : {n : ℕ} → number ≡ n → 0 < n → (many_numbers S t states numbers out ≡ numbers) × (many_output S t states numbers out ≡ out)
  unfolding many_numbers many_output
  many-kept e h =
      (kept number (listed (length numbers) (number_at S t states)) numbers (omega arith), kept number (joined (length numbers) (output_at S t states)) out (omega arith))

  pub many-wrong-table : (length t ≡ table_length S → ⊥) → number ≡ wrong_table
  unfolding many_number
  many-wrong-table h = first-hit wrong_table _ (ne_eqb (length t) (table_length S) h)

  module _ (a : length t ≡ table_length S) where
    pub many-wrong-lengths : (eqb (length states) (S.variables * length numbers) && eqb (length out) (S.blocks * length numbers)) ≡ false → number ≡ wrong_output
    unfolding many_number
    many-wrong-lengths h = first-skip wrong_table _ (eq-eqb (length t) (table_length S) a) ∙ first-hit wrong_output _ h

    pub many-asked : (eqb (length states) (S.variables * length numbers) && eqb (length out) (S.blocks * length numbers)) ≡ true → number ≡ first (drop 2 (many_refusals S t (length states) (length numbers) (length out)))
    unfolding many_number
    many-asked h = first-skip wrong_table _ (eq-eqb (length t) (table_length S) a) ∙ first-skip wrong_output _ h

  pub record Accepted : Type 0 where
    pub table : length t ≡ table_length S
    pub given : length states ≡ S.variables * length numbers
    pub room : length out ≡ S.blocks * length numbers
    pub limits : good S t ≡ true
    pub weights : light S t ≡ true

  pub many-sound : number ≡ done → Accepted
  unfolding many_number
  many-sound e =
      let f = first-passed 0 _ _ e in
      let g = first-passed 1 _ _ f.1 in
      let h = first-passed 2 _ _ g.1 in
      let k = first-passed 3 _ _ h.1 in
      record {
        table = eqb-true _ _ f.0;
        given = eqb-true _ _ (&&-left _ _ g.0);
        room = eqb-true _ _ (&&-right (eqb (length states) (S.variables * length numbers)) _ g.0);
        limits = h.0;
        weights = k.0;
      }

  pub many-done : Accepted → number ≡ done
  many-done a =
      many-asked a.table (&&-both (eq-eqb _ _ a.given) (eq-eqb _ _ a.room)) ∙ first-skip bad_limits _ a.limits ∙ last-skip a.weights

  -- ---- each state
  module _ (e : number ≡ done) (k : ℕ) (h : k < length numbers) where
    pub many-number-at : (room : List ℤ) → length room ≡ S.blocks → get_or (many_numbers S t states numbers out) k 0 ≡ read_number S t (readings (state_at S states k)) room
    unfolding read_number
    many-number-at room l =
        ap (λ r. get_or r k 0) (many-given e).0 ∙ get_or-listed (length numbers) (number_at S t states) k 0 h
        ∙ ap (λ n. first (read_refusals S t (readings (state_at S states k)) n)) (length-listed S.blocks (λ b. pos 0) ∙ sym l)

    pub many-output-at : take S.blocks (drop (S.blocks * k) (many_output S t states numbers out)) ≡ output_at S t states k
    many-output-at =
        ap (λ r. take S.blocks (drop (S.blocks * k) r)) (many-given e).1
        ∙ joined_at S.blocks (length numbers) (output_at S t states) (λ b m. length-read S t (readings (state_at S states b)) (zeros S) (length-listed S.blocks (λ c. pos 0))) k h
