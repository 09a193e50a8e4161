-- What is known of an input after each byte, and what has been written by then. That it ends in what `Answers` says is shown in `proofs/Program`.
use Rattle.std.specs.Prelude.{◌≡◌, true, false, cond, List, [], ◌∷◌, ◌++◌, ℕ, ◌+◌, ◌-◌, ◌<◌, ◌≤◌, eqb, ltb, ℤ, length, take, drop, get_or}
use Rattle.lines.specs.State.{start, stepped, stepped_by, finished}
use Rattle.lines.specs.declared.State.{State}
use Rattle.printing.specs.Spell.{written}
use Rattle.answers.specs.Answers.{line_answer, longest}
use Rattle.answers.specs.declared.Reading.{Reading}
use Rattle.answers.specs.declared.Fed.{Fed}
use Rattle.answers.specs.declared.Part.{Part}

abbrev pub fresh : Reading
fresh = record { line = start; begun = false }

abbrev pub reading_after : Reading → ℕ → Reading
reading_after r b = cond (eqb b 10) fresh (record { line = stepped r.line b; begun = true })

abbrev pub readings_after : Reading → List ℕ → Reading
readings_after r [] = r
readings_after r (b ∷ bs) = readings_after (reading_after r b) bs

-- a newline ends a line, which is answered
abbrev pub answer_at : List ℤ → Reading → ℕ → List ℕ
answer_at t r b = cond (eqb b 10) (line_answer t (finished r.line)) []

abbrev pub answers_of : List ℤ → Reading → List ℕ → List ℕ
answers_of t r [] = []
answers_of t r (b ∷ bs) = answer_at t r b ++ answers_of t (reading_after r b) bs

-- at the end of the input, a line that has a byte counts
abbrev pub last_answer : List ℤ → Reading → List ℕ
last_answer t r = cond r.begun (line_answer t (finished r.line)) []

-- what of it is written into an output of n bytes: all, or nothing where the longest answer would not fit
abbrev pub last_in : List ℤ → Reading → ℕ → List ℕ
last_in t r n = cond (ltb n longest) [] (last_answer t r)

-- ════ a part of the input: from a place on up to another
abbrev pub part : List ℕ → ℕ → ℕ → List ℕ
part input from end = take (end - from) (drop from input)

-- none of the bytes is a newline
abbrev pub Plain : List ℕ → Type 0
Plain [] = Unit {0}
Plain (b ∷ bs) = (b ≡ 10 → ⊥) × Plain bs

-- the line goes on for as long as no newline comes
pub record LinePart (s : State) (input : List ℕ) (from : ℕ) (p : Part) : Type 0 where
  pub forward : from ≤ p.end
  pub within : p.end ≤ length input
  pub line : p.line ≡ stepped_by s (part input from p.end)
  pub plain : Plain (part input from p.end)
  pub newline : p.end < length input → get_or input p.end 0 ≡ 10

-- to take a part that has a byte: room for an answer
pub record Taking (input : List ℕ) (from : ℕ) (out : List ℕ) (at : ℕ) : Type 0 where
  pub byte : from < length input
  pub room : at + longest ≤ length out

-- what is known after the part, and its answer, which nothing comes before
pub record Taken (t : List ℤ) (r : Reading) (input : List ℕ) (from : ℕ) (out out' : List ℕ) (at : ℕ) (f : Fed) : Type 0 where
  pub forward : from < f.taken
  pub within : f.taken ≤ length input
  pub reading : f.reading ≡ readings_after r (part input from f.taken)
  pub place : f.put ≡ at + length (answers_of t r (part input from f.taken))
  pub output : out' ≡ written out at (answers_of t r (part input from f.taken))
  pub room : f.put ≤ at + longest
  pub silent : (i : ℕ) → from ≤ i → i < f.taken → answers_of t r (part input from i) ≡ []

-- ════ a piece of the input: `out` is the output before, `out'` the output afterwards
pub record Feeding (t : List ℤ) (r : Reading) (input out out' : List ℕ) (f : Fed) : Type 0 where
  pub within : f.taken ≤ length input
  pub reading : f.reading ≡ readings_after r (take f.taken input)
  pub place : f.put ≡ length (answers_of t r (take f.taken input))
  pub output : out' ≡ written out 0 (answers_of t r (take f.taken input))
  pub room : f.put ≤ length out
  -- before each byte that is taken there is room for an answer, and there is none where a byte is left
  pub roomy : (i : ℕ) → i < f.taken → length (answers_of t r (take i input)) + longest ≤ length out
  pub full : f.taken < length input → length out < f.put + longest
