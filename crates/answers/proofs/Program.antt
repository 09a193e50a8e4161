-- The answers to an input's lines as they end, and to the last line, are what the program writes for the input.
--   answers-append, readings-append   two pieces are their bytes one after the other
--   last_fits                         the last answer, where there is room for the longest
--   whole                             the input in one piece
use mathlib.Core.Path.{◌≡◌, refl, sym, ap, ap₂, ◌∙◌}
use mathlib.Core.Bool.{Bool, true, false, cond}
use mathlib.Core.List.{List, [], ◌∷◌, ◌++◌, append_assoc, append-nil}
use Prim.Native.Nat.{ℕ, ◌≤◌}
use borrow.Author.Tests.{le-ltb}
use lib.Dec.{eqb}
use lib.IntN.{ℤ}
use Rattle.lines.specs.Line.{onto, parse}
use Rattle.lines.specs.State.{start, stepped, stepped_by, finished}
use Rattle.lines.proofs.Parsed.{parsed}
use Rattle.lines.proofs.Steps.{steps-append}
use Rattle.answers.specs.declared.Reading.{Reading}
use Rattle.answers.specs.Answers.{line_answer, lines_of, answered, program, longest}
use Rattle.answers.specs.Reading.{fresh, reading_after, readings_after, answer_at, answers_of, last_answer, last_in}

-- ════ pieces
pub readings-append : (r : Reading) (xs ys : List ℕ) → readings_after r (xs ++ ys) ≡ readings_after (readings_after r xs) ys
readings-append r [] ys = refl
readings-append r (x ∷ xs) ys = readings-append (reading_after r x) xs ys

pub answers-append : (t : List ℤ) (r : Reading) (xs ys : List ℕ) → answers_of t r (xs ++ ys) ≡ answers_of t r xs ++ answers_of t (readings_after r xs) ys
answers-append t r [] ys = refl
answers-append t r (x ∷ xs) ys =
    ap (λ bs. answer_at t r x ++ bs) (answers-append t (reading_after r x) xs ys)
    ∙ sym (append_assoc (answer_at t r x) (answers_of t (reading_after r x) xs) (answers_of t (readings_after (reading_after r x) xs) ys))

pub last_fits : (t : List ℤ) (r : Reading) (n : ℕ) → longest ≤ n → last_in t r n ≡ last_answer t r
last_fits t r n h = ap (λ b. cond b [] (last_answer t r)) (le-ltb n longest h)

-- ════ lines: bytes before the first of them
onto_all : List ℕ → List (List ℕ) → List (List ℕ)
onto_all [] ls = ls
onto_all (p ∷ ps) ls = onto p (onto_all ps ls)

onto-some : (ps l : List ℕ) (ls : List (List ℕ)) → onto_all ps (l ∷ ls) ≡ (ps ++ l) ∷ ls
unfolding onto_all
onto-some [] l ls = refl
onto-some (p ∷ ps) l ls = ap (onto p) (onto-some ps l ls)

onto-none : (p : ℕ) (ps : List ℕ) → onto_all (p ∷ ps) [] ≡ (p ∷ ps) ∷ []
unfolding onto_all
onto-none p [] = refl
onto-none p (q ∷ ps) = ap (onto p) (onto-none q ps)

onto-last : (ps : List ℕ) (b : ℕ) (ls : List (List ℕ)) → onto_all (ps ++ b ∷ []) ls ≡ onto_all ps (onto b ls)
unfolding onto_all
onto-last [] b ls = refl
onto-last (p ∷ ps) b ls = ap (onto p) (onto-last ps b ls)

-- ════ the reading of a line's first bytes
begun : List ℕ → Bool
begun [] = false
begun (p ∷ ps) = true

reading : List ℕ → Reading
reading ps = record { line = stepped_by start ps; begun = begun ps }

begun-last : (ps : List ℕ) (b : ℕ) → begun (ps ++ b ∷ []) ≡ true
unfolding begun
begun-last [] b = refl
begun-last (p ∷ ps) b = refl

reading-last : (ps : List ℕ) (b : ℕ) → reading (ps ++ b ∷ []) ≡ record { line = stepped (stepped_by start ps) b; begun = true }
unfolding reading
reading-last ps b = ap₂ (λ s t. record { line = s; begun = t }) (steps-append start ps (b ∷ [])) (begun-last ps b)

module _ (t : List ℤ) where
  -- what is written from a reading on
  written_from : Reading → List ℕ → List ℕ
  written_from r bs = answers_of t r bs ++ last_answer t (readings_after r bs)

  last_line : (ps : List ℕ) → last_answer t (reading ps) ≡ answered t (onto_all ps [])
  unfolding reading begun onto_all
  last_line [] = refl
  last_line (p ∷ ps) =
      ap (line_answer t) (parsed (p ∷ ps)) ∙ sym (append-nil (line_answer t (parse (p ∷ ps)))) ∙ ap (answered t) (sym (onto-none p ps))

  one : (b : ℕ) (bs ps : List ℕ) → ((qs : List ℕ) → written_from (reading qs) bs ≡ answered t (onto_all qs (lines_of bs))) → (u : Bool)
      → (cond u (line_answer t (finished (stepped_by start ps))) [] ++ answers_of t (cond u fresh (record { line = stepped (stepped_by start ps) b; begun = true })) bs)
      ++ last_answer t (readings_after (cond u fresh (record { line = stepped (stepped_by start ps) b; begun = true })) bs)
      ≡ answered t (onto_all ps (cond u ([] ∷ lines_of bs) (onto b (lines_of bs))))
  unfolding written_from reading begun onto_all
  one b bs ps ih true =
      append_assoc (line_answer t (finished (stepped_by start ps))) (answers_of t fresh bs) (last_answer t (readings_after fresh bs))
      ∙ ap₂ (λ l rest. line_answer t l ++ rest) (parsed ps) (ih [])
      ∙ ap (λ l. answered t (l ∷ lines_of bs)) (sym (append-nil ps))
      ∙ ap (answered t) (sym (onto-some ps [] (lines_of bs)))
  one b bs ps ih false =
      ap (λ r. answers_of t r bs ++ last_answer t (readings_after r bs)) (sym (reading-last ps b))
      ∙ ih (ps ++ b ∷ [])
      ∙ ap (answered t) (onto-last ps b (lines_of bs))

  from : (bs ps : List ℕ) → written_from (reading ps) bs ≡ answered t (onto_all ps (lines_of bs))
  unfolding written_from reading
  from [] ps = last_line ps
  from (b ∷ bs) ps = one b bs ps (from bs) (eqb b 10)

  pub whole : (bs : List ℕ) → answers_of t fresh bs ++ last_answer t (readings_after fresh bs) ≡ program t bs
  unfolding program written_from reading begun onto_all
  whole bs = from bs []
