-- The program answers line by line.
--   line_first   a line that a newline ends, and then what follows
--   line-last    a last line without a newline
use mathlib.Core.Path.{◌≡◌, refl, ap, ◌∙◌}
use mathlib.Core.Bool.{cond}
use mathlib.Core.List.{List, [], ◌∷◌, ◌++◌, append-nil}
use Prim.Native.Nat.{ℕ}
use borrow.Author.Tests.{ne_eqb}
use lib.IntN.{ℤ}
use Rattle.lines.specs.Line.{onto, parse}
use Rattle.answers.specs.Answers.{with_byte, lines_of, line_answer, answered, program}
use Rattle.answers.specs.Reading.{Plain}

plain_byte : (b : ℕ) (ls : List (List ℕ)) → (b ≡ 10 → ⊥) → with_byte b ls ≡ onto b ls
plain_byte b ls h = ap (λ u. cond u ([] ∷ ls) (onto b ls)) (ne_eqb b 10 h)

lines_of-first : (l rest : List ℕ) → Plain l → lines_of (l ++ 10 ∷ rest) ≡ l ∷ lines_of rest
lines_of-first [] rest p = refl
lines_of-first (b ∷ l) rest p = ap (with_byte b) (lines_of-first l rest p.1) ∙ plain_byte b (l ∷ lines_of rest) p.0

lines_of-last : (b : ℕ) (l : List ℕ) → Plain (b ∷ l) → lines_of (b ∷ l) ≡ (b ∷ l) ∷ []
lines_of-last b [] p = plain_byte b [] p.0
lines_of-last b (c ∷ l) p = ap (with_byte b) (lines_of-last c l p.1) ∙ plain_byte b ((c ∷ l) ∷ []) p.0

module _ (t : List ℤ) where
  pub line_first : (l rest : List ℕ) → Plain l → program t (l ++ 10 ∷ rest) ≡ line_answer t (parse l) ++ program t rest
  unfolding program
  line_first l rest p = ap (answered t) (lines_of-first l rest p)

  pub line-last : (b : ℕ) (l : List ℕ) → Plain (b ∷ l) → program t (b ∷ l) ≡ line_answer t (parse (b ∷ l))
  unfolding program
  line-last b l p = ap (answered t) (lines_of-last b l p) ∙ append-nil (line_answer t (parse (b ∷ l)))
