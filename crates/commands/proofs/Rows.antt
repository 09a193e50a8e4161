-- The row of a word, among the rows of the code.
--   named_row   what is shown of the row that has the word is what the word is named
use Rattle.std.proofs.Common.{◌≡◌, refl, ap, ◌∙◌, ℕ, Bool, true, false, cond, List, [], ◌∷◌, map, Option, Some, find, Bor}
use Rattle.std.specs.Option.{option_map}
use Rattle.std.specs.Str.{bytes_eq}
use Rattle.numbers.specs.declared.Kind.{Kind}
use Rattle.commands.specs.declared.Name.{Name}
use Rattle.commands.specs.Commands.{commands, named}

abbrev pub Row : Type 0
Row = Bor (List ℕ) × Name × Bor (List Kind)

abbrev pub shown : Row → List ℕ × Name × List Kind
shown row = (row.0.now, row.1, row.2.now)

find_shown : (word : List ℕ) (rows : List Row) → option_map shown (find (λ row. bytes_eq row.0.now word) rows) ≡ find (λ row. bytes_eq row.0 word) (map shown rows)
find_shown word [] = refl
find_shown word (row ∷ rows) = pick (bytes_eq row.0.now word) (find_shown word rows)
  where
    pick : (t : Bool) → option_map shown (find (λ row. bytes_eq row.0.now word) rows) ≡ find (λ row. bytes_eq row.0 word) (map shown rows) → option_map shown (cond t (Some row) (find (λ row. bytes_eq row.0.now word) rows)) ≡ cond t (Some (shown row)) (find (λ row. bytes_eq row.0 word) (map shown rows))
    pick true e = refl
    pick false e = e

abbrev pub behind : List ℕ × Name × List Kind → Name × List Kind
behind row = (row.1, row.2)

pub named_row : (word : List ℕ) (rows : List Row) (found : Option Row) → map shown rows ≡ commands → found ≡ find (λ row. bytes_eq row.0.now word) rows → option_map behind (option_map shown found) ≡ named word
named_row word rows found same e =
    ap (λ o. option_map behind (option_map shown o)) e
    ∙ ap (option_map behind) (find_shown word rows)
    ∙ ap (λ rows. option_map behind (find (λ row. bytes_eq row.0 word) rows)) same
