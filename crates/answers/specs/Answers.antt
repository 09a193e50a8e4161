-- What the program writes for what it reads: bytes in, bytes out.
use Rattle.std.specs.Prelude.{cond, List, [], ◌∷◌, ◌++◌, Option, Some, None, ℕ, ◌+◌, ◌*◌, eqb, ℤ, pos, replicate}
use Rattle.layout.specs.Shape.{cumulus}
use Rattle.layout.specs.Reading.{readings, read_number, read_output}
use Rattle.cumulus_page.specs.Published.{published}
use Rattle.lines.specs.Line.{onto, parse}
use Rattle.printing.specs.Spell.{decimal, spell, longest_number}

-- ════ one answer
-- each number behind a space
abbrev pub spaced : List ℤ → List ℕ
spaced [] = []
spaced (x ∷ xs) = (32 ∷ spell x) ++ spaced xs

-- the number given back, the coefficients, and a newline
abbrev pub numbered : ℕ → List ℤ → List ℕ
numbered number values = decimal number ++ spaced values ++ 10 ∷ []

-- how many bytes the coefficients take at most, each behind a space, and a whole answer with its newline
abbrev pub longest_values : ℕ
longest_values = cumulus.blocks * (1 + longest_number)

abbrev pub longest : ℕ
longest = longest_number + longest_values + 1

-- the coefficients where none are read
abbrev pub zeros : List ℤ
zeros = replicate cumulus.blocks (pos 0)

-- what a table answers to a line: to its readings, or to none
unfoldable pub line_answer : List ℤ → Option (List ℤ) → List ℕ
line_answer t None = numbered 31 zeros
line_answer t (Some x) = numbered (read_number cumulus t (readings x) zeros) (read_output cumulus t (readings x) zeros)

-- ════ all of them
-- the lines of an input: each ends at a newline, and a last one without it counts where it has a byte
abbrev pub with_byte : ℕ → List (List ℕ) → List (List ℕ)
with_byte b ls = cond (eqb b 10) ([] ∷ ls) (onto b ls)

abbrev pub lines_of : List ℕ → List (List ℕ)
lines_of [] = []
lines_of (b ∷ bs) = with_byte b (lines_of bs)

abbrev pub answered : List ℤ → List (List ℕ) → List ℕ
answered t [] = []
answered t (l ∷ ls) = line_answer t (parse l) ++ answered t ls

unfoldable pub program : List ℤ → List ℕ → List ℕ
program t input = answered t (lines_of input)

-- the program trimcard, over the published table
abbrev pub trimcard : List ℕ → List ℕ
trimcard = program published
