-- Facts that would fail if a definition said something else: inputs and what the program writes for them, byte by byte.
use mathlib.Core.Path.{◌≡◌, refl}
use mathlib.Core.List.{List, [], ◌∷◌, ◌++◌, map}
use Prim.Native.Nat.{ℕ}
use lib.IntN.{pow, one}
use Rattle.whole.specs.Down.{rounded_down}
use Rattle.polynomials.specs.Sum.{sum, listed}
use Rattle.polynomials.specs.Order.{powers, below}
use Rattle.polynomials.specs.Group.{number, term, evaluated, given}
use Rattle.polynomials.specs.Groups.{total, total_weight}
use Rattle.layout.specs.Shape.{kinds_length}
use Rattle.layout.specs.Limits.{every, all_in_range, good}
use Rattle.layout.specs.Blocks.{groups, laid_out, chosen, coefficient}
use Rattle.layout.specs.Sound.{within_cap}
use Rattle.layout.specs.Refusals.{first}
use Rattle.layout.specs.Reading.{values, read_number, read_output}
use Rattle.cumulus_page.specs.Published.{published}
use Rattle.lines.specs.Line.{parse}
use Rattle.printing.specs.Spell.{decimal}
use Rattle.answers.specs.Answers.{lines_of, line_answer, program, trimcard}

-- ════ lines: nothing, a newline, a, a newline behind a, two newlines behind a, b behind that
lines-read : map lines_of ([] ∷ (10 ∷ []) ∷ (97 ∷ []) ∷ (97 ∷ 10 ∷ []) ∷ (97 ∷ 10 ∷ 10 ∷ []) ∷ (97 ∷ 10 ∷ 10 ∷ 98 ∷ []) ∷ [])
    ≡ [] ∷ ([] ∷ []) ∷ ((97 ∷ []) ∷ []) ∷ ((97 ∷ []) ∷ []) ∷ ((97 ∷ []) ∷ [] ∷ []) ∷ ((97 ∷ []) ∷ [] ∷ (98 ∷ []) ∷ []) ∷ []
lines-read = refl

-- ════ answers
-- `31 0 0 0 0 0 0`
abbrev malformed : List ℕ
malformed = 51 ∷ 49 ∷ 32 ∷ 48 ∷ 32 ∷ 48 ∷ 32 ∷ 48 ∷ 32 ∷ 48 ∷ 32 ∷ 48 ∷ 32 ∷ 48 ∷ 10 ∷ []

-- for nothing nothing; for an empty line, for `x`, and for `x` with a newline, one answer; for two empty lines two
malformed-lines : map trimcard ([] ∷ (10 ∷ []) ∷ (120 ∷ []) ∷ (120 ∷ 10 ∷ []) ∷ (10 ∷ 10 ∷ []) ∷ [])
    ≡ [] ∷ malformed ∷ malformed ∷ malformed ∷ (malformed ++ malformed) ∷ []
unfolding program line_answer parse decimal
malformed-lines = refl

-- `1 0 0 0 0 0 0`: a table of another length
no_table : program [] (48 ∷ 32 ∷ 48 ∷ 32 ∷ 48 ∷ 32 ∷ 48 ∷ 32 ∷ 48 ∷ []) ≡ 49 ∷ 32 ∷ 48 ∷ 32 ∷ 48 ∷ 32 ∷ 48 ∷ 32 ∷ 48 ∷ 32 ∷ 48 ∷ 32 ∷ 48 ∷ 10 ∷ []
unfolding program line_answer parse decimal read_number read_output first kinds_length below listed
no_table = refl

-- ════ the published table at `0 0 0 0 0`, whose answer the requirement prints
pub at_zero : trimcard (48 ∷ 32 ∷ 48 ∷ 32 ∷ 48 ∷ 32 ∷ 48 ∷ 32 ∷ 48 ∷ 10 ∷ [])
    ≡ 48 ∷ 32 ∷ 45 ∷ 50 ∷ 53 ∷ 54 ∷ 54 ∷ 48 ∷ 48 ∷ 48 ∷ 48 ∷ 48 ∷ 48 ∷ 48 ∷ 48 ∷ 48 ∷ 48 ∷ 48 ∷ 48 ∷ 32 ∷ 53 ∷ 52 ∷ 48 ∷ 50 ∷ 48 ∷ 48 ∷ 48 ∷ 48 ∷ 48 ∷ 48 ∷ 48 ∷ 48 ∷ 48 ∷ 48 ∷ 48 ∷ 48 ∷ 32 ∷ 45 ∷ 51 ∷ 52 ∷ 55 ∷ 53 ∷ 48 ∷ 48 ∷ 48 ∷ 48 ∷ 48 ∷ 48 ∷ 48 ∷ 48 ∷ 48 ∷ 48 ∷ 48 ∷ 48 ∷ 48 ∷ 32 ∷ 52 ∷ 56 ∷ 55 ∷ 53 ∷ 48 ∷ 48 ∷ 48 ∷ 48 ∷ 48 ∷ 48 ∷ 48 ∷ 48 ∷ 48 ∷ 48 ∷ 48 ∷ 48 ∷ 32 ∷ 54 ∷ 50 ∷ 49 ∷ 52 ∷ 48 ∷ 48 ∷ 48 ∷ 48 ∷ 48 ∷ 48 ∷ 48 ∷ 48 ∷ 48 ∷ 48 ∷ 48 ∷ 48 ∷ 32 ∷ 52 ∷ 55 ∷ 52 ∷ 56 ∷ 48 ∷ 48 ∷ 48 ∷ 48 ∷ 48 ∷ 48 ∷ 48 ∷ 48 ∷ 48 ∷ 48 ∷ 48 ∷ 48 ∷ 10 ∷ []
unfolding program line_answer parse decimal published rounded_down listed sum powers below number term evaluated given total total_weight kinds_length every all_in_range good groups laid_out chosen coefficient within_cap first values read_number read_output pow one
at_zero = refl

-- `1001 501 0 0 0` without a newline: alpha and beta are outside, and alpha comes first
outside : trimcard (49 ∷ 48 ∷ 48 ∷ 49 ∷ 32 ∷ 53 ∷ 48 ∷ 49 ∷ 32 ∷ 48 ∷ 32 ∷ 48 ∷ 32 ∷ 48 ∷ []) ≡ 49 ∷ 49 ∷ 32 ∷ 48 ∷ 32 ∷ 48 ∷ 32 ∷ 48 ∷ 32 ∷ 48 ∷ 32 ∷ 48 ∷ 32 ∷ 48 ∷ 10 ∷ []
unfolding program line_answer parse decimal published rounded_down listed sum powers below number term evaluated given total total_weight kinds_length every all_in_range good groups laid_out chosen coefficient within_cap first values read_number read_output pow one
outside = refl
