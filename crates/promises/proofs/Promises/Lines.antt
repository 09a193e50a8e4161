-- The program trimcard, bytes in and bytes out: what it reads is `input`, and what it writes is `trimcard input`. `ascii` gives the bytes of a text.
use mathlib.Core.Path.{◌≡◌, refl}
use mathlib.Core.List.{List, [], ◌∷◌, ◌++◌}
use Prim.Native.Nat.{ℕ, ◌<◌}
use lib.IntN.{ℤ, pos, neg_ℤ}
use Rattle.layout.specs.Shape.{cumulus}
use Rattle.layout.specs.Reading.{readings, read_number, read_output}
use Rattle.laws.proofs.Refused.{read_kept}
use Rattle.cumulus_page.specs.Published.{published}
use Rattle.lines.specs.Line.{parse}
use Rattle.std.specs.Prelude.{Some, None}
use Rattle.printing.specs.Spell.{decimal}
use Rattle.answers.specs.Answers.{zeros, numbered, line_answer, program, trimcard}
use Rattle.answers.specs.Reading.{fresh, Plain}
use Rattle.answers.proofs.Controls.{at_zero}
use Rattle.answers.proofs.EachLine.{line_first, line-last}
use Rattle.promises.specs.Text.{ascii}
use Rattle.promises.specs.Runs.{Run}
use Rattle.promises.proofs.Runs.{run-writes-program}

-- ════ Lines
-- Empty input prints nothing.
pub nothing-for-nothing : trimcard [] ≡ []
unfolding program
nothing-for-nothing = refl

-- A line is what stands before byte 10. Each is answered by itself, in order,
pub each-line-is-answered : (line rest : List ℕ) → Plain line → trimcard (line ++ 10 ∷ rest) ≡ line_answer published (parse line) ++ trimcard rest
each-line-is-answered = line_first published

-- and so is a last line without a newline, where it has a byte.
pub last-line-counts : (b : ℕ) (line : List ℕ) → Plain (b ∷ line) → trimcard (b ∷ line) ≡ line_answer published (parse (b ∷ line))
last-line-counts = line-last published

-- ════ The answer to a line
-- To five numbers: the number of the read of the published table, and what it leaves in six zeros,
pub readings-are-read : (alpha beta xi eta zeta : ℤ)
    → line_answer published (Some (alpha ∷ beta ∷ xi ∷ eta ∷ zeta ∷ []))
    ≡ (let state = alpha ∷ beta ∷ xi ∷ eta ∷ zeta ∷ [] in
    numbered (read_number cumulus published (readings state) zeros) (read_output cumulus published (readings state) zeros))
unfolding line_answer
readings-are-read alpha beta xi eta zeta = refl

-- which are six zeros on a refusal.
pub refused-line-has-zeros : (state : List ℤ) → 0 < read_number cumulus published (readings state) zeros → read_output cumulus published (readings state) zeros ≡ zeros
refused-line-has-zeros state = read_kept cumulus published (readings state) zeros refl

-- To a malformed line: 31 and six zeros.
pub malformed-line : line_answer published None ≡ ascii "31 0 0 0 0 0 0\n"
unfolding line_answer decimal
malformed-line = refl

-- An empty line is malformed.
pub empty-line : (rest : List ℕ) → trimcard (10 ∷ rest) ≡ ascii "31 0 0 0 0 0 0\n" ++ trimcard rest
unfolding program line_answer parse decimal
empty-line rest = refl

-- -0 and leading zeros are allowed.
pub zeros-in-front : parse (ascii "-0 00 -000 0007 -0012") ≡ Some (pos 0 ∷ pos 0 ∷ pos 0 ∷ pos 7 ∷ neg_ℤ (pos 12) ∷ [])
unfolding parse
zeros-in-front = refl

-- The whole output line of the requirement.
pub printed-line : trimcard (ascii "0 0 0 0 0\n")
    ≡ ascii "0 -2566000000000000 5402000000000000 -34750000000000000 4875000000000000 6214000000000000 4748000000000000\n"
printed-line = at_zero

-- ════ However the input is cut
-- However an input is cut into pieces, and whatever space is lent to each call, the calls together write what trimcard writes for it.
pub cuts-do-not-matter : (input bytes : List ℕ) → Run published fresh input bytes → bytes ≡ trimcard input
cuts-do-not-matter input bytes = run-writes-program published input bytes
