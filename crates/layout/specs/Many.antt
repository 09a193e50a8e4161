-- What a table answers at many states, which stand one behind the other: at each what a read answers.
use Rattle.std.specs.Prelude.{not, ◌&&◌, List, [], ◌∷◌, ℕ, ◌*◌, eqb, ℤ, pos, length, take, drop}
use Rattle.polynomials.specs.Sum.{listed}
use Rattle.layout.specs.Shape.{Shape, table_length}
use Rattle.layout.specs.Limits.{good}
use Rattle.layout.specs.Sound.{light}
use Rattle.layout.specs.Refusals.{Refusal, ◌when◌, first, unless_refused, wrong_table, wrong_output, bad_limits, too_heavy}
use Rattle.layout.specs.Reading.{readings, read_number, read_output}
use Rattle.layout.specs.Moving.{joined}

-- state k
abbrev pub state_at : Shape → List ℤ → ℕ → List ℤ
state_at S states k = take S.variables (drop (S.variables * k) states)

-- it is read into zeros, which a refusal of the state leaves
abbrev pub zeros : Shape → List ℤ
zeros S = listed S.blocks (λ b. pos 0)

-- the number that the read of state k gives, and its output
abbrev pub number_at : Shape → List ℤ → List ℤ → ℕ → ℕ
number_at S t states k = read_number S t (readings (state_at S states k)) (zeros S)

abbrev pub output_at : Shape → List ℤ → List ℤ → ℕ → List ℤ
output_at S t states k = read_output S t (readings (state_at S states k)) (zeros S)

-- what may be refused, in order, of m numbers for the states, room for the numbers of n states and an output of o numbers
abbrev pub many_refusals : Shape → List ℤ → ℕ → ℕ → ℕ → List Refusal
many_refusals S t m n o =
    (wrong_table when not (eqb (length t) (table_length S)))
    ∷ (wrong_output when not (eqb m (S.variables * n) && eqb o (S.blocks * n)))
    ∷ (bad_limits when not (good S t))
    ∷ (too_heavy when not (light S t))
    ∷ []

-- the number given back, the numbers of the states afterwards, and the output
unfoldable pub many_number : Shape → List ℤ → List ℤ → List ℕ → List ℤ → ℕ
many_number S t states numbers out = first (many_refusals S t (length states) (length numbers) (length out))

unfoldable pub many_numbers : Shape → List ℤ → List ℤ → List ℕ → List ℤ → List ℕ
many_numbers S t states numbers out = unless_refused (many_number S t states numbers out) (listed (length numbers) (number_at S t states)) numbers

unfoldable pub many_output : Shape → List ℤ → List ℤ → List ℕ → List ℤ → List ℤ
many_output S t states numbers out = unless_refused (many_number S t states numbers out) (joined (length numbers) (output_at S t states)) out
