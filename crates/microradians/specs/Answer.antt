-- The published table at five readings in microradians: six answers in units of 10⁻⁹.
use Rattle.std.specs.Prelude.{not, List, ◌∷◌, map, ℕ, eqb, ℤ, pos, ◌*ℤ◌, length, set}
use Rattle.polynomials.specs.Sum.{listed}
use Rattle.layout.specs.Shape.{cut_place, cumulus}
use Rattle.layout.specs.Blocks.{Piece}
use Rattle.layout.specs.Refusals.{Refusal, ◌when◌, first, unless_refused, wrong_output, outside}
use Rattle.layout.specs.Reading.{inside, piece_at}
use Rattle.cumulus_page.specs.Model.{Coefficient, coefficients, microradians, parts}
use Rattle.printed.specs.Values.{together}
use Rattle.printed.specs.Stored.{by_kind}
use Rattle.cumulus_page.specs.Published.{published_limits}
use Rattle.microradians.specs.Fixed.{in_fixed_point}

-- a coefficient in a piece: of its polynomials in α and η that of the piece, and those in β and ξ and in β and ζ
abbrev pub answer_in : Piece → Coefficient → (ℕ → ℤ) → ℤ
answer_in p C x = together p 0 (by_kind (in_fixed_point x) cumulus.kinds (parts C))

-- the envelope times 1000, as a table has its limits, with the last microradian of the low piece
abbrev pub fine_limits : List ℤ
fine_limits = set (map (λ z. pos 1000 *ℤ z) published_limits) (cut_place cumulus) (pos microradians.cut)

abbrev pub fine_answers : (ℕ → ℤ) → List ℤ
fine_answers x = map (λ C. answer_in (piece_at cumulus fine_limits x) C x) coefficients

-- what may be refused, in order, with an output of n numbers
abbrev pub fine_refusals : (ℕ → ℤ) → ℕ → List Refusal
fine_refusals x n = (wrong_output when not (eqb n cumulus.blocks)) ∷ listed cumulus.variables (λ i. outside cumulus i when not (inside cumulus fine_limits x i))

-- the number given back, and the output afterwards
unfoldable pub fine_number : (ℕ → ℤ) → List ℤ → ℕ
fine_number x out = first (fine_refusals x (length out))

unfoldable pub fine_output : (ℕ → ℤ) → List ℤ → List ℤ
fine_output x out = unless_refused (fine_number x out) (fine_answers x) out
