-- The groups of the published table as the code holds them, one by one and in units of 10⁻⁹.
use Rattle.std.specs.Prelude.{List, ℕ, ◌/◌, ◌%◌, ℤ, pos, ◌*ℤ◌, length, get_or}
use Rattle.polynomials.specs.Order.{size}
use Rattle.polynomials.specs.Sum.{listed}
use Rattle.polynomials.specs.Limits.{highest_degree}
use Rattle.layout.specs.declared.Kind.{Kind}
use Rattle.layout.specs.Shape.{cumulus, kind_at}
use Rattle.printed.specs.Notation.{Polynomial, none}
use Rattle.cumulus_page.specs.Model.{Coefficient, coefficient_at, parts}
use Rattle.printed.specs.Stored.{printed_at}
use Rattle.microradians.specs.Fixed.{per_printed}

-- the groups of a block by their numbers: low and high in α and η, then in β and ξ and in β and ζ
abbrev pub group_count : ℕ
group_count = length cumulus.kinds

abbrev pub part_at : Coefficient → ℕ → Polynomial
part_at C i = get_or (parts C) i none

-- the numbers of a group, with room for the highest degree
abbrev pub fine_numbers : Kind → Polynomial → List ℤ
fine_numbers k f = listed (size highest_degree) (λ i. printed_at cumulus k f i *ℤ pos per_printed)

-- of all groups, counted through the blocks, the n-th
abbrev pub fine_group : ℕ → List ℤ
fine_group n = fine_numbers (kind_at cumulus (n % group_count)) (part_at (coefficient_at (n / group_count)) (n % group_count))
