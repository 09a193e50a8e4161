-- Reaches in a list, as the code hands them on, in room for those of any model.
use Rattle.std.specs.Prelude.{List, ℕ, zero, suc, get_or}
use Rattle.polynomials.specs.Sum.{listed}
use Rattle.layout.specs.Numbers.{reaches_room}
use Rattle.layout.specs.Blocks.{Piece, low, high}

-- that of variable 0 in the low piece, then those of every variable in the high piece
abbrev pub reach_at : (Piece → ℕ → ℕ) → ℕ → ℕ
reach_at r zero = r low 0
reach_at r (suc i) = r high i

abbrev pub listed_reaches : (Piece → ℕ → ℕ) → List ℕ
listed_reaches r = listed reaches_room (reach_at r)

-- the reaches that such a list holds: beside variable 0 the pieces have the same
abbrev pub reaches_of : List ℕ → Piece → ℕ → ℕ
reaches_of l low zero = get_or l 0 0
reaches_of l low (suc i) = get_or l (suc (suc i)) 0
reaches_of l high i = get_or l (suc i) 0
