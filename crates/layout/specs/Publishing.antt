-- What publishing a table answers and leaves.
use Rattle.std.specs.Prelude.{not, List, [], ◌∷◌, ℕ, eqb, ℤ, length}
use Rattle.layout.specs.Refusals.{Refusal, ◌when◌, first, unless_refused, wrong_output}

-- what may be refused of the table t, with an output of n numbers
abbrev pub publish_refusals : List ℤ → ℕ → List Refusal
publish_refusals t n = (wrong_output when not (eqb n (length t))) ∷ []

-- the number given back, and the output afterwards
unfoldable pub publish_number : List ℤ → List ℤ → ℕ
publish_number t out = first (publish_refusals t (length out))

unfoldable pub publish_output : List ℤ → List ℤ → List ℤ
publish_output t out = unless_refused (publish_number t out) t out
