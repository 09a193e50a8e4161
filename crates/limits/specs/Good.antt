-- The limits of a variable, by its two ends: where these are in range and in order, what lies between them is in range too.
use Rattle.std.specs.Prelude.{Bool, ◌&&◌, List, ℕ, suc, ◌-◌, ℤ}
use Rattle.std.specs.Int.Signed.{le_z, lt_z}
use Rattle.layout.specs.Shape.{Shape}
use Rattle.layout.specs.Limits.{every, lowest, highest, cut, near, in_order}

-- the lowest and the highest of variable i are in range and in order
abbrev pub variable_good : Shape → List ℤ → ℕ → Bool
variable_good S t i = near (lowest S t i) && in_order S t i && near (highest S t i)

-- those of variable 0 are, with its cut between them: not below the lowest, and below the highest
abbrev pub first_good : Shape → List ℤ → Bool
first_good S t = near (lowest S t 0) && (le_z (lowest S t 0) (cut S t) && lt_z (cut S t) (highest S t 0)) && near (highest S t 0)

-- those of each other variable are
abbrev pub others_good : Shape → List ℤ → Bool
others_good S t = every (S.variables - 1) (λ i. variable_good S t (suc i))
