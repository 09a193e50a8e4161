-- A whole number in decimal: a minus where it is below 0, then its digits, the first of which is no 0; zero is the one digit 0.
use Rattle.std.specs.Prelude.{List, [], ◌∷◌, ◌++◌, ℕ, zero, suc, ◌+◌, ◌/◌, ◌%◌, ℤ, pos, negsuc, length, take, drop}

-- The digits of n: those of n / 10, and then the last. 0 has none here, so that none stands in front. The first argument only bounds how often this
-- is done: n itself is enough.
abbrev pub digits : ℕ → ℕ → List ℕ
digits zero n = []
digits (suc turns) zero = []
digits (suc turns) (suc n) = digits turns (suc n / 10) ++ (48 + suc n % 10) ∷ []

unfoldable pub decimal : ℕ → List ℕ
decimal zero = 48 ∷ []
decimal (suc n) = digits (suc n) (suc n)

-- negsuc n is -(n + 1)
abbrev pub spell : ℤ → List ℕ
spell (pos n) = decimal n
spell (negsuc n) = 45 ∷ decimal (suc n)

-- how many bytes a number of 64 bits takes at most: a minus and 19 digits, or 20 digits
abbrev pub longest_number : ℕ
longest_number = 20

-- an output that holds bytes from a place on, and is otherwise as it was
abbrev pub written : List ℕ → ℕ → List ℕ → List ℕ
written out at bytes = take at out ++ bytes ++ drop (at + length bytes) out
