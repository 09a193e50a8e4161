-- What a line of readings is: five numbers parted by single spaces and nothing else, each an optional minus and one to four digits.
-- The bytes are those between two newlines; a newline is not among them.
use Rattle.std.specs.Prelude.{Bool, true, false, cond, ◌&&◌, List, [], ◌∷◌, map, ℕ, ◌+◌, ◌*◌, ◌-◌, leb, eqb, ℤ, pos, neg_ℤ, length, Option, Some, None}

-- ════ words: the parts of a line between its spaces, one more than there are spaces, an empty one where two spaces meet
abbrev pub onto : ℕ → List (List ℕ) → List (List ℕ)
onto b [] = (b ∷ []) ∷ []
onto b (w ∷ ws) = (b ∷ w) ∷ ws

abbrev pub before : ℕ → List (List ℕ) → List (List ℕ)
before b ws = cond (eqb b 32) ([] ∷ ws) (onto b ws)

abbrev pub words : List ℕ → List (List ℕ)
words [] = [] ∷ []
words (b ∷ bs) = before b (words bs)

-- ════ numbers
abbrev pub is_digit : ℕ → Bool
is_digit b = leb 48 b && leb b 57

abbrev pub all_digits : List ℕ → Bool
all_digits [] = true
all_digits (b ∷ bs) = is_digit b && all_digits bs

-- the value of digits that follow those of v
abbrev pub digits_value : ℕ → List ℕ → ℕ
digits_value v [] = v
digits_value v (b ∷ bs) = digits_value (v * 10 + (b - 48)) bs

abbrev pub signed : Bool → ℕ → ℤ
signed negative n = cond negative (neg_ℤ (pos n)) (pos n)

-- one to four digits and nothing else, behind the minus where there is one
abbrev pub unsigned : Bool → List ℕ → Option ℤ
unsigned negative bs =
    cond (all_digits bs && (leb 1 (length bs) && leb (length bs) 4)) (Some (signed negative (digits_value 0 bs))) None

abbrev pub number : List ℕ → Option ℤ
number [] = None
number (b ∷ bs) = cond (eqb b 45) (unsigned true bs) (unsigned false (b ∷ bs))

-- ════ the line
abbrev pub with : Option ℤ → Option (List ℤ) → Option (List ℤ)
with None xs = None
with (Some x) None = None
with (Some x) (Some xs) = Some (x ∷ xs)

-- all the numbers, where every word is one
abbrev pub all_numbers : List (Option ℤ) → Option (List ℤ)
all_numbers [] = Some []
all_numbers (x ∷ xs) = with x (all_numbers xs)

-- the five readings, where the line has five numbers
abbrev pub five : Option (List ℤ) → Option (List ℤ)
five None = None
five (Some xs) = cond (eqb (length xs) 5) (Some xs) None

unfoldable pub parse : List ℕ → Option (List ℤ)
parse bytes = five (all_numbers (map number (words bytes)))
