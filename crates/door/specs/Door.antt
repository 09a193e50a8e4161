-- What a table answers at a float reading of each variable.
use Rattle.std.specs.Prelude.{Bool, not, cond, ◌&&◌, List, ◌∷◌, ◌++◌, ℕ, ◌-◌, eqb, leb, ltb, ℤ, length, get_or, Float, Result}
use Rattle.std.specs.Float.{nan}
use Rattle.polynomials.specs.Sum.{listed}
use Rattle.polynomials.specs.Groups.{total}
use Rattle.layout.specs.Shape.{Shape, table_length, cumulus}
use Rattle.layout.specs.Limits.{lowest, highest, fine_cut, good}
use Rattle.layout.specs.Blocks.{Piece, low, high, coefficient}
use Rattle.layout.specs.Sound.{light}
use Rattle.layout.specs.Refusals.{Refusal, ◌when◌, first, unless_refused, wrong_table, bad_limits, too_heavy, outside}
use Rattle.rounding.specs.Reading.{whole_of, step_of}
use Rattle.rounding.specs.Answer.{float_of}
use Rattle.rounding.specs.declared.Unread.{Unread}
use Rattle.thousandths.specs.Thousandths.{at_most_thousandths}
use Rattle.door.specs.Steps.{positive_zero, number_of, handed_back, is_not_finite, is_outside}
use Rattle.door.specs.declared.Answer.{Answer}

-- the float reading of each variable
abbrev pub floats : List Float → ℕ → Float
floats x i = get_or x i nan

-- each rounded to the nearest whole number, a half away from zero
abbrev pub rounded_all : (ℕ → Float) → ℕ → ℤ
rounded_all x i = whole_of (x i)

-- the step of each, within the limits of its variable
abbrev pub step_at : Shape → List ℤ → (ℕ → Float) → ℕ → Result ℤ Unread
step_at S t x i = step_of (x i) (lowest S t i) (highest S t i)

-- the refusals of the first n steps: of those that are not finite, and of those that are outside
abbrev pub not_finites : Shape → ℕ → (ℕ → Result ℤ Unread) → List Refusal
not_finites S n s = listed n (λ i. number_of S i (s i) when is_not_finite (s i))

abbrev pub outsides : Shape → ℕ → (ℕ → Result ℤ Unread) → List Refusal
outsides S n s = listed n (λ i. number_of S i (s i) when is_outside (s i))

-- the number that the steps give: over all of them one that is not finite comes first
abbrev pub steps_number : Shape → (ℕ → Result ℤ Unread) → ℕ
steps_number S s = first (not_finites S S.variables s ++ outsides S S.variables s)

-- what may be refused, in order
abbrev pub door_refusals : Shape → List ℤ → (ℕ → Float) → List Refusal
door_refusals S t x =
    (wrong_table when not (eqb (length t) (table_length S)))
    ∷ (bad_limits when not (good S t))
    ∷ (too_heavy when not (light S t))
    ∷ (not_finites S S.variables (step_at S t x) ++ outsides S S.variables (step_at S t x))

-- the number given back
unfoldable pub door_number : Shape → List ℤ → (ℕ → Float) → ℕ
door_number S t x = first (door_refusals S t x)

-- n is the number of a reading outside its limits, in a table whose variables are named one after another
abbrev pub for_outside : Shape → ℕ → Bool
for_outside S n = leb (outside S 0) n && ltb n (outside S S.variables)

-- the reading handed back: that of the variable which the number n names as outside, and positive zero with any other number
abbrev pub reading_for : Shape → (ℕ → Result ℤ Unread) → ℕ → Float
reading_for S s n = cond (for_outside S n) (handed_back (s (n - outside S 0))) positive_zero

unfoldable pub door_reading : Shape → List ℤ → (ℕ → Float) → Float
door_reading S t x = reading_for S (step_at S t x) (door_number S t x)

-- the piece is that of the reading as given: the low one holds up to the fine cut, which is in thousandths
abbrev pub true_piece : Shape → List ℤ → Float → Piece
true_piece S t x = cond (at_most_thousandths x (fine_cut S t)) low high

-- the float of block b: that piece's answer at the rounded readings; positive zero on a refusal
abbrev pub float_at : Shape → List ℤ → Piece → (ℕ → ℤ) → ℕ → Float
float_at S t p w b = float_of (total (coefficient S t b p) w)

unfoldable pub door_value : Shape → List ℤ → (ℕ → Float) → ℕ → Float
door_value S t x b = unless_refused (door_number S t x) (float_at S t (true_piece S t (x 0)) (rounded_all x) b) positive_zero

-- number, reading and the six floats of X, Y, Z, l, m and n
abbrev pub answer_with : ℕ → Float → (ℕ → Float) → Answer
answer_with n back f = record { number = n; reading = back; x = f 0; y = f 1; z = f 2; l = f 3; m = f 4; n = f 5 }

abbrev pub door_answer : List ℤ → (ℕ → Float) → Answer
door_answer t x = answer_with (door_number cumulus t x) (door_reading cumulus t x) (door_value cumulus t x)

-- a refusal
abbrev pub refused_with : ℕ → Float → Answer
refused_with n back = answer_with n back (λ b. positive_zero)
