-- What the step of one reading gives, case by case, and what a refusal gives.
use Rattle.std.specs.Prelude.{Bool, true, false, List, ℕ, ◌+◌, ◌<◌, ℤ, pos, get_or, Float, Result, Ok, Err}
use Rattle.std.specs.Float.{fin}
use Rattle.layout.specs.Shape.{Shape, cumulus}
use Rattle.layout.specs.Refusals.{done, outside, not_finite_number, refusal_number}
use Rattle.rounding.specs.declared.Unread.{Unread}
use Rattle.rounding.specs.declared.Unread.TheVariants.{NotFinite, Outside}
use Rattle.door.specs.declared.Unanswered.{Unanswered}
use Rattle.door.specs.declared.Unanswered.TheVariants.{Table, Reading}

-- the float of variable i is not finite: 21 for alpha, 22 for beta, 23 for xi, 24 for eta and 25 for zeta
abbrev pub not_finite : Shape → ℕ → ℕ
not_finite S i = not_finite_number (S.name i)

abbrev pub positive_zero : Float
positive_zero = fin false 0 (pos 0)

-- the number that the step of variable i gives
abbrev pub number_of : Shape → ℕ → Result ℤ Unread → ℕ
number_of S i (Ok z) = done
number_of S i (Err NotFinite) = not_finite S i
number_of S i (Err (Outside x)) = outside S i

-- the float that it hands back
abbrev pub handed_back : Result ℤ Unread → Float
handed_back (Ok z) = positive_zero
handed_back (Err NotFinite) = positive_zero
handed_back (Err (Outside x)) = x

-- the whole reading, which only the first case has; 0 stands in the other two, and no answer rests on it
abbrev pub whole_in : Result ℤ Unread → ℤ
whole_in (Ok z) = z
whole_in (Err NotFinite) = pos 0
whole_in (Err (Outside x)) = pos 0

abbrev pub is_not_finite : Result ℤ Unread → Bool
is_not_finite (Ok z) = false
is_not_finite (Err NotFinite) = true
is_not_finite (Err (Outside x)) = false

abbrev pub is_outside : Result ℤ Unread → Bool
is_outside (Ok z) = false
is_outside (Err NotFinite) = false
is_outside (Err (Outside x)) = true

-- steps that are held in a list
abbrev pub steps_of : List (Result ℤ Unread) → ℕ → Result ℤ Unread
steps_of l i = get_or l i (Ok (pos 0))

-- the number that a refusal gives, and the float that it hands back
abbrev pub number_given : Unanswered → ℕ
number_given (Table r) = refusal_number r
number_given (Reading i why) = number_of cumulus i (Err why)

abbrev pub back_given : Unanswered → Float
back_given (Table r) = positive_zero
back_given (Reading i why) = handed_back (Err why)

-- a variable that it names is one of the state's
abbrev pub Refuses : Unanswered → Type 0
Refuses (Table r) = Unit {0}
Refuses (Reading i why) = i < cumulus.variables
