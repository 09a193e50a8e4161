-- What the reading of a line knows after each byte. That it ends in what `Line` says of the whole line is shown in `proofs/Parsed`.
use Rattle.std.specs.Prelude.{cond, not, List, [], ◌∷◌, Option, Some, None, ℕ, ◌+◌, ◌*◌, ◌-◌, ◌%◌, leb, ltb, eqb, ℤ, pos}
use Rattle.lines.specs.Line.{is_digit, signed}
use Rattle.lines.specs.declared.State.{State}

-- ════ the digits of a word in one number: k digits of the value v are 65536 * 10 ^ k + v
abbrev pub no_digit : ℕ
no_digit = 65536

abbrev pub one_digit : ℕ
one_digit = 10 * no_digit

abbrev pub four_digits : ℕ
four_digits = 10000 * no_digit

abbrev pub number_of : ℕ → ℕ → ℤ
number_of minus digits = signed (ltb 0 minus) (digits % no_digit)

-- ════ one byte
abbrev pub start : State
start = record { words = 0; minus = 0; digits = no_digit; alpha = pos 0; beta = pos 0; xi = pos 0; eta = pos 0 }

-- five words that have ended are one too many, whatever follows
abbrev pub refused : State → State
refused s =
    record { words = 5; minus = s.minus; digits = s.digits; alpha = s.alpha; beta = s.beta; xi = s.xi; eta = s.eta }

-- the word that a space ends is a number, and the numbers move up
abbrev pub shifted : State → State
shifted s =
    record { words = s.words + 1; minus = 0; digits = no_digit; alpha = s.beta; beta = s.xi; xi = s.eta; eta = number_of s.minus s.digits }

abbrev pub ended : State → State
ended s = cond (ltb s.digits one_digit) (refused s) (cond (leb 4 s.words) (refused s) (shifted s))

abbrev pub negated : State → State
negated s =
    record { words = s.words; minus = 1; digits = s.digits; alpha = s.alpha; beta = s.beta; xi = s.xi; eta = s.eta }

abbrev pub minus : State → State
minus s = cond (ltb 0 s.minus) (refused s) (cond (leb one_digit s.digits) (refused s) (negated s))

abbrev pub with_digit : State → ℕ → State
with_digit s d =
    record { words = s.words; minus = s.minus; digits = s.digits * 10 + d; alpha = s.alpha; beta = s.beta; xi = s.xi; eta = s.eta }

abbrev pub digit : State → ℕ → State
digit s d = cond (leb four_digits s.digits) (refused s) (with_digit s d)

abbrev pub stepped : State → ℕ → State
stepped s b =
    cond (is_digit b) (digit s (b - 48)) (cond (eqb b 32) (ended s) (cond (eqb b 45) (minus s) (refused s)))

-- ════ all of them
abbrev pub stepped_by : State → List ℕ → State
stepped_by s [] = s
stepped_by s (b ∷ bs) = stepped_by (stepped s b) bs

abbrev pub finished : State → Option (List ℤ)
finished s =
    cond (not (eqb s.words 4)) None
    (cond (ltb s.digits one_digit) None (Some (s.alpha ∷ s.beta ∷ s.xi ∷ s.eta ∷ number_of s.minus s.digits ∷ [])))
