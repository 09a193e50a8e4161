-- Facts that would fail if a definition said something else: lines read by hand, and what is no line.
use mathlib.Core.Path.{◌≡◌, refl}
use mathlib.Core.List.{List, [], ◌∷◌, ◌++◌, map}
use Prim.Native.Nat.{ℕ}
use lib.IntN.{ℤ, pos, neg_ℤ}
use lib.ListN.{replicate}
use Rattle.std.specs.Prelude.{Option, Some, None}
use Rattle.lines.specs.Line.{words, number, parse}

-- bytes by their letters: space, plus, minus, and the digits used below
abbrev ␣ : ℕ
␣ = 32

abbrev plus : ℕ
plus = 43

abbrev minus : ℕ
minus = 45

abbrev n0 : ℕ
n0 = 48

abbrev n1 : ℕ
n1 = 49

abbrev n2 : ℕ
n2 = 50

abbrev n3 : ℕ
n3 = 51

abbrev n4 : ℕ
n4 = 52

abbrev n5 : ℕ
n5 = 53

abbrev n7 : ℕ
n7 = 55

abbrev n9 : ℕ
n9 = 57

-- ` 0 0 0 0` behind a first word
abbrev zeros : List ℕ
zeros = ␣ ∷ n0 ∷ ␣ ∷ n0 ∷ ␣ ∷ n0 ∷ ␣ ∷ n0 ∷ []

abbrev zeroed : ℤ → Option (List ℤ)
zeroed x = Some (x ∷ pos 0 ∷ pos 0 ∷ pos 0 ∷ pos 0 ∷ [])

-- ════ words
words-read : map words ([] ∷ (␣ ∷ []) ∷ (n1 ∷ ␣ ∷ ␣ ∷ n2 ∷ n3 ∷ []) ∷ (␣ ∷ n1 ∷ ␣ ∷ []) ∷ [])
    ≡ ([] ∷ []) ∷ ([] ∷ [] ∷ []) ∷ ((n1 ∷ []) ∷ [] ∷ (n2 ∷ n3 ∷ []) ∷ []) ∷ ([] ∷ (n1 ∷ []) ∷ [] ∷ []) ∷ []
words-read = refl

-- ════ numbers: 0, -0, 0007, 9999, -9999, -1, 1234, 0000
numbers-read :
    map number ((n0 ∷ []) ∷ (minus ∷ n0 ∷ []) ∷ (n0 ∷ n0 ∷ n0 ∷ n7 ∷ []) ∷ (n9 ∷ n9 ∷ n9 ∷ n9 ∷ []) ∷ (minus ∷ n9 ∷ n9 ∷ n9 ∷ n9 ∷ []) ∷ (minus ∷ n1 ∷ []) ∷ (n1 ∷ n2 ∷ n3 ∷ n4 ∷ []) ∷ (n0 ∷ n0 ∷ n0 ∷ n0 ∷ []) ∷ [])
    ≡ Some (pos 0) ∷ Some (pos 0) ∷ Some (pos 7) ∷ Some (pos 9999) ∷ Some (neg_ℤ (pos 9999)) ∷ Some (neg_ℤ (pos 1)) ∷ Some (pos 1234) ∷ Some (pos 0) ∷ []
numbers-read = refl

-- nothing; -; --1; 1-; +1; 12345; -12345; 00000; 1a; the bytes before 0 and after 9
no-numbers :
    map number ([] ∷ (minus ∷ []) ∷ (minus ∷ minus ∷ n1 ∷ []) ∷ (n1 ∷ minus ∷ []) ∷ (plus ∷ n1 ∷ []) ∷ (n1 ∷ n2 ∷ n3 ∷ n4 ∷ n5 ∷ []) ∷ (minus ∷ n1 ∷ n2 ∷ n3 ∷ n4 ∷ n5 ∷ []) ∷ (n0 ∷ n0 ∷ n0 ∷ n0 ∷ n0 ∷ []) ∷ (n1 ∷ 97 ∷ []) ∷ (47 ∷ []) ∷ (58 ∷ []) ∷ [])
    ≡ replicate 11 None
no-numbers = refl

-- ════ lines
-- `0 0 0 0 0`
all-zero : parse (n0 ∷ zeros) ≡ zeroed (pos 0)
unfolding parse
all-zero = refl

-- `-0 0007 -12 999 -9999`
signs-and-zeros : parse (minus ∷ n0 ∷ ␣ ∷ n0 ∷ n0 ∷ n0 ∷ n7 ∷ ␣ ∷ minus ∷ n1 ∷ n2 ∷ ␣ ∷ n9 ∷ n9 ∷ n9 ∷ ␣ ∷ minus ∷ n9 ∷ n9 ∷ n9 ∷ n9 ∷ [])
    ≡ Some (pos 0 ∷ pos 7 ∷ neg_ℤ (pos 12) ∷ pos 999 ∷ neg_ℤ (pos 9999) ∷ [])
unfolding parse
signs-and-zeros = refl

-- `1 2 3 4 5`: each in its place
in_order_lem : parse (n1 ∷ ␣ ∷ n2 ∷ ␣ ∷ n3 ∷ ␣ ∷ n4 ∷ ␣ ∷ n5 ∷ []) ≡ Some (pos 1 ∷ pos 2 ∷ pos 3 ∷ pos 4 ∷ pos 5 ∷ [])
unfolding parse
in_order_lem = refl

-- the empty line; `1 2 3 4`; `1 2 3 4 5 `; ` 1 2 3 4 5`; `1  2 3 4 5`; `1 2 3 4 5 5`
no_lines :
    map parse ([] ∷ (n1 ∷ ␣ ∷ n2 ∷ ␣ ∷ n3 ∷ ␣ ∷ n4 ∷ []) ∷ (n1 ∷ ␣ ∷ n2 ∷ ␣ ∷ n3 ∷ ␣ ∷ n4 ∷ ␣ ∷ n5 ∷ ␣ ∷ []) ∷ (␣ ∷ n1 ∷ ␣ ∷ n2 ∷ ␣ ∷ n3 ∷ ␣ ∷ n4 ∷ ␣ ∷ n5 ∷ []) ∷ (n1 ∷ ␣ ∷ ␣ ∷ n2 ∷ ␣ ∷ n3 ∷ ␣ ∷ n4 ∷ ␣ ∷ n5 ∷ []) ∷ (n1 ∷ ␣ ∷ n2 ∷ ␣ ∷ n3 ∷ ␣ ∷ n4 ∷ ␣ ∷ n5 ∷ ␣ ∷ n5 ∷ []) ∷ [])
    ≡ replicate 6 None
unfolding parse
no_lines = refl

-- before ` 0 0 0 0`: `12345`, `-`, `--1`, `+1`, a tab, `1` and a tab, a carriage return, a newline
no-lines-zeros :
    map (λ w. parse (w ++ zeros)) ((n1 ∷ n2 ∷ n3 ∷ n4 ∷ n5 ∷ []) ∷ (minus ∷ []) ∷ (minus ∷ minus ∷ n1 ∷ []) ∷ (plus ∷ n1 ∷ []) ∷ (9 ∷ []) ∷ (n1 ∷ 9 ∷ []) ∷ (13 ∷ []) ∷ (10 ∷ []) ∷ [])
    ≡ replicate 8 None
unfolding parse
no-lines-zeros = refl

-- `0 0 0 0 0` and a carriage return
returned : parse (n0 ∷ zeros ++ 13 ∷ []) ≡ None
unfolding parse
returned = refl
