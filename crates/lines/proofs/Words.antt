-- One word, byte by byte: what the bytes that are left make of a word that has a sign, k digits and their value v.
--   rest                          the number of the word, where the bytes end it well
--   rest-digit, rest-minus        a byte that the word takes
--   rest-full, rest-late, rest-other   a byte that it does not take
--   rest_end                      no byte more
use mathlib.Core.Path.{◌≡◌, refl, sym, ap, ◌∙◌}
use mathlib.Core.Bool.{Bool, true, false, cond, ◌&&◌}
use mathlib.Core.List.{List, [], ◌∷◌}
use Prim.Native.Nat.{ℕ, zero, suc, ◌+◌, ◌*◌, ◌-◌, ◌^◌, ◌<◌, ◌≤◌}
use native.Mathlib.Nat.{zero-add}
use native.Mathlib.Omega.{arith}
use borrow.Author.Tests.{le-leb, lt-leb, eqb-true}
use lib.Dec.{leb, eqb}
use lib.IntN.{ℤ}
use lib.ListN.{length}
use Rattle.std.specs.Prelude.{Option, Some, None}
use Rattle.lines.specs.Line.{is_digit, all_digits, digits_value, signed, unsigned, number}

-- n digits in all, of which those to come are good
abbrev counted : Bool → ℕ → Bool
counted good n = good && (leb 1 n && leb n 4)

-- behind a sign and k digits
abbrev more : Bool → ℕ → ℕ → List ℕ → Option ℤ
more negative k v bs = cond (counted (all_digits bs) (k + length bs)) (Some (signed negative (digits_value v bs))) None

-- a minus is taken where the word is empty
abbrev pub rest : Bool → ℕ → ℕ → List ℕ → Option ℤ
rest false zero v bs = number bs
rest false (suc k) v bs = more false (suc k) v bs
rest true k v bs = more true k v bs

-- ════ behind a sign and digits
and-false : (b : Bool) → b && false ≡ false
and-false true = refl
and-false false = refl

more-digit : (negative : Bool) (k v b : ℕ) (bs : List ℕ) → is_digit b ≡ true → more negative k v (b ∷ bs) ≡ more negative (k + 1) (v * 10 + (b - 48)) bs
more-digit negative k v b bs e =
    let n : k + suc (length bs) ≡ k + 1 + length bs = omega arith in
    ap (λ t. cond (counted (t && all_digits bs) (k + suc (length bs))) (Some (signed negative (digits_value v (b ∷ bs)))) None) e
    ∙ ap (λ n. cond (counted (all_digits bs) n) (Some (signed negative (digits_value v (b ∷ bs)))) None) n

more-full : (negative : Bool) (k v b : ℕ) (bs : List ℕ) → 4 ≤ k → more negative k v (b ∷ bs) ≡ None
more-full negative k v b bs h =
    let past : leb (k + suc (length bs)) 4 ≡ false = lt-leb (k + suc (length bs)) 4 (omega arith) in
    ap (λ t. cond (all_digits (b ∷ bs) && (leb 1 (k + suc (length bs)) && t)) (Some (signed negative (digits_value v (b ∷ bs)))) None) past
    ∙ ap (λ t. cond (all_digits (b ∷ bs) && t) (Some (signed negative (digits_value v (b ∷ bs)))) None) (and-false (leb 1 (k + suc (length bs))))
    ∙ ap (λ t. cond t (Some (signed negative (digits_value v (b ∷ bs)))) None) (and-false (all_digits (b ∷ bs)))

more-other : (negative : Bool) (k v b : ℕ) (bs : List ℕ) → is_digit b ≡ false → more negative k v (b ∷ bs) ≡ None
more-other negative k v b bs e =
    ap (λ t. cond (counted (t && all_digits bs) (k + suc (length bs))) (Some (signed negative (digits_value v (b ∷ bs)))) None) e

more-end : (negative : Bool) (k v : ℕ) → 0 < k → k ≤ 4 → more negative k v [] ≡ Some (signed negative v)
more-end negative k v h l =
    let low : leb 1 (k + 0) ≡ true = le-leb 1 (k + 0) (omega arith) in
    let high : leb (k + 0) 4 ≡ true = le-leb (k + 0) 4 (omega arith) in
    ap (λ t. cond (t && leb (k + 0) 4) (Some (signed negative v)) None) low ∙ ap (λ t. cond t (Some (signed negative v)) None) high

-- ════ a word as the paper has it
from-none : (negative : Bool) (bs : List ℕ) → unsigned negative bs ≡ more negative 0 0 bs
from-none negative bs =
    ap (λ n. cond (counted (all_digits bs) n) (Some (signed negative (digits_value 0 bs))) None) (sym (zero-add (length bs)))

number-minus : (b : ℕ) (bs : List ℕ) → eqb b 45 ≡ true → number (b ∷ bs) ≡ more true 0 0 bs
number-minus b bs e = ap (λ t. cond t (unsigned true bs) (unsigned false (b ∷ bs))) e ∙ from-none true bs

number-other : (b : ℕ) (bs : List ℕ) → eqb b 45 ≡ false → number (b ∷ bs) ≡ more false 0 0 (b ∷ bs)
number-other b bs e = ap (λ t. cond t (unsigned true bs) (unsigned false (b ∷ bs))) e ∙ from-none false (b ∷ bs)

-- ════ the rest of a word
no_value : {v : ℕ} → v < 10 ^ 0 → 0 ≡ v
no_value h = omega arith

rest_plain : (negative : Bool) (k v b : ℕ) (bs : List ℕ) → v < 10 ^ k → eqb b 45 ≡ false → rest negative k v (b ∷ bs) ≡ more negative k v (b ∷ bs)
rest_plain false zero v b bs h e = number-other b bs e ∙ ap (λ u. more false 0 u (b ∷ bs)) (no_value h)
rest_plain false (suc k) v b bs h e = refl
rest_plain true k v b bs h e = refl

rest-begun : (negative : Bool) (k v : ℕ) (bs : List ℕ) → 0 < k → rest negative k v bs ≡ more negative k v bs
rest-begun false zero v bs h = absurd (omega arith)
rest-begun false (suc k) v bs h = refl
rest-begun true k v bs h = refl

module _ (negative : Bool) (k v b : ℕ) (bs : List ℕ) where
  pub rest-digit : v < 10 ^ k → eqb b 45 ≡ false → is_digit b ≡ true → rest negative k v (b ∷ bs) ≡ rest negative (k + 1) (v * 10 + (b - 48)) bs
  rest-digit h e d =
      rest_plain negative k v b bs h e
      ∙ more-digit negative k v b bs d
      ∙ sym (rest-begun negative (k + 1) (v * 10 + (b - 48)) bs (omega arith))

  pub rest-full : v < 10 ^ k → eqb b 45 ≡ false → 4 ≤ k → rest negative k v (b ∷ bs) ≡ None
  rest-full h e l = rest_plain negative k v b bs h e ∙ more-full negative k v b bs l

  pub rest-other : v < 10 ^ k → eqb b 45 ≡ false → is_digit b ≡ false → rest negative k v (b ∷ bs) ≡ None
  rest-other h e d = rest_plain negative k v b bs h e ∙ more-other negative k v b bs d

pub rest-minus : (v b : ℕ) (bs : List ℕ) → v < 10 ^ 0 → eqb b 45 ≡ true → rest false 0 v (b ∷ bs) ≡ rest true 0 v bs
rest-minus v b bs h e = number-minus b bs e ∙ ap (λ u. more true 0 u bs) (no_value h)

-- a minus behind a minus, or behind a digit
no_digit : (b : ℕ) → eqb b 45 ≡ true → is_digit b ≡ false
no_digit b e = ap is_digit (eqb-true b 45 e)

pub rest-twice : (k v b : ℕ) (bs : List ℕ) → eqb b 45 ≡ true → rest true k v (b ∷ bs) ≡ None
rest-twice k v b bs e = more-other true k v b bs (no_digit b e)

pub rest-late : (negative : Bool) (k v b : ℕ) (bs : List ℕ) → 0 < k → eqb b 45 ≡ true → rest negative k v (b ∷ bs) ≡ None
rest-late negative k v b bs h e =
    rest-begun negative k v (b ∷ bs) h ∙ more-other negative k v b bs (no_digit b e)

pub rest-empty : (negative : Bool) (v : ℕ) → rest negative 0 v [] ≡ None
rest-empty true v = refl
rest-empty false v = refl

pub rest_end : (negative : Bool) (k v : ℕ) → 0 < k → k ≤ 4 → rest negative k v [] ≡ Some (signed negative v)
rest_end negative k v h l = rest-begun negative k v [] h ∙ more-end negative k v h l
