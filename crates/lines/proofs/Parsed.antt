-- The bytes of a line, taken one by one, end in what `Line` says of the whole line.
--   parsed  of every list of bytes
use mathlib.Core.Path.{◌≡◌, refl, sym, ap, ap₂, subst, ◌∙◌}
use mathlib.Core.Bool.{Bool, true, false, cond, not, ◌&&◌}
use mathlib.Core.List.{List, [], ◌∷◌, ◌++◌, map, append_assoc}
use Prim.Native.Nat.{ℕ, zero, suc, ◌+◌, ◌*◌, ◌-◌, ◌^◌, ◌<◌, ◌≤◌}
use native.Mathlib.Omega.{arith}
use borrow.Author.Tests.{eqb-true, eqb-false, leb-true, leb-false, ltb-true, ltb-false, ne_eqb}
use lib.Dec.{T, leb, ltb, eqb}
use lib.IntN.{ℤ}
use lib.ListN.{length, drop}
use Rattle.std.specs.Prelude.{Option, Some, None}
use Rattle.lines.specs.declared.State.{State}
use Rattle.lines.specs.Line.{onto, words, is_digit, signed, number, with, all_numbers, five, parse}
use Rattle.lines.specs.State.{one_digit, four_digits, number_of, start, refused, shifted, ended, negated, minus, with_digit, digit, stepped, stepped_by, finished}
use Rattle.lines.proofs.Digits.{Digits, none_yet, has-digit, full, room, value, empty, more}
use Rattle.lines.proofs.Words.{rest, rest-digit, rest-full, rest-other, rest-minus, rest-twice, rest-late, rest-empty, rest_end}

-- ════ the words: the first goes on with the bytes before it
first : List (List ℕ) → List ℕ
first [] = []
first (w ∷ ws) = w

others : List (List ℕ) → List (List ℕ)
others [] = []
others (w ∷ ws) = ws

first-onto : (b : ℕ) (ws : List (List ℕ)) → first (onto b ws) ≡ b ∷ first ws
unfolding first
first-onto b [] = refl
first-onto b (w ∷ ws) = refl

others-onto : (b : ℕ) (ws : List (List ℕ)) → others (onto b ws) ≡ others ws
unfolding others
others-onto b [] = refl
others-onto b (w ∷ ws) = refl

-- a line has a word, be it empty
has_first : (bs : List ℕ) → words bs ≡ first (words bs) ∷ others (words bs)
unfolding first others
has_first [] = refl
has_first (b ∷ bs) = by (eqb b 32) (words bs) where
  by : (t : Bool) (ws : List (List ℕ))
      → cond t ([] ∷ ws) (onto b ws) ≡ first (cond t ([] ∷ ws) (onto b ws)) ∷ others (cond t ([] ∷ ws) (onto b ws))
  by true ws = refl
  by false [] = refl
  by false (w ∷ ws) = refl

-- ════ the numbers: those that are held, and those to come
joined : List ℤ → Option (List ℤ) → Option (List ℤ)
joined xs None = None
joined xs (Some ys) = Some (xs ++ ys)

-- the line, with the numbers of the words that have ended, that of the next, and the words behind it
line : List ℤ → Option ℤ → List (List ℕ) → Option (List ℤ)
line xs x ws = five (joined xs (with x (all_numbers (map number ws))))

line-none : (xs : List ℤ) (ws : List (List ℕ)) → line xs None ws ≡ None
unfolding line joined
line-none xs ws = refl

joined-more : (xs : List ℤ) (x : ℤ) (r : Option (List ℤ)) → joined xs (with (Some x) r) ≡ joined (xs ++ x ∷ []) r
unfolding joined
joined-more xs x None = refl
joined-more xs x (Some ys) = ap Some (sym (append_assoc xs (x ∷ []) ys))

line-more : (xs : List ℤ) (x : ℤ) (w : List ℕ) (ws : List (List ℕ)) → line xs (Some x) (w ∷ ws) ≡ line (xs ++ x ∷ []) (number w) ws
unfolding line
line-more xs x w ws = ap five (joined-more xs x (all_numbers (map number (w ∷ ws))))

-- six words are too many
six : (a b c d e f : ℤ) (xs : List ℤ) → five (Some (a ∷ b ∷ c ∷ d ∷ e ∷ f ∷ xs)) ≡ None
six a b c d e f xs =
    ap (λ t. cond t (Some (a ∷ b ∷ c ∷ d ∷ e ∷ f ∷ xs)) None) (ne_eqb (length (a ∷ b ∷ c ∷ d ∷ e ∷ f ∷ xs)) 5 (λ h. omega arith))

line-six : (a b c d x : ℤ) (w : List ℕ) (ws : List (List ℕ)) → line (a ∷ b ∷ c ∷ d ∷ []) (Some x) (w ∷ ws) ≡ None
unfolding line joined
line-six a b c d x w ws = by (number w) (all_numbers (map number ws)) where
  by : (y : Option ℤ) (r : Option (List ℤ)) → five (joined (a ∷ b ∷ c ∷ d ∷ []) (with (Some x) (with y r))) ≡ None
  by None r = refl
  by (Some y) None = refl
  by (Some y) (Some ys) = six a b c d x y ys

-- ════ what a state holds
held : ℕ → ℤ → ℤ → ℤ → ℤ → List ℤ
held words alpha beta xi eta = drop (4 - words) (alpha ∷ beta ∷ xi ∷ eta ∷ [])

held_more : (words : ℕ) (a b c d x : ℤ) → words < 4 → held (words + 1) b c d x ≡ held words a b c d ++ x ∷ []
unfolding held
held_more zero a b c d x h = refl
held_more (suc zero) a b c d x h = refl
held_more (suc (suc zero)) a b c d x h = refl
held_more (suc (suc (suc zero))) a b c d x h = refl
held_more (suc (suc (suc (suc n)))) a b c d x h = absurd (omega arith)

-- fewer words than five, and none to come
line-few : (words : ℕ) (a b c d : ℤ) (x : Option ℤ) → words < 4 → line (held words a b c d) x [] ≡ None
unfolding line held joined
line-few words a b c d None h = refl
line-few zero a b c d (Some x) h = refl
line-few (suc zero) a b c d (Some x) h = refl
line-few (suc (suc zero)) a b c d (Some x) h = refl
line-few (suc (suc (suc zero))) a b c d (Some x) h = refl
line-few (suc (suc (suc (suc n)))) a b c d (Some x) h = absurd (omega arith)

-- what the bytes of a line leave a state in, where they may be the start of a good line: k digits of the value v in the word that has not ended
record Good (s : State) (k v : ℕ) : Type 0 where
  words-few : s.words ≤ 4
  digits : Digits s.digits k v

abbrev negative : State → Bool
negative s = ltb 0 s.minus

-- the line that a state and the bytes to come make
line_from : State → ℕ → ℕ → List ℕ → List (List ℕ) → Option (List ℤ)
line_from s k v w ws = line (held s.words s.alpha s.beta s.xi s.eta) (rest (negative s) k v w) ws

spoilt : (s : State) (k v : ℕ) (w : List ℕ) (ws : List (List ℕ)) → rest (negative s) k v w ≡ None → line_from s k v w ws ≡ None
unfolding line_from
spoilt s k v w ws e =
    ap (λ x. line (held s.words s.alpha s.beta s.xi s.eta) x ws) e
    ∙ line-none (held s.words s.alpha s.beta s.xi s.eta) ws

-- ════ a malformed line stays malformed
either : (t : Bool) (s u : State) → s.words ≡ 5 → u.words ≡ 5 → (cond t s u).words ≡ 5
either true s u e f = e
either false s u e f = f

no_shift : (s : State) → s.words ≡ 5 → (cond (leb 4 s.words) (refused s) (shifted s)).words ≡ 5
no_shift s e = ap (λ n. (cond (leb 4 n) (refused s) (shifted s)).words) e

step-malformed : (s : State) (b : ℕ) → s.words ≡ 5 → (stepped s b).words ≡ 5
step-malformed s b e =
    either (is_digit b) (digit s (b - 48)) _ (either (leb four_digits s.digits) (refused s) (with_digit s (b - 48)) refl e)
    (either (eqb b 32) (ended s) _ (either (ltb s.digits one_digit) (refused s) _ refl (no_shift s e))
    (either (eqb b 45) (minus s) (refused s) (either (ltb 0 s.minus) (refused s) _ refl (either (leb one_digit s.digits) (refused s) (negated s) refl e)) refl))

malformed : (s : State) (bs : List ℕ) → s.words ≡ 5 → finished (stepped_by s bs) ≡ None
malformed s [] e = simp e
malformed s (b ∷ bs) e = malformed (stepped s b) bs (step-malformed s b e)

-- ════ one byte
below : (n : ℕ) → n ≤ 4 → (n ≡ 4 → ⊥) → n < 4
below n h k = omega arith

-- a byte that is a digit, which is no other byte that a line has
module _ (b : ℕ) where
  low : (t : Bool) → leb 48 b ≡ t → t && leb b 57 ≡ true → 48 ≤ b
  low true e f = leb-true 48 b e
  low false e f = leb-true 48 b (e ∙ f)

  high : (t : Bool) → t && leb b 57 ≡ true → b ≤ 57
  high true f = leb-true b 57 f
  high false f = absurd (subst (λ c. T (not c)) f tt)

  digit_low : is_digit b ≡ true → 48 ≤ b
  digit_low e = low (leb 48 b) refl e

  digit-worth : is_digit b ≡ true → b - 48 ≤ 9
  digit-worth e = let h = high (leb 48 b) e in omega arith

other_byte : (b n : ℕ) → n < 48 → is_digit b ≡ true → eqb b n ≡ false
other_byte b n h e = ne_eqb b n (λ f. omega (arith, digit_low b e))

module _ (bs : List ℕ) (ih : (s : State) (k v : ℕ) → Good s k v → finished (stepped_by s bs) ≡ line_from s k v (first (words bs)) (others (words bs))) (s : State) (k v : ℕ) (good : Good s k v) where
  -- the rest of the word that has not ended
  abbrev tail : List ℕ → Option ℤ
  tail = rest (negative s) k v

  abbrev H : List ℤ
  H = held s.words s.alpha s.beta s.xi s.eta

  stopped : (w : List ℕ) (ws : List (List ℕ)) → tail w ≡ None → finished (stepped_by (refused s) bs) ≡ line_from s k v w ws
  stopped w ws e = malformed (refused s) bs refl ∙ sym (spoilt s k v w ws e)

  taken : (r : State) (k' v' b : ℕ) → Good r k' v' → held r.words r.alpha r.beta r.xi r.eta ≡ H
      → tail (b ∷ first (words bs)) ≡ rest (negative r) k' v' (first (words bs))
      → finished (stepped_by r bs) ≡ line_from s k v (b ∷ first (words bs)) (others (words bs))
  unfolding line_from
  taken r k' v' b g e f = ih r k' v' g ∙ ap₂ (λ h y. line h y (others (words bs))) e (sym f)

  -- a space
  fifth : 4 ≤ s.words → H ≡ s.alpha ∷ s.beta ∷ s.xi ∷ s.eta ∷ []
  unfolding held
  fifth h =
      let e : s.words ≡ 4 = omega (arith, good.words-few) in
      ap (λ n. drop (4 - n) (s.alpha ∷ s.beta ∷ s.xi ∷ s.eta ∷ [])) e

  ended-line : 0 < k → line_from s k v [] (words bs) ≡ line H (Some (signed (negative s) v)) (first (words bs) ∷ others (words bs))
  unfolding line_from
  ended-line h = ap₂ (line H) (rest_end (negative s) k v h good.digits.few) (has_first bs)

  next-line : 0 < k → s.words < 4 → line_from (shifted s) 0 0 (first (words bs)) (others (words bs)) ≡ line_from s k v [] (words bs)
  unfolding line_from
  next-line h l =
      let x = signed (negative s) v in
      ap (λ n. line (held (s.words + 1) s.beta s.xi s.eta (signed (negative s) n)) (number (first (words bs))) (others (words bs))) (value good.digits)
      ∙ ap (λ h. line h (number (first (words bs))) (others (words bs))) (held_more s.words s.alpha s.beta s.xi s.eta x l)
      ∙ sym (line-more H x (first (words bs)) (others (words bs)))
      ∙ sym (ended-line h)

  at-space : (t u : Bool) → ltb s.digits one_digit ≡ t → leb 4 s.words ≡ u
      → finished (stepped_by (cond t (refused s) (cond u (refused s) (shifted s))) bs) ≡ line_from s k v [] (words bs)
  at-space true u e f =
      stopped [] (words bs) (ap (λ k. rest (negative s) k v []) (none_yet k good.digits (ltb-true s.digits one_digit e)) ∙ rest-empty (negative s) v)
  at-space false true e f =
      malformed (refused s) bs refl
      ∙ sym (ended-line (has-digit k good.digits (ltb-false s.digits one_digit e)) ∙ ap (λ h. line h (Some (signed (negative s) v)) (first (words bs) ∷ others (words bs))) (fifth (leb-true 4 s.words f)) ∙ line-six _ _ _ _ _ _ _)
  at-space false false e f =
      let l = leb-false 4 s.words f in
      ih (shifted s) 0 0 (record { words-few = omega arith; digits = empty }) ∙ next-line (has-digit k good.digits (ltb-false s.digits one_digit e)) l

  -- a minus
  at-minus : (b : ℕ) (n t : Bool) → eqb b 45 ≡ true → negative s ≡ n → leb one_digit s.digits ≡ t
      → finished (stepped_by (cond n (refused s) (cond t (refused s) (negated s))) bs) ≡ line_from s k v (b ∷ first (words bs)) (others (words bs))
  at-minus b true t m e f =
      stopped (b ∷ first (words bs)) (others (words bs)) (ap (λ n. rest n k v (b ∷ first (words bs))) e ∙ rest-twice k v b (first (words bs)) m)
  at-minus b false true m e f =
      stopped (b ∷ first (words bs)) (others (words bs)) (rest-late (negative s) k v b (first (words bs)) (has-digit k good.digits (leb-true one_digit s.digits f)) m)
  at-minus b false false m e f =
      let none_here : k ≡ 0 = none_yet k good.digits (leb-false one_digit s.digits f) in
      let none-worth : v < 10 ^ 0 = rw none_here at good.digits.small in
      taken (negated s) k v b (record { words-few = good.words-few; digits = good.digits }) refl
      (ap₂ (λ n k. rest n k v (b ∷ first (words bs))) e none_here
      ∙ rest-minus v b (first (words bs)) none-worth m
      ∙ ap (λ k. rest true k v (first (words bs))) (sym none_here))

  -- a digit
  at-digit : (b : ℕ) (t : Bool) → is_digit b ≡ true → leb four_digits s.digits ≡ t
      → finished (stepped_by (cond t (refused s) (with_digit s (b - 48))) bs) ≡ line_from s k v (b ∷ first (words bs)) (others (words bs))
  at-digit b true d e =
      stopped (b ∷ first (words bs)) (others (words bs)) (rest-full (negative s) k v b (first (words bs)) good.digits.small (other_byte b 45 (omega arith) d) (full good.digits (leb-true four_digits s.digits e)))
  at-digit b false d e =
      taken (with_digit s (b - 48)) (k + 1) (v * 10 + (b - 48)) b
      (record { words-few = good.words-few; digits = more (b - 48) good.digits (room good.digits (leb-false four_digits s.digits e)) (digit-worth b d) }) refl
      (rest-digit (negative s) k v b (first (words bs)) good.digits.small (other_byte b 45 (omega arith) d) d)

  -- no digit, and no space
  at_other : (b : ℕ) (u : Bool) → is_digit b ≡ false → eqb b 45 ≡ u
      → finished (stepped_by (cond u (minus s) (refused s)) bs) ≡ line_from s k v (b ∷ first (words bs)) (others (words bs))
  at_other b true d e = at-minus b (negative s) (leb one_digit s.digits) e refl refl
  at_other b false d e =
      stopped (b ∷ first (words bs)) (others (words bs)) (rest-other (negative s) k v b (first (words bs)) good.digits.small e d)

  at-word : (b : ℕ) (d : Bool) → is_digit b ≡ d
      → finished (stepped_by (cond d (digit s (b - 48)) (cond (eqb b 45) (minus s) (refused s))) bs) ≡ line_from s k v (b ∷ first (words bs)) (others (words bs))
  at-word b true d = at-digit b (leb four_digits s.digits) d refl
  at-word b false d = at_other b (eqb b 45) d refl

  one_more : (b : ℕ) (t : Bool) → eqb b 32 ≡ t
      → finished (stepped_by (cond (is_digit b) (digit s (b - 48)) (cond t (ended s) (cond (eqb b 45) (minus s) (refused s)))) bs)
      ≡ line_from s k v (first (cond t ([] ∷ words bs) (onto b (words bs)))) (others (cond t ([] ∷ words bs) (onto b (words bs))))
  unfolding first others
  one_more b true e =
      ap (λ b. finished (stepped_by (cond (is_digit b) (digit s (b - 48)) (ended s)) bs)) (eqb-true b 32 e)
      ∙ at-space (ltb s.digits one_digit) (leb 4 s.words) refl refl
  one_more b false e =
      at-word b (is_digit b) refl ∙ ap₂ (line_from s k v) (sym (first-onto b (words bs))) (sym (others-onto b (words bs)))

-- ════ every byte
module _ (s : State) (k v : ℕ) (good : Good s k v) where
  whole : s.words ≡ 4 → 0 < k → line_from s k v [] [] ≡ Some (s.alpha ∷ s.beta ∷ s.xi ∷ s.eta ∷ signed (negative s) v ∷ [])
  unfolding line_from line joined held
  whole e h =
      ap₂ (λ n y. line (held n s.alpha s.beta s.xi s.eta) y []) e (rest_end (negative s) k v h good.digits.few)

  few : (s.words ≡ 4 → ⊥) → line_from s k v [] [] ≡ None
  unfolding line_from
  few h =
      line-few s.words s.alpha s.beta s.xi s.eta (rest (negative s) k v []) (below s.words good.words-few h)

  no_more : (t u : Bool) → eqb s.words 4 ≡ t → ltb s.digits one_digit ≡ u
      → cond (not t) None (cond u None (Some (s.alpha ∷ s.beta ∷ s.xi ∷ s.eta ∷ number_of s.minus s.digits ∷ []))) ≡ line_from s k v [] []
  no_more false u e f = sym (few (eqb-false s.words 4 e))
  no_more true true e f =
      sym (spoilt s k v [] [] (ap (λ k. rest (negative s) k v []) (none_yet k good.digits (ltb-true s.digits one_digit f)) ∙ rest-empty (negative s) v))
  no_more true false e f =
      ap (λ n. Some (s.alpha ∷ s.beta ∷ s.xi ∷ s.eta ∷ signed (negative s) n ∷ [])) (value good.digits)
      ∙ sym (whole (eqb-true s.words 4 e) (has-digit k good.digits (ltb-false s.digits one_digit f)))

from : (bs : List ℕ) (s : State) (k v : ℕ) → Good s k v → finished (stepped_by s bs) ≡ line_from s k v (first (words bs)) (others (words bs))
unfolding first others
from [] s k v good = no_more s k v good (eqb s.words 4) (ltb s.digits one_digit) refl refl
from (b ∷ bs) s k v good = one_more bs (from bs) s k v good b (eqb b 32) refl

start-good : Good start 0 0
start-good = record { words-few = omega arith; digits = empty }

joined-none : (r : Option (List ℤ)) → joined [] r ≡ r
unfolding joined
joined-none None = refl
joined-none (Some xs) = refl

pub parsed : (bs : List ℕ) → finished (stepped_by start bs) ≡ parse bs
unfolding parse line_from line held
parsed bs =
    from bs start 0 0 start-good
    ∙ ap five (joined-none (all_numbers (map number (first (words bs) ∷ others (words bs)))))
    ∙ ap (λ ws. five (all_numbers (map number ws))) (sym (has_first bs))
