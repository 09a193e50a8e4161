-- The first word of a line, by the bytes at its start: spaces in front are part of no word, and a word ends before the first space or with the line.
-- Assumes nothing.
--   no-word      a line of spaces has none
--   word-found   the first word and what is behind it, by the places of the first byte that is no space and of the first space behind that
--   there        a word by its place, of what is left behind as many
use Rattle.std.proofs.Common.{◌≡◌, refl, sym, ap, ap₂, ◌∙◌, subst, ℕ, zero, suc, ◌==◌, ◌<◌, ◌≤◌, Bool, true, false, cond, not, List, [], ◌∷◌, length, get_or, take, drop, filter, Option, Some, None, unwrap_or, slice_get, position, ◌+◌, arith, true≢false}
use lib.Seq.{take_all}
use Rattle.std.specs.List.{slice_split, onto_first, position_or_len}
use Rattle.std.proofs.lemmas.Bool.Decides.{nat_tests}
use Rattle.std.proofs.lemmas.Grind.{common_steps}
use Rattle.std.proofs.lemmas.List.{drop-drop}
use Rattle.std.proofs.lemmas.List.Quantifiers.{position-Some}
use Rattle.std.proofs.lemmas.List.Splits.{slice_split-cons_yes, slice_split-cons_no}
use Rattle.std.proofs.lemmas.List.Sums.{fails_before_first}
use Rattle.words.specs.Words.{words}

abbrev pub space : ℕ → Bool
space b = b == 32

abbrev pub other : ℕ → Bool
other b = not (b == 32)

abbrev some-bytes : List ℕ → Bool
some-bytes part = not (length part == 0)

abbrev parts : List ℕ → List (List ℕ)
parts = slice_split space

-- ════ spaces in front
is-space : (t : Bool) → not t ≡ false → t ≡ true
is-space true e = refl
is-space false e = sym e

is-other : (t : Bool) → not t ≡ true → t ≡ false
is-other true e = sym e
is-other false e = refl

words-space : (b : ℕ) (bs : List ℕ) → space b ≡ true → words (b ∷ bs) ≡ words bs
unfolding words
words-space b bs e = ap (filter some-bytes) (slice_split-cons_yes space b bs e)

behind-spaces : (line : List ℕ) (i : ℕ) → i ≤ length line → ((k : ℕ) → k < i → other (get_or line k 0) ≡ false) → words line ≡ words (drop i line)
behind-spaces line zero h f = refl
behind-spaces [] (suc i) h f = refl
behind-spaces (b ∷ bs) (suc i) h f =
    words-space b bs (is-space (b == 32) (f 0 (omega arith))) ∙ behind-spaces bs i (omega (arith, h)) (λ k g. f (suc k) (omega (arith, g)))

none-passes : (p : ℕ → Bool) (xs : List ℕ) → position p xs ≡ None → (k : ℕ) → k < length xs → p (get_or xs k 0) ≡ false
none-passes p xs e k h =
    let past : length xs ≤ position_or_len p xs = grind (arith, common_steps) in
    fails_before_first p xs k 0 (omega (arith, past, h))

no-words : words [] ≡ []
unfolding words
no-words = refl

drop-whole : (line : List ℕ) → drop (length line) line ≡ []
drop-whole [] = refl
drop-whole (b ∷ bs) = drop-whole bs

pub no-word : (line : List ℕ) → position other line ≡ None → words line ≡ []
no-word line e =
    behind-spaces line (length line) (omega arith) (none-passes other line e) ∙ ap words (drop-whole line) ∙ no-words

get-drop : (line : List ℕ) (i : ℕ) → get_or (drop i line) 0 0 ≡ get_or line i 0
get-drop line zero = refl
get-drop [] (suc i) = refl
get-drop (b ∷ bs) (suc i) = get-drop bs i

length-drop : (line : List ℕ) (i : ℕ) → i < length line → 0 < length (drop i line)
length-drop line zero h = h
length-drop [] (suc i) h = absurd (omega (arith, h))
length-drop (b ∷ bs) (suc i) h = length-drop bs i (omega (arith, h))

first-byte : (line : List ℕ) (i : ℕ) → position other line ≡ Some i
    → (words line ≡ words (drop i line)) × (0 < length (drop i line)) × (space (get_or (drop i line) 0 0) ≡ false)
first-byte line i e =
    let f = position-Some other line i 0 e in
    (behind-spaces line i (omega (arith, f.0)) f.2, length-drop line i f.0, ap space (get-drop line i) ∙ is-other (space (get_or line i 0)) f.1)

-- ════ a word
parts-before : (line : List ℕ) (j : ℕ) → j < length line → ((k : ℕ) → k < j → space (get_or line k 0) ≡ false) → space (get_or line j 0) ≡ true
    → parts line ≡ take j line ∷ parts (drop (suc j) line)
parts-before [] j h f e = absurd (omega (arith, h))
parts-before (b ∷ bs) zero h f e = slice_split-cons_yes space b bs e
parts-before (b ∷ bs) (suc j) h f e =
    slice_split-cons_no space b bs (f 0 (omega arith)) ∙ ap (onto_first b) (parts-before bs j (omega (arith, h)) (λ k g. f (suc k) (omega (arith, g))) e)

parts-last : (line : List ℕ) → ((k : ℕ) → k < length line → space (get_or line k 0) ≡ false) → parts line ≡ line ∷ []
parts-last [] f = refl
parts-last (b ∷ bs) f = slice_split-cons_no space b bs (f 0 (omega arith)) ∙ ap (onto_first b) (parts-last bs (λ k g. f (suc k) (omega (arith, g))))

words-at-space : (line : List ℕ) (j : ℕ) → j < length line → space (get_or line j 0) ≡ true → words (drop j line) ≡ words (drop (suc j) line)
words-at-space [] j h e = absurd (omega (arith, h))
words-at-space (b ∷ bs) zero h e = words-space b bs e
words-at-space (b ∷ bs) (suc j) h e = words-at-space bs j (omega (arith, h)) e

some-kept : (b : ℕ) (w : List ℕ) (ps : List (List ℕ)) → filter some-bytes ((b ∷ w) ∷ ps) ≡ (b ∷ w) ∷ filter some-bytes ps
some-kept b w ps =
    let some : (length (b ∷ w) == 0) ≡ false = grind (arith, nat_tests) in
    ap (λ t. cond (not t) ((b ∷ w) ∷ filter some-bytes ps) (filter some-bytes ps)) some

word-before : (b : ℕ) (bs : List ℕ) (j : ℕ) → space b ≡ false → position space (b ∷ bs) ≡ Some j → words (b ∷ bs) ≡ take j (b ∷ bs) ∷ words (drop j (b ∷ bs))
unfolding words
word-before b bs zero n e = absurd (true≢false (sym (position-Some space (b ∷ bs) 0 0 e).1 ∙ n))
word-before b bs (suc j) n e =
    let f = position-Some space (b ∷ bs) (suc j) 0 e in
    ap (filter some-bytes) (parts-before (b ∷ bs) (suc j) f.0 f.2 f.1) ∙ some-kept b (take j bs) (parts (drop (suc j) bs)) ∙ ap (λ ws. take (suc j) (b ∷ bs) ∷ ws) (sym (words-at-space (b ∷ bs) (suc j) f.0 f.1))

word-last : (b : ℕ) (bs : List ℕ) → position space (b ∷ bs) ≡ None → words (b ∷ bs) ≡ (b ∷ bs) ∷ []
unfolding words
word-last b bs e = ap (filter some-bytes) (parts-last (b ∷ bs) (none-passes space (b ∷ bs) e)) ∙ some-kept b bs []

word-ends : (rest : List ℕ) (found : Option ℕ) → 0 < length rest → space (get_or rest 0 0) ≡ false → found ≡ position space rest
    → words rest ≡ take (unwrap_or found (length rest)) rest ∷ words (drop (unwrap_or found (length rest)) rest)
word-ends [] found h n e = absurd (omega (arith, h))
word-ends (b ∷ bs) None h n e =
    word-last b bs (sym e) ∙ ap₂ (λ w ws. w ∷ ws) (sym (take_all (length (b ∷ bs)) (b ∷ bs) (omega arith))) (sym (ap words (drop-whole (b ∷ bs)) ∙ no-words))
word-ends (b ∷ bs) (Some j) h n e = word-before b bs j n (sym e)

pub word-found : (line rest front back : List ℕ) (start end : ℕ) (found : Option ℕ)
    → position other line ≡ Some start → rest ≡ drop start line → found ≡ position space rest → end ≡ unwrap_or found (length rest) → front ≡ take end rest → back ≡ drop end rest
    → words line ≡ front ∷ words back
word-found line rest front back start end found e r g n f b =
    let h = first-byte line start e in
    let d = sym r in
    h.0 ∙ ap words d
    ∙ word-ends rest found (subst (λ xs. 0 < length xs) d h.1) (subst (λ xs. space (get_or xs 0 0) ≡ false) d h.2) g
    ∙ ap₂ (λ w v. w ∷ words v) (ap (λ k. take k rest) (sym n) ∙ sym f) (ap (λ k. drop k rest) (sym n) ∙ sym b)

-- ════ words by their places
pub none-there : (ws : List (List ℕ)) (i k : ℕ) → i ≤ k → drop i ws ≡ [] → slice_get ws k ≡ None
none-there [] i k h e = refl
none-there (w ∷ ws) zero k h e = absurd (omega (arith, ap length e))
none-there (w ∷ ws) (suc i) zero h e = absurd (omega (arith, h))
none-there (w ∷ ws) (suc i) (suc k) h e = none-there ws i k (omega (arith, h)) e

pub there : (ws : List (List ℕ)) (k : ℕ) (w : List ℕ) (vs : List (List ℕ)) → drop k ws ≡ w ∷ vs → slice_get ws k ≡ Some w
there [] zero w vs e = absurd (omega (arith, ap length e))
there [] (suc k) w vs e = absurd (omega (arith, ap length e))
there (x ∷ xs) zero w vs e = ap (λ l. slice_get l 0) e
there (x ∷ xs) (suc k) w vs e = there xs k w vs e

pub one-more : (ws : List (List ℕ)) (i : ℕ) (w : List ℕ) (vs : List (List ℕ)) → drop i ws ≡ w ∷ vs → drop (i + 1) ws ≡ vs
one-more ws i w vs e = sym (drop-drop 1 i ws) ∙ ap (drop 1) e
