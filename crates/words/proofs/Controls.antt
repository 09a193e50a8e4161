-- Facts that would fail if a definition said something else: words read by hand.
use Rattle.std.proofs.Common.{◌≡◌, refl, codes, [], ◌∷◌, map, Some, None}
use Rattle.words.specs.Words.{words, word_at}

-- spaces part the words, as many as you like; other bytes, as a tab, do not
words-read : map words (map codes ("" ∷ "   " ∷ "a" ∷ "  sum   9 " ∷ "a\tb c" ∷ []))
    ≡ [] ∷ [] ∷ (codes "a" ∷ []) ∷ (codes "sum" ∷ codes "9" ∷ []) ∷ (codes "a\tb" ∷ codes "c" ∷ []) ∷ []
unfolding words
words-read = refl

words-by-place : map (word_at (codes " set 0 -7")) (0 ∷ 2 ∷ 3 ∷ []) ≡ Some (codes "set") ∷ Some (codes "-7") ∷ None ∷ []
unfolding words
words-by-place = refl
