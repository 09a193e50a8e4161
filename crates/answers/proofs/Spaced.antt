-- Numbers behind spaces, one more at the end.
--   spaced-more  the first k + 1 numbers
use mathlib.Core.Path.{◌≡◌, sym, ap, ◌∙◌}
use mathlib.Core.List.{List, [], ◌∷◌, ◌++◌, append_assoc, append-nil}
use Prim.Native.Nat.{ℕ, ◌+◌, ◌<◌}
use native.Mathlib.Numerals.{add-one}
use lib.IntN.{ℤ, pos}
use lib.ListN.{length, take, get_or}
use lib.Seq.{take-suc}
use Rattle.printing.specs.Spell.{spell}
use Rattle.answers.specs.Answers.{spaced}

spaced-last : (xs : List ℤ) (x : ℤ) → spaced (xs ++ x ∷ []) ≡ spaced xs ++ 32 ∷ spell x
spaced-last [] x = append-nil (32 ∷ spell x)
spaced-last (y ∷ xs) x =
    ap (λ bs. (32 ∷ spell y) ++ bs) (spaced-last xs x) ∙ sym (append_assoc (32 ∷ spell y) (spaced xs) (32 ∷ spell x))

pub spaced-more : (xs : List ℤ) (k : ℕ) → k < length xs → spaced (take (k + 1) xs) ≡ spaced (take k xs) ++ 32 ∷ spell (get_or xs k (pos 0))
spaced-more xs k h =
    ap (λ j. spaced (take j xs)) (add-one k)
    ∙ ap spaced (take-suc xs k (pos 0) h)
    ∙ spaced-last (take k xs) (get_or xs k (pos 0))
