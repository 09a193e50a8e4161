-- A word of a line is a part of it.
use Rattle.std.proofs.Common.{◌≡◌, refl, ap, subst, ℕ, zero, suc, ◌==◌, Bool, true, false, cond, not, List, [], ◌∷◌, ◌++◌, length, get_or, slice_get, Some}
use Rattle.std.specs.List.{slice_split, onto_first}
use Rattle.std.specs.Str.Iter.{HasSubslice}
use Rattle.std.proofs.lemmas.List.{get_or_default}
use Rattle.std.proofs.lemmas.List.Elements.{All-filter}
use Rattle.std.proofs.lemmas.Option.{get_or_from_slice_get, slice_get_within}
use Rattle.words.specs.Words.{words}

abbrev parts : List ℕ → List (List ℕ)
parts = slice_split (λ b. b == 32)

first-part : (bs : List ℕ) → (behind : List ℕ) × (bs ≡ get_or (parts bs) 0 [] ++ behind)
first-part [] = ([], refl)
first-part (b ∷ bs) = pick (b == 32) (parts bs) (first-part bs)
  where
    pick : (t : Bool) (ps : List (List ℕ)) → (behind : List ℕ) × (bs ≡ get_or ps 0 [] ++ behind) → (behind : List ℕ) × (b ∷ bs ≡ get_or (cond t ([] ∷ ps) (onto_first b ps)) 0 [] ++ behind)
    pick true ps h = (b ∷ bs, refl)
    pick false [] h = (bs, refl)
    pick false (p ∷ ps) h = (h.0, ap (λ l. b ∷ l) h.1)

parts-part : (bs : List ℕ) (k : ℕ) → HasSubslice bs (get_or (parts bs) k [])
parts-part [] zero = ([], [], refl)
parts-part [] (suc k) = ([], [], refl)
parts-part (b ∷ bs) k = pick (b == 32) (parts bs) k (first-part bs) (parts-part bs)
  where
    pick : (t : Bool) (ps : List (List ℕ)) (k : ℕ) → (behind : List ℕ) × (bs ≡ get_or ps 0 [] ++ behind) → ((k : ℕ) → HasSubslice bs (get_or ps k [])) → HasSubslice (b ∷ bs) (get_or (cond t ([] ∷ ps) (onto_first b ps)) k [])
    pick true ps zero h each = ([], b ∷ bs, refl)
    pick true ps (suc k) h each = let e = each k in (b ∷ e.0, e.1, ap (λ l. b ∷ l) e.2)
    pick false [] zero h each = ([], bs, refl)
    pick false [] (suc k) h each = ([], b ∷ bs, refl)
    pick false (p ∷ ps) zero h each = ([], h.0, ap (λ l. b ∷ l) h.1)
    pick false (p ∷ ps) (suc k) h each = let e = each (suc k) in (b ∷ e.0, e.1, ap (λ l. b ∷ l) e.2)

pub word-part : (line : List ℕ) (k : ℕ) (word : List ℕ) → slice_get (words line) k ≡ Some word → HasSubslice line word
unfolding words
word-part line k word e =
    subst (HasSubslice line) (get_or_from_slice_get (words line) k word [] e)
    (All-filter (λ part. not (length part == 0)) (HasSubslice line) (parts line) (λ i d h. subst (HasSubslice line) (get_or_default (parts line) i [] d h) (parts-part line i)) k [] (slice_get_within (words line) k word e))
