-- Digits, byte by byte, within the largest number of 64 bits.
--   past      digits that pass the limit say none
--   whole     digits that are all read say their value
use Rattle.std.proofs.Common.{◌≡◌, refl, sym, ap, ◌∙◌, ℕ, ◌+◌, ◌*◌, ◌≤◌, ◌<◌, Bool, cond, leb, List, [], ◌∷◌, length, get_or, drop, Option, Some, None, arith}
use Rattle.std.specs.Prelude.{option_and_then}
use Rattle.std.proofs.Math.Nat.{mul-le-mul_left}
use Rattle.std.proofs.lemmas.List.{at_drop_more, at_drop_all}
use borrow.Author.Tests.{le-leb, lt-leb}
use Rattle.numbers.specs.Numbers.{kept, digit_of, value_on, digits, largest}

abbrev pub within : ℕ → Bool
within n = leb n largest

digits-kept : (base : ℕ) (word : List ℕ) → 0 < length word → digits base largest word ≡ kept within (value_on base 0 word)
digits-kept base [] h = absurd (omega arith)
digits-kept base (b ∷ bs) h = refl

module _ (base : ℕ) (some : 0 < base) where
  value_grows : (v : ℕ) (bs : List ℕ) (n : ℕ) → value_on base v bs ≡ Some n → v ≤ n
  value_grows v [] n e = let same : v ≡ n = cc in omega arith
  value_grows v (b ∷ bs) n e = pick (digit_of base b) (λ d. value_grows (v * base + d) bs n) e
    where
      pick : (o : Option ℕ) → ((d : ℕ) → value_on base (v * base + d) bs ≡ Some n → (v * base + d) ≤ n) → option_and_then (λ d. value_on base (v * base + d) bs) o ≡ Some n → v ≤ n
      pick None i e = cc
      pick (Some d) i e = omega (arith, i d e, mul-le-mul_left v some)

  kept-past : (v : ℕ) (bs : List ℕ) → largest < v → kept within (value_on base v bs) ≡ None
  kept-past v bs h = pick (value_on base v bs) refl
    where
      pick : (o : Option ℕ) → value_on base v bs ≡ o → kept within o ≡ None
      pick None e = refl
      pick (Some n) e = ap (λ t. cond t (Some n) None) (lt-leb n largest (omega (arith, value_grows v bs n e)))

  module _ (word : List ℕ) (i value : ℕ) (read : kept within (value_on base value (drop i word)) ≡ kept within (value_on base 0 word)) where
    pub past : (d : ℕ) → i < length word → digit_of base (get_or word i 0) ≡ Some d → largest < value * base + d → digits base largest word ≡ None
    past d h e over =
        digits-kept base word (omega arith)
        ∙ sym read
        ∙ at_drop_more (λ l. kept within (value_on base value l)) word i 0 h
        ∙ ap (λ o. kept within (option_and_then (λ d. value_on base (value * base + d) (drop (i + 1) word)) o)) e
        ∙ kept-past (value * base + d) (drop (i + 1) word) over

    pub whole : length word ≤ i → 0 < length word → value ≤ largest → Some value ≡ digits base largest word
    whole h k w =
        sym
        (digits-kept base word k ∙ sym read ∙ at_drop_all (λ l. kept within (value_on base value l)) word i h ∙ ap (λ t. cond t (Some value) None) (le-leb value largest w))
