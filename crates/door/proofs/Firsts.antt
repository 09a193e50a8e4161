-- Among the refusals f 0, f 1, .., f (n - 1), none holds or there is a first that does.
--   Found, found    which of the two
--   first-exactly   where no two have the same number, that of f i is given exactly where f i holds and none before it does
use mathlib.Core.Path.{◌≡◌, refl, sym, ◌∙◌, subst}
use mathlib.Core.Logic.{◌↔◌}
use mathlib.Core.Bool.{Bool, true, false}
use Prim.Native.Nat.{ℕ, zero, suc, ◌<◌}
use native.Mathlib.Decide.{dec_lt}
use native.Mathlib.Omega.{arith}
use Rattle.polynomials.specs.Sum.{listed}
use Rattle.layout.specs.Refusals.{Refusal, first}
use Rattle.limits.proofs.Firsts.{first-none, first-at}

pub data Found (f : ℕ → Refusal) (n : ℕ) : Type 0 where
  none : ((i : ℕ) → i < n → (f i).holds ≡ false) → Found f n
  at : (k : ℕ) → k < n → ((i : ℕ) → i < k → (f i).holds ≡ false) → (f k).holds ≡ true → Found f n

module _ (f : ℕ → Refusal) where
  one_more : (n : ℕ) → ((i : ℕ) → i < n → (f i).holds ≡ false) → (f n).holds ≡ false → (i : ℕ) → i < suc n → (f i).holds ≡ false
  one_more n all e i h = pick (dec_lt i n)
    where
      pick : Dec (i < n) → (f i).holds ≡ false
      pick (yes b) = all i b
      pick (no b) = let q : i ≡ n = omega arith in rw q e

  pub found : (n : ℕ) → Found f n
  found zero = none (λ i h. absurd (omega arith))
  found (suc n) = go (found n) (f n).holds refl
    where
      go : Found f n → (b : Bool) → (f n).holds ≡ b → Found f (suc n)
      go (at k h before one) b e = at k (omega arith) before one
      go (none all) true e = at n (omega arith) all e
      go (none all) false e = none (one_more n all e)

  pub first-exactly : (n i : ℕ) → i < n → 0 < (f i).number → ((k : ℕ) → k < n → (f k).number ≡ (f i).number → k ≡ i)
      → (first (listed n f) ≡ (f i).number) ↔ (((k : ℕ) → k < i → (f k).holds ≡ false) × ((f i).holds ≡ true))
  first-exactly n i h p apart = (λ e. go e (found n), λ g. first-at f i g.0 g.1 n h)
    where
      go : first (listed n f) ≡ (f i).number → Found f n → ((k : ℕ) → k < i → (f k).holds ≡ false) × ((f i).holds ≡ true)
      go e (none all) = absurd (omega (arith, first-none f n all))
      go e (at k b before one) =
          subst (λ j. ((k : ℕ) → k < j → (f k).holds ≡ false) × ((f j).holds ≡ true)) (apart k b (sym (first-at f k before one n b) ∙ e)) (before, one)
