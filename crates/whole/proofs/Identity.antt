-- A polynomial identity over ℤ in one line, where it is needed.
--   square x s = ring2 x s (λ ρ e f. simp (quote, quote-pos ρ, e, f) (by _ _ _ tt))
--   ring1 to ring6  name the atoms, which may be any terms, and hand over an equation for each
--   quote           in `simp`, with those equations, writes sums, differences, products, negations and powers as an expression of `Solver`;
--                   quote-pos ρ and quote-negsuc ρ write the literals, and quote-minus ρ the negation of a natural that is no literal
--   by              proves two expressions equal that are one polynomial
--   by-eq           proves them equal from an equation c ≡ d, where their difference is m·(c − d), with m written as an expression
-- Where an atom stands in another one, the other goes first: `simp e (simp (quote, f) (by _ _ _ tt))`. `Controls` has an example of each.
use mathlib.Core.Path.{◌≡◌, refl, ◌∙◌, ap}
use mathlib.Core.List.{List, [], ◌∷◌}
use Prim.Native.Nat.{ℕ}
use lib.Dec.{T}
use lib.IntN.{ℤ, pos, negsuc, neg_ℤ, ◌+ℤ◌, ◌-ℤ◌, ◌*ℤ◌, *ℤ-zero, pow}
use Rattle.whole.proofs.Ring.{sub_self, sub-zero}
use Rattle.whole.proofs.Solver.{Expr, atom, lit, neglit, ◌⊕◌, ◌⊝◌, ◌⊗◌, ⊖◌, ◌↑◌, eval, solve, same}

-- An expression's value, shut, so that `simp` sees it.
unfoldable pub quoted : List ℤ → Expr → ℤ
quoted ρ e = eval e ρ

module _ (ρ : List ℤ) where
  pub quote-+ : (a b : Expr) → quoted ρ a +ℤ quoted ρ b ≡ quoted ρ (a ⊕ b)
  unfolding quoted
  quote-+ a b = refl

  pub quote-* : (a b : Expr) → quoted ρ a *ℤ quoted ρ b ≡ quoted ρ (a ⊗ b)
  unfolding quoted
  quote-* a b = refl

  pub quote-neg : (a : Expr) → neg_ℤ (quoted ρ a) ≡ quoted ρ (⊖ a)
  unfolding quoted
  quote-neg a = refl

  pub quote-pow : (a : Expr) (n : ℕ) → pow (quoted ρ a) n ≡ quoted ρ (a ↑ n)
  unfolding quoted
  quote-pow a n = refl

  pub quote-pos : (n : ℕ) → pos n ≡ quoted ρ (lit n)
  unfolding quoted
  quote-pos n = refl

  pub quote-negsuc : (n : ℕ) → negsuc n ≡ quoted ρ (neglit n)
  unfolding quoted
  quote-negsuc n = refl

  -- Where n is no literal, `neg_ℤ (pos n)` does not compute, and shows `simp` no `pos n`.
  pub quote-minus : (n : ℕ) → neg_ℤ (pos n) ≡ quoted ρ (⊖ lit n)
  unfolding quoted
  quote-minus n = refl

pub ruleset quote = (quote-+, quote-*, quote-neg, quote-pow)

pub by : (ρ : List ℤ) (a b : Expr) → T (same a b) → quoted ρ a ≡ quoted ρ b
unfolding quoted
by ρ a b t = solve ρ a b t

-- from c ≡ d: a − b is m·(c − d)
pub by-eq : (ρ : List ℤ) (a b c d m : Expr) → quoted ρ c ≡ quoted ρ d → T (same (a ⊝ b) (m ⊗ (c ⊝ d))) → quoted ρ a ≡ quoted ρ b
unfolding quoted
by-eq ρ a b c d m h t =
    sub-zero (eval a ρ) (eval b ρ)
    (solve ρ (a ⊝ b) (m ⊗ (c ⊝ d)) t ∙ ap (λ z. eval m ρ *ℤ (z -ℤ eval d ρ)) h ∙ ap (λ z. eval m ρ *ℤ z) (sub_self (eval d ρ)) ∙ *ℤ-zero (eval m ρ))

-- ════ the atoms
pub ring1 : (x : ℤ) {G : Type 0} → ((ρ : List ℤ) → x ≡ quoted ρ (atom 0) → G) → G
unfolding quoted
ring1 x h = h (x ∷ []) refl

pub ring2 : (x y : ℤ) {G : Type 0} → ((ρ : List ℤ) → x ≡ quoted ρ (atom 0) → y ≡ quoted ρ (atom 1) → G) → G
unfolding quoted
ring2 x y h = h (x ∷ y ∷ []) refl refl

pub ring3 : (x y z : ℤ) {G : Type 0} → ((ρ : List ℤ) → x ≡ quoted ρ (atom 0) → y ≡ quoted ρ (atom 1) → z ≡ quoted ρ (atom 2) → G) → G
unfolding quoted
ring3 x y z h = h (x ∷ y ∷ z ∷ []) refl refl refl

pub ring4 : (x y z u : ℤ) {G : Type 0}
    → ((ρ : List ℤ) → x ≡ quoted ρ (atom 0) → y ≡ quoted ρ (atom 1) → z ≡ quoted ρ (atom 2) → u ≡ quoted ρ (atom 3) → G) → G
unfolding quoted
ring4 x y z u h = h (x ∷ y ∷ z ∷ u ∷ []) refl refl refl refl

pub ring5 : (x y z u v : ℤ) {G : Type 0}
    → ((ρ : List ℤ) → x ≡ quoted ρ (atom 0) → y ≡ quoted ρ (atom 1) → z ≡ quoted ρ (atom 2) → u ≡ quoted ρ (atom 3) → v ≡ quoted ρ (atom 4) → G)
    → G
unfolding quoted
ring5 x y z u v h = h (x ∷ y ∷ z ∷ u ∷ v ∷ []) refl refl refl refl refl

pub ring6 : (x y z u v w : ℤ) {G : Type 0}
    → ((ρ : List ℤ) → x ≡ quoted ρ (atom 0) → y ≡ quoted ρ (atom 1) → z ≡ quoted ρ (atom 2) → u ≡ quoted ρ (atom 3) → v ≡ quoted ρ (atom 4) → w ≡ quoted ρ (atom 5) → G)
    → G
unfolding quoted
ring6 x y z u v w h = h (x ∷ y ∷ z ∷ u ∷ v ∷ w ∷ []) refl refl refl refl refl refl
