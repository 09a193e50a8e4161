-- Monomials in the variables of a shape.
--   others-nil        where two powers make up the total degree, every other one is 0
--   product-two       a product in which two factors count
--   monomial-own      so a monomial that has only the variables of a group has the value of their two powers
--   product-multiple  each factor a power of s times a reading: the powers of s come together
use mathlib.Core.Path.{◌≡◌, refl, sym, ◌∙◌, ap, ap₂}
use mathlib.Core.List.{List, [], ◌∷◌}
use Prim.Native.Nat.{ℕ, zero, suc, ◌+◌, ◌≤◌, ◌<◌}
use native.Mathlib.Decide.{ℕ_discrete}
use native.Mathlib.Omega.{arith}
use lib.IntN.{ℤ, pos, ◌*ℤ◌, pow}
use lib.ListN.{get_or}
use Rattle.whole.proofs.Identity.{ring4, quote, by}
use Rattle.whole.proofs.Ring.{*ℤ-unit, unit-*ℤ, pow-zero, pow-add, pow-mul}
use Rattle.polynomials.specs.Numbers.{nats}
use Rattle.polynomials.specs.Sum.{sum}
use Rattle.polynomials.proofs.Semiring.{whole, ⊗-comm}
use Rattle.layout.specs.Shape.{Shape, WellFormed}
use Rattle.printed.specs.Notation.{Monomial}
use Rattle.printed.specs.Values.{total_degree, power_of, product, degree_in, monomial_at}

-- ════ numbers of a list, against their sum
abbrev added : List ℕ → ℕ
added [] = 0
added (a ∷ l) = a + added l

one-within : (l : List ℕ) (i : ℕ) → get_or l i 0 ≤ added l
one-within [] i = omega arith
one-within (a ∷ l) zero = omega arith
one-within (a ∷ l) (suc i) = omega (arith, one-within l i)

two-within : (l : List ℕ) (i j : ℕ) → (i ≡ j → ⊥) → get_or l i 0 + get_or l j 0 ≤ added l
two-within [] i j h = omega arith
two-within (a ∷ l) zero zero h = absurd (h refl)
two-within (a ∷ l) zero (suc j) h = omega (arith, one-within l j)
two-within (a ∷ l) (suc i) zero h = omega (arith, one-within l i)
two-within (a ∷ l) (suc i) (suc j) h = omega (arith, two-within l i j (λ e. h (ap suc e)))

three-within : (l : List ℕ) (i j k : ℕ) → (i ≡ j → ⊥) → (i ≡ k → ⊥) → (j ≡ k → ⊥) → get_or l i 0 + get_or l j 0 + get_or l k 0 ≤ added l
three-within [] i j k a b c = omega arith
three-within (n ∷ l) zero zero k a b c = absurd (a refl)
three-within (n ∷ l) zero (suc j) zero a b c = absurd (b refl)
three-within (n ∷ l) zero (suc j) (suc k) a b c = omega (arith, two-within l j k (λ e. c (ap suc e)))
three-within (n ∷ l) (suc i) zero zero a b c = absurd (c refl)
three-within (n ∷ l) (suc i) zero (suc k) a b c = omega (arith, two-within l i k (λ e. b (ap suc e)))
three-within (n ∷ l) (suc i) (suc j) zero a b c = omega (arith, two-within l i j (λ e. a (ap suc e)))
three-within (n ∷ l) (suc i) (suc j) (suc k) a b c = omega (arith, three-within l i j k (λ e. a (ap suc e)) (λ e. b (ap suc e)) (λ e. c (ap suc e)))

pub others-nil : (a : Monomial) (p q r : ℕ) → (r ≡ p → ⊥) → (r ≡ q → ⊥) → (p ≡ q → ⊥) → power_of a p + power_of a q ≡ total_degree a → power_of a r ≡ 0
others-nil a p q r h k l e = omega (arith, three-within (a.alpha ∷ a.beta ∷ a.xi ∷ a.eta ∷ a.zeta ∷ []) r p q h k l)

-- ════ products in which few factors count
module _ (f : ℕ → ℤ) where
  product-none : (n : ℕ) → ((i : ℕ) → i < n → f i ≡ pos 1) → product n f ≡ pos 1
  unfolding product
  product-none zero h = refl
  product-none (suc n) h = ap₂ ◌*ℤ◌ (product-none n (λ i l. h i (omega arith))) (h n (omega arith))

  product-one : (n u : ℕ) → u < n → ((i : ℕ) → i < n → (i ≡ u → ⊥) → f i ≡ pos 1) → product n f ≡ f u
  unfolding product
  product-one zero u l h = absurd (omega arith)
  product-one (suc n) u l h = pick (λ m. product-one n u m (λ i b g. h i (omega arith) g)) (ℕ_discrete u n)
    where
      pick : (u < n → product n f ≡ f u) → Dec (u ≡ n) → product n f *ℤ f n ≡ f u
      pick ih (yes e) = ap₂ ◌*ℤ◌ (product-none n (λ i b. h i (omega arith) (λ d. omega arith))) (ap f (sym e)) ∙ unit-*ℤ (f u)
      pick ih (no d) = ap₂ ◌*ℤ◌ (ih (omega arith)) (h n (omega arith) (λ g. d (sym g))) ∙ *ℤ-unit (f u)

  pub product-two : (n u v : ℕ) → u < n → v < n → (u ≡ v → ⊥) → ((i : ℕ) → i < n → (i ≡ u → ⊥) → (i ≡ v → ⊥) → f i ≡ pos 1) → product n f ≡ f u *ℤ f v
  unfolding product
  product-two zero u v l m d h = absurd (omega arith)
  product-two (suc n) u v l m d h = pick (λ a b. product-two n u v a b d (λ i k g. h i (omega arith) g)) (ℕ_discrete u n) (ℕ_discrete v n)
    where
      pick : (u < n → v < n → product n f ≡ f u *ℤ f v) → Dec (u ≡ n) → Dec (v ≡ n) → product n f *ℤ f n ≡ f u *ℤ f v
      pick ih (yes e) w =
          ap₂ ◌*ℤ◌ (product-one n v (omega arith) (λ i b g. h i (omega arith) (λ k. omega arith) g)) (ap f (sym e)) ∙ ⊗-comm whole (f v) (f u)
      pick ih (no a) (yes e) = ap₂ ◌*ℤ◌ (product-one n u (omega arith) (λ i b g. h i (omega arith) g (λ k. omega arith))) (ap f (sym e))
      pick ih (no a) (no b) = ap₂ ◌*ℤ◌ (ih (omega arith) (omega arith)) (h n (omega arith) (λ g. a (sym g)) (λ g. b (sym g))) ∙ *ℤ-unit (f u *ℤ f v)

-- ════ a monomial in two variables of a shape
pub monomial-own : (S : Shape) → WellFormed S → (x : ℕ → ℤ) (u v : ℕ) → u < S.variables → v < S.variables → (u ≡ v → ⊥) → (a : Monomial)
    → degree_in S a u + degree_in S a v ≡ total_degree a → monomial_at S a x ≡ pow (x u) (degree_in S a u) *ℤ pow (x v) (degree_in S a v)
monomial-own S w x u v l m d a e =
    product-two (λ i. pow (x i) (degree_in S a i)) S.variables u v l m d (λ i b f g.
    ap (pow (x i)) (others-nil a (S.name u) (S.name v) (S.name i) (λ q. f (w.named i u b l q)) (λ q. g (w.named i v b m q)) (λ q. d (w.named u v l m q)) e) ∙ pow-zero (x i))

-- ════ s times the readings
swap : (a b c d : ℤ) → (a *ℤ b) *ℤ (c *ℤ d) ≡ (a *ℤ c) *ℤ (b *ℤ d)
swap a b c d = ring4 a b c d (λ ρ e f g h. simp (quote, e, f, g, h) (by _ _ _ tt))

pub product-multiple : (s : ℤ) (x : ℕ → ℤ) (d : ℕ → ℕ) (n : ℕ) → product n (λ i. pow (s *ℤ x i) (d i)) ≡ pow s (sum nats n d) *ℤ product n (λ i. pow (x i) (d i))
unfolding product sum
product-multiple s x d zero = sym (ap (λ z. z *ℤ pos 1) (pow-zero s))
product-multiple s x d (suc n) =
    ap₂ ◌*ℤ◌ (product-multiple s x d n) (pow-mul s (x n) (d n)) ∙ swap (pow s (sum nats n d)) (product n (λ i. pow (x i) (d i))) (pow s (d n)) (pow (x n) (d n))
    ∙ ap (λ z. z *ℤ (product n (λ i. pow (x i) (d i)) *ℤ pow (x n) (d n))) (sym (pow-add s (sum nats n d) (d n)))
