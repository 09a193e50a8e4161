-- What a printed polynomial comes to at whole readings of the variables of a shape, in any unit of angle.
use Rattle.std.specs.Prelude.{cond, List, [], ◌∷◌, ℕ, zero, suc, ◌+◌, ◌-◌, ◌^◌, ℤ, pos, ◌+ℤ◌, ◌*ℤ◌, get_or}
use Rattle.std.proofs.Math.IntN.{pow}
use Rattle.layout.specs.Shape.{Shape}
use Rattle.layout.specs.Blocks.{Piece, counts}
use Rattle.printed.specs.Notation.{Monomial, Term, Polynomial, summed}

-- in what angles are counted: how many make a radian, and the last of the low piece
pub record Angles : Type 0 where
  pub radian : ℕ
  pub cut : ℕ

-- ════ a monomial
abbrev pub total_degree : Monomial → ℕ
total_degree a = a.alpha + a.beta + a.xi + a.eta + a.zeta

-- the power of alpha, beta, xi, eta or zeta, as they are numbered 0 to 4
abbrev pub power_of : Monomial → ℕ → ℕ
power_of a n = get_or (a.alpha ∷ a.beta ∷ a.xi ∷ a.eta ∷ a.zeta ∷ []) n 0

-- f 0 × f 1 × .. × f (n - 1)
unfoldable pub product : ℕ → (ℕ → ℤ) → ℤ
product zero f = pos 1
product (suc n) f = product n f *ℤ f n

module _ (S : Shape) where
  -- the power of a variable of the shape, by the name that it has
  abbrev pub degree_in : Monomial → ℕ → ℕ
  degree_in a i = power_of a (S.name i)

  -- x has the readings of the variables
  abbrev pub monomial_at : Monomial → (ℕ → ℤ) → ℤ
  monomial_at a x = product S.variables (λ i. pow (x i) (degree_in a i))

-- ════ a polynomial
-- what a number of degree n is scaled by. Each of its n readings is so many times what it is in radians; the unit is 10⁻⁵ over the fourth power
abbrev pub scale_in : Angles → ℕ → ℕ
scale_in A n = A.radian ^ (4 - n)

abbrev pub scaled : Angles → Term → ℤ
scaled A t = t.number *ℤ pos (scale_in A (total_degree t.monomial))

-- the sum of the terms: each number, scaled, times the powers of the readings
unfoldable pub at : Shape → Angles → Polynomial → (ℕ → ℤ) → ℤ
at S A f x = summed (λ t. scaled A t *ℤ monomial_at S t.monomial x) f

-- ════ a coefficient
-- of the values of its groups, from the group numbered n on, those that count in a piece, together
abbrev pub together : Piece → ℕ → List ℤ → ℤ
together p n [] = pos 0
together p n (z ∷ zs) = cond (counts n p) z (pos 0) +ℤ together p (suc n) zs
