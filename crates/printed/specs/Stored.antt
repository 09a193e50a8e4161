-- How printed polynomials stand in a table: a group for each in two variables, a block for each coefficient. For readings in whole milliradians the
-- numbers are in units of 10⁻¹⁷, so that each is whole.
use Rattle.std.specs.Prelude.{◌≡◌, Bool, true, cond, ◌&&◌, List, [], ◌∷◌, ◌++◌, ℕ, ◌+◌, ◌%◌, eqb, leb, ℤ, pos, nat_abs, ◌*ℤ◌, get_or}
use Rattle.polynomials.specs.Order.{powers, size, place}
use Rattle.polynomials.specs.declared.Powers.{Powers}
use Rattle.polynomials.specs.Sum.{listed}
use Rattle.polynomials.specs.Groups.{Group}
use Rattle.layout.specs.declared.Kind.{Kind}
use Rattle.layout.specs.Shape.{Shape, block_length}
use Rattle.layout.specs.Blocks.{laid_out}
use Rattle.printed.specs.Notation.{Monomial, Term, Polynomial, summed}
use Rattle.printed.specs.Values.{total_degree, degree_in}

-- the total degree of uᵖvᵠ
abbrev pub degree : Powers → ℕ
degree w = w.first + w.second

-- something of each polynomial with its group
abbrev pub by_kind : {A : Type 0} → (Kind → Polynomial → A) → List Kind → List Polynomial → List A
by_kind h [] fs = []
by_kind h (k ∷ ks) [] = []
by_kind h (k ∷ ks) (f ∷ fs) = h k f ∷ by_kind h ks fs

module _ (S : Shape) where
  -- ════ a monomial and a group in the variables u and v
  -- it is uᵖvᵠ, with no other variable: p and q make up its total degree
  abbrev pub has_only : Kind → Monomial → Bool
  has_only k a = eqb (degree_in S a k.u + degree_in S a k.v) (total_degree a)

  -- and the group has a place for it
  abbrev pub stands_in : Kind → Monomial → Bool
  stands_in k a = has_only k a && leb (total_degree a) k.degree

  -- where uᵖvᵠ stands
  abbrev pub place_in : Kind → Monomial → ℕ
  place_in k a = place (degree_in S a k.u) (degree_in S a k.v)

  -- ════ a polynomial as a group
  -- what is printed before uᵖvᵠ, by the place where that stands: the numbers of all such terms; 0 where there is none
  abbrev pub printed_term : Kind → ℕ → Term → ℤ
  printed_term k i t = cond (has_only k t.monomial && eqb (place_in k t.monomial) i) t.number (pos 0)

  abbrev pub printed_at : Kind → Polynomial → ℕ → ℤ
  printed_at k f i = summed (printed_term k i) f

  -- its numbers, each of degree n times s n
  abbrev pub group : (ℕ → ℕ) → Kind → Polynomial → Group
  group s k f = record { u = k.u; v = k.v; numbers = listed (size k.degree) (λ i. printed_at k f i *ℤ pos (s (degree (powers i)))) }

  -- nothing of it is left out: each term has only the two variables of the group, and at most its degree
  abbrev pub belongs : Kind → Polynomial → Bool
  belongs k [] = true
  belongs k (t ∷ f) = stands_in k t.monomial && belongs k f

  -- ════ a coefficient as a block, by the polynomials of its groups
  -- each of them has only its own two variables
  abbrev pub each_belongs : List Polynomial → List Bool
  each_belongs fs = by_kind belongs S.kinds fs

  -- its groups one after another
  abbrev pub block_at : (ℕ → ℕ) → List Polynomial → List ℤ
  block_at s fs = laid_out (by_kind (group s) S.kinds fs)

-- ════ the scaling rule: at a place of total degree n stands a multiple of what n is scaled by
abbrev pub Multiple : ℕ → ℤ → Type 0
Multiple m z = nat_abs z % m ≡ 0

-- the total degrees along a block
unfoldable pub degrees : List Kind → List ℕ
degrees [] = []
degrees (k ∷ ks) = listed (size k.degree) (λ i. degree (powers i)) ++ degrees ks

-- the total degree at a place of a table, counted from the end of the limits
abbrev pub degree_at : Shape → ℕ → ℕ
degree_at S k = get_or (degrees S.kinds) (k % block_length S) 0
