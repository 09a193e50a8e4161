-- A group: the numbers of a polynomial in u and v, in their order. Its value, its weight, and the group with one variable moved.
use Rattle.std.specs.Prelude.{List, map, ℕ, ◌+◌, ℤ, nat_abs, length, get_or}
use Rattle.polynomials.specs.Numbers.{Numbers, ints, nats}
use Rattle.polynomials.specs.Sum.{sum, listed}
use Rattle.polynomials.specs.Order.{powers, place}
use Rattle.polynomials.specs.Binomial.{multiplied_out}
use Rattle.polynomials.specs.declared.Variable.{Variable}
use Rattle.polynomials.specs.declared.Variable.TheVariants.{First, Second}

-- of two things, one for u and one for v, the one that belongs to the variable
abbrev pub own : {A : Type 0} → Variable → A → A → A
own First a b = a
own Second a b = b

-- the larger power of u, or of v, by j
abbrev pub raised : {A : Type 0} → Variable → ℕ → (ℕ → ℕ → A) → ℕ → ℕ → A
raised First j c p q = c (p + j) q
raised Second j c p q = c p (q + j)

module _ (S : Numbers) where
  -- the number before uᵖvᵠ; 0 where the group has none
  unfoldable pub number : List S.N → ℕ → ℕ → S.N
  number l p q = get_or l (place p q) (S.of 0)

  -- each number times the powers of the two readings that it stands before
  unfoldable pub term : List S.N → S.N → S.N → ℕ → S.N
  term l x y k = S.mul (S.mul (get_or l k (S.of 0)) (S.power x (powers k).first)) (S.power y (powers k).second)

  -- their sum
  unfoldable pub evaluated : List S.N → S.N → S.N → S.N
  evaluated l x y = sum S (length l) (term l x y)

  -- where u is replaced by u + s and multiplied out, uᵖ⁺ʲvᵠ gives its number times what stands before uᵖ in (u + s)ᵖ⁺ʲ to uᵖvᵠ; the same for v
  unfoldable pub given : Variable → S.N → List S.N → ℕ → ℕ → ℕ → S.N
  given w s l p q j = S.mul (raised w j (number l) p q) (multiplied_out S s (own w p q + j) (own w p q))

  unfoldable pub moved_number : Variable → S.N → List S.N → ℕ → ℕ → S.N
  moved_number w s l p q = sum S (length l) (given w s l p q)

  -- the group with u, or v, replaced by itself + s, multiplied out
  unfoldable pub replaced : Variable → S.N → List S.N → List S.N
  replaced w s l = listed (length l) (λ k. moved_number w s l (powers k).first (powers k).second)

-- the value of a group at a pair of readings
abbrev pub value : List ℤ → ℤ → ℤ → ℤ
value = evaluated ints

-- its weight at a pair of reaches: the magnitudes of its numbers times powers of the reaches
abbrev pub weight : List ℤ → ℕ → ℕ → ℕ
weight l r t = evaluated nats (map nat_abs l) r t

-- the group after a move by s
abbrev pub moved : Variable → ℤ → List ℤ → List ℤ
moved = replaced ints
