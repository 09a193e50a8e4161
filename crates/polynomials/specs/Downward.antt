-- Sums taken from the highest power down, with a multiplication of one's own: exact, or rounded each time.
use Rattle.std.specs.Prelude.{List, map, ℕ, zero, suc, ◌-◌, ◌*◌, ℤ, nat_abs}
use Rattle.polynomials.specs.Numbers.{Numbers, nats}
use Rattle.polynomials.specs.Group.{number}

module _ (S : Numbers) (times : S.N → S.N → S.N) where
  -- what stands before the powers p to p + k of x, over the power p: k products, the highest number first
  unfoldable pub down : (ℕ → S.N) → S.N → ℕ → ℕ → S.N
  down g x zero p = g p
  down g x (suc k) p = S.add (times (down g x k (suc p)) x) (g p)

  -- what stands before the powers 0 to d - q of u beside vᵠ
  abbrev pub row_downward : ℕ → (ℕ → ℕ → S.N) → S.N → ℕ → S.N
  row_downward d c x q = down (λ p. c p q) x (d - q) 0

  -- numbers c p q before uᵖvᵠ of total degree at most d: each row in u, and the rows from the highest power of v down
  abbrev pub downward : ℕ → (ℕ → ℕ → S.N) → S.N → S.N → S.N
  downward d c x y = down (row_downward d c x) y d 0

-- what the magnitudes of a group beside vᵠ weigh at a reach of u
abbrev pub row_weight : ℕ → List ℤ → ℕ → ℕ → ℕ
row_weight d l r q = row_downward nats ◌*◌ d (number nats (map nat_abs l)) r q
