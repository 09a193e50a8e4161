-- The order of a group's numbers: `powers` and `place` are each other's inverse, and a place rises with each power.
--   place-powers, powers-place   the place of what stands at k is k; at the place of uᵖvᵠ stands uᵖvᵠ
--   place-rises                  a larger power of u, or of v, stands later
--   place-first, place-second    how much later, for one power more
--   below-is, below-highest      how many stand before a degree, as the code works it out; before all degrees past the highest
--   degree-place                 a place is at least the total degree that stands there
--   below-mono                   more degrees have more numbers
--   next-degree, next-same       the step from one place to the next, as the code takes it
use mathlib.Core.Path.{◌≡◌, refl, sym, ◌∙◌, ap}
use Prim.Native.Nat.{ℕ, zero, suc, ◌+◌, ◌*◌, ◌-◌, ◌/◌, ◌≤◌, ◌<◌}
use native.Mathlib.Nat as N
use native.Mathlib.Omega.{arith}
use native.Mathlib.Decide.{dec_lt}
use native.Mathlib.Numerals.{add-one}
use Rattle.polynomials.specs.Order.{next, powers, below, size, place}
use Rattle.polynomials.specs.Limits.{highest_degree}
use Rattle.polynomials.specs.declared.Powers.{Powers}

below_suc : (n : ℕ) → below (suc n) ≡ below n + suc n
unfolding below
below_suc n = refl

twice-below : (n : ℕ) → n * (n + 1) ≡ 2 * below n
unfolding below
twice-below zero = refl
twice-below (suc n) = omega (arith, twice-below n, N.suc-mul n (suc n + 1), N.mul-suc n (n + 1))

pub below-is : (n : ℕ) → n * (n + 1) / 2 ≡ below n
below-is n = omega (arith, twice-below n)

pub below-highest : size highest_degree ≡ 15
unfolding below
below-highest = refl

pub below-grows : (n j : ℕ) → below n + j ≤ below (n + j)
below-grows n zero = omega (arith, ap below (N.add-zero n))
below-grows n (suc j) = omega (arith, below-grows n j, below_suc (n + j), ap below (N.add-suc n j))

pub below-mono : (m n : ℕ) → m ≤ n → below m ≤ below n
below-mono m n h = let e : m + (n - m) ≡ n = omega arith in omega (arith, below-grows m (n - m), ap below e)

pub degree-place : (p q : ℕ) → p + q ≤ place p q
unfolding below
degree-place p q = omega (arith, below-grows 0 (p + q), ap below (N.zero-add (p + q)))

pub place-below : (n p q : ℕ) → p + q < n → place p q < below n
place-below n p q h = omega (arith, below-mono (suc (p + q)) n h, below_suc (p + q))

pub place-past : (n p q : ℕ) → n ≤ p + q → below n ≤ place p q
place-past n p q h = omega (arith, below-mono n (p + q) h)

pub place-first : (p q : ℕ) → place (p + 1) q ≡ place p q + (p + q + 1)
place-first p q = let e : p + 1 + q ≡ suc (p + q) = omega arith in omega (arith, ap below e, below_suc (p + q))

pub place-second : (p q : ℕ) → place p (q + 1) ≡ place p q + (p + q + 2)
place-second p q = let e : p + (q + 1) ≡ suc (p + q) = omega arith in omega (arith, ap below e, below_suc (p + q))

pub place-rises : (p q a b : ℕ) → p ≤ a → q ≤ b → place p q ≤ place a b
place-rises p q a b h k = omega (arith, below-mono (p + q) (a + b) (omega arith))

place-inj : (a b p q : ℕ) → place a b ≡ place p q → (a ≡ p) × (b ≡ q)
place-inj a b p q e = pick (dec_lt (a + b) (p + q)) (dec_lt (p + q) (a + b))
  where
    pick : Dec (a + b < p + q) → Dec (p + q < a + b) → (a ≡ p) × (b ≡ q)
    pick (yes l) r = absurd (omega (arith, place-below (p + q) a b l))
    pick (no l) (yes r) = absurd (omega (arith, place-below (a + b) p q r))
    pick (no l) (no r) = let d : a + b ≡ p + q = omega arith in let t : below (a + b) ≡ below (p + q) = ap below d in (omega arith, omega arith)

pub place-next : (w : Powers) → place (next w).first (next w).second ≡ suc (place w.first w.second)
place-next w = go w.first w.second
  where
    go : (p q : ℕ) → let w : Powers = record { first = p; second = q } in place (next w).first (next w).second ≡ suc (place p q)
    go zero q = omega (arith, below_suc q, ap below (N.add-zero (suc q)), ap below (N.zero-add q))
    go (suc p) q = let e : p + suc q ≡ suc p + q = omega arith in omega (arith, ap below e)

pub place-powers : (k : ℕ) → place (powers k).first (powers k).second ≡ k
unfolding powers below
place-powers zero = refl
place-powers (suc k) = place-next (powers k) ∙ ap suc (place-powers k)

pub powers-place : (p q : ℕ) → ((powers (place p q)).first ≡ p) × ((powers (place p q)).second ≡ q)
powers-place p q = place-inj (powers (place p q)).first (powers (place p q)).second p q (place-powers (place p q))

-- the numbers of one total degree stand together
pub powers-degree : (n q : ℕ) → q ≤ n → ((powers (below n + q)).first ≡ n - q) × ((powers (below n + q)).second ≡ q)
powers-degree n q h =
    let e : n - q + q ≡ n = omega arith in
    place-inj (powers (below n + q)).first (powers (below n + q)).second (n - q) q (place-powers (below n + q) ∙ ap (λ m. below m + q) (sym e))

-- the step as the code takes it
module _ (w : Powers) where
  pub next-degree : w.first ≡ 0 → ◌≡◌ {A = Powers} (record { first = w.second + 1; second = 0 }) (next w)
  next-degree e = ap (λ p. record { first = p; second = 0 }) (add-one w.second) ∙ ap (λ p. next (record { first = p; second = w.second })) (sym e)

  pub next-same : (w.first ≡ 0 → ⊥) → ◌≡◌ {A = Powers} (record { first = w.first - 1; second = w.second + 1 }) (next w)
  next-same h =
      let e : suc (w.first - 1) ≡ w.first = omega arith in
      ap (λ q. record { first = w.first - 1; second = q }) (add-one w.second) ∙ ap (λ p. next (record { first = p; second = w.second })) e
