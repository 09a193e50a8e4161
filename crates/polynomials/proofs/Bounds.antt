-- What the weight of a group bounds: its values, the numbers of the moved group, and all that is worked out on the way.
--   sum_mono, sum-part                       a sum rises with its terms, and with their number
--   weight-mono                              a weight rises with the reaches
--   value-within, part-within, some-within   law 5: a value, the sum of the first terms, the sum of any of them
--   product-within                           law 5: a number times some of its powers
--   weight-moved                             law 6: the moved group at its reaches weighs no more than the old one with the moved variable's reach longer by |s|
--   moved-within, moved-part-within, moved-some-within   law 6: a number of the moved group, the sum of the first terms that make it, the sum of any of them
--   given-within                             law 6: one of those terms
use mathlib.Core.Path.{◌≡◌, sym, ◌∙◌, ap, ap₂, subst}
use mathlib.Core.Bool.{Bool, true, false, cond}
use mathlib.Core.List.{List, map}
use Prim.Native.Nat.{ℕ, zero, suc, ◌+◌, ◌-◌, ◌*◌, ◌^◌, ◌≤◌, ◌<◌}
use native.Mathlib.Nat as N
use native.Mathlib.Omega.{arith}
use lib.IntN.{ℤ, pos, nat_abs, pow, ◌*ℤ◌}
use lib.ListN.{length, get_or, length-map, get_or-map}
use Rattle.whole.proofs.Magnitudes.{nat_abs-+, within, within-*, within-pow}
use Rattle.polynomials.specs.Numbers.{ints, nats}
use Rattle.polynomials.specs.Sum.{sum}
use Rattle.polynomials.specs.Order.{powers, place}
use Rattle.polynomials.specs.Binomial.{choose}
use Rattle.polynomials.specs.Group.{own, raised, number, term, evaluated, given, moved_number, replaced, value, weight, moved}
use Rattle.polynomials.specs.declared.Variable.{Variable}
use Rattle.polynomials.specs.declared.Variable.TheVariants.{First, Second}
use Rattle.polynomials.proofs.Semiring.{natural}
use Rattle.polynomials.proofs.Sums.{sum-suc, sum-split}
use Rattle.polynomials.proofs.Places.{powers-place}
use Rattle.polynomials.proofs.Listed.{get_or-listed}
use Rattle.polynomials.proofs.Moves.{evaluated-replaced, length-replaced, length_moved}

-- ---- sums
pub sum_mono : (n : ℕ) (f g : ℕ → ℕ) → ((k : ℕ) → k < n → f k ≤ g k) → sum nats n f ≤ sum nats n g
unfolding sum
sum_mono zero f g h = N.le_refl zero
sum_mono (suc n) f g h = omega (arith, sum_mono n f g (λ k l. h k (omega arith)), h n (omega arith))

pub sum-part : (j n : ℕ) (f : ℕ → ℕ) → j ≤ n → sum nats j f ≤ sum nats n f
sum-part j n f h =
    let e : j + (n - j) ≡ n = omega arith in
    omega (arith, sum-split natural j (n - j) f, ap (λ m. sum nats m f) e)

sum-term : (n k : ℕ) (f : ℕ → ℕ) → k < n → f k ≤ sum nats n f
sum-term n k f h = omega (arith, sum-part (suc k) n f h, sum-suc natural k f)

nat_abs-sum : (n : ℕ) (f : ℕ → ℤ) → nat_abs (sum ints n f) ≤ sum nats n (λ k. nat_abs (f k))
unfolding sum
nat_abs-sum zero f = N.le_refl zero
nat_abs-sum (suc n) f = omega (arith, nat_abs-+ (sum ints n f) (f n), nat_abs-sum n f)

-- terms that are each at most those of g: the sum of the first of them, and of any of them
module _ (n : ℕ) (f : ℕ → ℤ) (g : ℕ → ℕ) (h : (k : ℕ) → nat_abs (f k) ≤ g k) where
  part-bound : (j : ℕ) → j ≤ n → nat_abs (sum ints j f) ≤ sum nats n g
  part-bound j l = N.le_trans (nat_abs-sum j f) (N.le_trans (sum_mono j _ g (λ k b. h k)) (sum-part j n g l))

  some-bound : (chosen : ℕ → Bool) → nat_abs (sum ints n (λ k. cond (chosen k) (f k) (pos 0))) ≤ sum nats n g
  some-bound chosen = N.le_trans (nat_abs-sum n _) (sum_mono n _ g (λ k b. either (chosen k) k))
    where
      either : (b : Bool) (k : ℕ) → nat_abs (cond b (f k) (pos 0)) ≤ g k
      either true k = h k
      either false k = omega arith

-- ---- magnitudes
abbrev sizes : List ℤ → List ℕ
sizes l = map nat_abs l

get_or-sizes : (l : List ℤ) (k : ℕ) → get_or (sizes l) k 0 ≡ nat_abs (get_or l k (pos 0))
get_or-sizes l k = get_or-map nat_abs l k (pos 0)

-- ---- a group's own terms
module _ (l : List ℤ) (x y : ℤ) (r t : ℕ) (hx : nat_abs x ≤ r) (hy : nat_abs y ≤ t) where
  term-bound : (k : ℕ) → nat_abs (term ints l x y k) ≤ term nats (sizes l) r t k
  unfolding term
  term-bound k =
      rw (get_or-sizes l k)
      (within-* (within-* (within (get_or l k (pos 0))) (within-pow (record { size = hx }) (powers k).first)) (within-pow (record { size = hy }) (powers k).second)).size

  pub part-within : (j : ℕ) → j ≤ length l → nat_abs (sum ints j (term ints l x y)) ≤ weight l r t
  unfolding evaluated
  part-within j h = part-bound (length (sizes l)) (term ints l x y) (term nats (sizes l) r t) term-bound j (omega (arith, length-map l nat_abs))

  pub some-within : (chosen : ℕ → Bool) → nat_abs (sum ints (length l) (λ k. cond (chosen k) (term ints l x y k) (pos 0))) ≤ weight l r t
  unfolding evaluated
  some-within chosen =
      subst (λ n. nat_abs (sum ints n (λ k. cond (chosen k) (term ints l x y k) (pos 0))) ≤ weight l r t) (length-map l nat_abs)
      (some-bound (length (sizes l)) (term ints l x y) (term nats (sizes l) r t) term-bound chosen)

  pub value-within : nat_abs (value l x y) ≤ weight l r t
  unfolding evaluated
  value-within = part-within (length l) (N.le_refl (length l))

pub weight-mono : (l : List ℤ) {r t a b : ℕ} → r ≤ a → t ≤ b → weight l r t ≤ weight l a b
unfolding evaluated term
weight-mono l h k =
    sum_mono (length (sizes l)) _ _ (λ i b. N.mul-le-mul (N.mul-le-mul (N.le_refl (get_or (sizes l) i 0)) (N.pow-le-pow_left h (powers i).first)) (N.pow-le-pow_left k (powers i).second))

-- ---- one number, with some of the powers that it stands before
module _ (r t : ℕ) (hr : 1 ≤ r) (ht : 1 ≤ t) where
  -- of any list of naturals
  number_bound : (m : List ℕ) (k i j : ℕ) → k < length m → i ≤ (powers k).first → j ≤ (powers k).second → get_or m k 0 * r ^ i * t ^ j ≤ evaluated nats m r t
  unfolding evaluated term
  number_bound m k i j h a b =
      N.le_trans (N.mul-le-mul (N.mul-le-mul_left (get_or m k 0) (N.pow-le-pow_right hr a)) (N.pow-le-pow_right ht b)) (sum-term (length m) k (term nats m r t) h)

  weight-number : (l : List ℤ) (k i j : ℕ) → k < length l → i ≤ (powers k).first → j ≤ (powers k).second → nat_abs (get_or l k (pos 0)) * r ^ i * t ^ j ≤ weight l r t
  weight-number l k i j h a b = rw (← get_or-sizes l k) (number_bound (sizes l) k i j (omega (arith, length-map l nat_abs)) a b)

  pub product-within : (l : List ℤ) (x y : ℤ) → nat_abs x ≤ r → nat_abs y ≤ t → (k i j : ℕ) → k < length l → i ≤ (powers k).first → j ≤ (powers k).second
      → nat_abs (get_or l k (pos 0) *ℤ pow x i *ℤ pow y j) ≤ weight l r t
  product-within l x y hx hy k i j h a b =
      N.le_trans (within-* (within-* (within (get_or l k (pos 0))) (within-pow (record { size = hx }) i)) (within-pow (record { size = hy }) j)).size (weight-number l k i j h a b)

-- ---- the moved group
module _ (w : Variable) (s : ℤ) (l : List ℤ) where
  number-sizes : (p q : ℕ) → number nats (sizes l) p q ≡ nat_abs (number ints l p q)
  unfolding number
  number-sizes p q = get_or-sizes l (place p q)

  raised-sizes : (v : Variable) (j p q : ℕ) → raised v j (number nats (sizes l)) p q ≡ nat_abs (raised v j (number ints l) p q)
  raised-sizes First j p q = number-sizes (p + j) q
  raised-sizes Second j p q = number-sizes p (q + j)

  given-bound : (p q j : ℕ) → nat_abs (given ints w s l p q j) ≤ given nats w (nat_abs s) (sizes l) p q j
  unfolding given
  given-bound p q j =
      rw (raised-sizes w j p q)
      (within-* (within (raised w j (number ints l) p q)) (within-* (within (pos (choose (own w p q + j) (own w p q)))) (within-pow (within s) (own w p q + j - own w p q)))).size

  -- the sum of the first terms of a moved number, against the same of the magnitudes
  moved-bound : (p q j : ℕ) → j ≤ length l → nat_abs (sum ints j (given ints w s l p q)) ≤ moved_number nats w (nat_abs s) (sizes l) p q
  unfolding moved_number
  moved-bound p q j h = part-bound (length (sizes l)) (given ints w s l p q) (given nats w (nat_abs s) (sizes l) p q) (given-bound p q) j (omega (arith, length-map l nat_abs))

  get_or-moved : (k : ℕ) → k < length l → get_or (moved w s l) k (pos 0) ≡ moved_number ints w s l (powers k).first (powers k).second
  unfolding replaced
  get_or-moved k h = get_or-listed (length l) _ k (pos 0) h

  get_or-replaced : (k : ℕ) → k < length l → get_or (replaced nats w (nat_abs s) (sizes l)) k 0 ≡ moved_number nats w (nat_abs s) (sizes l) (powers k).first (powers k).second
  unfolding replaced
  get_or-replaced k h = get_or-listed (length (sizes l)) _ k 0 (omega (arith, length-map l nat_abs))

  module _ (r t : ℕ) where
    -- the weight of the old group with the longer reach
    abbrev longer_weight : ℕ
    longer_weight = weight l (own w (r + nat_abs s) r) (own w t (t + nat_abs s))

    replaced-weight : evaluated nats (replaced nats w (nat_abs s) (sizes l)) r t ≡ longer_weight
    replaced-weight = evaluated-replaced natural w (nat_abs s) (sizes l) r t

    pub weight-moved : weight (moved w s l) r t ≤ longer_weight
    unfolding evaluated term moved_number
    weight-moved =
        let e : length (sizes (moved w s l)) ≡ length l = length-map (moved w s l) nat_abs ∙ length_moved w s l in
        let d : length (replaced nats w (nat_abs s) (sizes l)) ≡ length l = length-replaced natural w (nat_abs s) (sizes l) ∙ length-map l nat_abs in
        N.le_trans (N.le_of_eq (ap (λ n. sum nats n (term nats (sizes (moved w s l)) r t)) e))
        (N.le_trans
        (sum_mono (length l) _ (term nats (replaced nats w (nat_abs s) (sizes l)) r t) (λ k h. N.mul-le-mul_right (t ^ (powers k).second) (N.mul-le-mul_right (r ^ (powers k).first) (each k h))))
        (N.le_of_eq (ap (λ n. sum nats n (term nats (replaced nats w (nat_abs s) (sizes l)) r t)) (sym d) ∙ replaced-weight)))
      where
        each : (k : ℕ) → k < length l → get_or (sizes (moved w s l)) k 0 ≤ get_or (replaced nats w (nat_abs s) (sizes l)) k 0
        each k h =
            rw (get_or-sizes (moved w s l) k, get_or-moved k h, get_or-replaced k h) (moved-bound (powers k).first (powers k).second (length l) (N.le_refl (length l)))

    module _ (hr : 1 ≤ r) (ht : 1 ≤ t) (p q : ℕ) (h : place p q < length l) where
      moved-weight : moved_number nats w (nat_abs s) (sizes l) p q ≤ longer_weight
      moved-weight =
          let n = replaced nats w (nat_abs s) (sizes l) in
          let e : get_or n (place p q) 0 ≡ moved_number nats w (nat_abs s) (sizes l) p q =
          get_or-replaced (place p q) h ∙ ap₂ (moved_number nats w (nat_abs s) (sizes l)) (powers-place p q).0 (powers-place p q).1
          in
          let b : get_or n (place p q) 0 * r ^ 0 * t ^ 0 ≤ evaluated nats n r t =
          number_bound r t hr ht n (place p q) 0 0 (omega (arith, length-replaced natural w (nat_abs s) (sizes l), length-map l nat_abs)) (omega arith) (omega arith)
          in
          omega (arith, replaced-weight, ap (λ a. get_or n (place p q) 0 * a * t ^ 0) (N.pow-zero r), ap (λ a. get_or n (place p q) 0 * 1 * a) (N.pow-zero t))

      pub moved-part-within : (j : ℕ) → j ≤ length l → nat_abs (sum ints j (given ints w s l p q)) ≤ longer_weight
      moved-part-within j b = N.le_trans (moved-bound p q j b) moved-weight

      pub moved-some-within : (chosen : ℕ → Bool) → nat_abs (sum ints (length l) (λ k. cond (chosen k) (given ints w s l p q k) (pos 0))) ≤ longer_weight
      unfolding moved_number
      moved-some-within chosen =
          N.le_trans
          (subst (λ n. nat_abs (sum ints n (λ k. cond (chosen k) (given ints w s l p q k) (pos 0))) ≤ moved_number nats w (nat_abs s) (sizes l) p q) (length-map l nat_abs)
          (some-bound (length (sizes l)) (given ints w s l p q) (given nats w (nat_abs s) (sizes l) p q) (given-bound p q) chosen))
          moved-weight

      pub moved-within : nat_abs (moved_number ints w s l p q) ≤ longer_weight
      unfolding moved_number
      moved-within = moved-part-within (length l) (N.le_refl (length l))

      pub given-within : (j : ℕ) → j < length l → nat_abs (given ints w s l p q j) ≤ longer_weight
      unfolding moved_number
      given-within j b =
          N.le_trans (given-bound p q j)
          (N.le_trans (sum-term (length (sizes l)) j (given nats w (nat_abs s) (sizes l) p q) (omega (arith, length-map l nat_abs))) moved-weight)
