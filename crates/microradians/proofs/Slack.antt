-- How far a sum taken from the highest power down is off, followed product by product.
--   silent        all of the numbers p to p + k are 0
--   slack         what a sum is off by at most, where readings reach to R: nothing while all numbers are 0
--   downward-off  a group, for any numbers and degree
--   products, multiplications   how many products there are: 9 in a group of degree 3, 14 in one of degree 4
--   counted       with no reading above a radian, a group is off by at most one half for each product
use mathlib.Core.Path.{◌≡◌, refl, sym, ◌∙◌, ap, ap₂}
use mathlib.Core.Bool.{Bool, true, false, cond, ◌&&◌}
use Prim.Native.Nat.{ℕ, zero, suc, ◌+◌, ◌-◌, ◌*◌, ◌^◌, ◌≤◌}
use native.Mathlib.Nat as N
use native.Mathlib.Omega.{arith}
use borrow.Author.Tests.{eqb-true}
use lib.Dec.{eqb}
use lib.IntN.{ℤ, pos, nat_abs, ◌+ℤ◌, ◌*ℤ◌}
use Rattle.whole.proofs.Magnitudes.{nat_abs-zero}
use Rattle.polynomials.specs.Numbers.{ints}
use Rattle.polynomials.specs.Downward.{down, row_downward, downward}
use Rattle.polynomials.proofs.Semiring.{whole, nil-mul}
use Rattle.laws.proofs.Tests.{&&-left, &&-right}
use Rattle.microradians.specs.Fixed.{per_printed, ◌⊛◌}
use Rattle.microradians.proofs.Off.{M, Off, off-exact, off-+, off-times, off_nil, nil-times}

-- ════ one variable
unfoldable pub silent : (ℕ → Bool) → ℕ → ℕ → Bool
silent z zero p = z p
silent z (suc k) p = silent z k (suc p) && z p

-- D is the power of 10⁶ at the power 0, c what the numbers themselves are off by
unfoldable pub slack : (R D : ℕ) → (ℕ → Bool) → (ℕ → ℕ) → ℕ → ℕ → ℕ
slack R D z c zero p = c p
slack R D z c (suc k) p = cond (silent z k (suc p)) 0 (slack R D z c k (suc p) * R + M ^ (D - p)) + c p

-- with a product that takes 0 to 0, numbers of 0 come to 0
silent-nil : (times : ℤ → ℤ → ℤ) (g : ℕ → ℤ) (r : ℤ) (z : ℕ → Bool) → times (pos 0) r ≡ pos 0 → ((p : ℕ) → z p ≡ true → g p ≡ pos 0)
    → (k p : ℕ) → silent z k p ≡ true → down ints times g r k p ≡ pos 0
unfolding silent down
silent-nil times g r z t h zero p s = h p s
silent-nil times g r z t h (suc k) p s =
    ap₂ (λ a b. times a r +ℤ b) (silent-nil times g r z t h k (suc p) (&&-left (silent z k (suc p)) (z p) s)) (h p (&&-right (silent z k (suc p)) (z p) s))
    ∙ ap (λ a. a +ℤ pos 0) t

module _ (g e : ℕ → ℤ) (c : ℕ → ℕ) (z : ℕ → Bool) (d D : ℕ) (below : d ≤ D)
    (near : (p : ℕ) → p ≤ d → Off (M ^ (D - p)) (c p) (g p) (e p)) (nil : (p : ℕ) → z p ≡ true → (g p ≡ pos 0) × (e p ≡ pos 0))
    (r : ℤ) (R : ℕ) (h : nat_abs r ≤ R) where
  abbrev rounded : ℕ → ℕ → ℤ
  rounded = down ints ◌⊛◌ g r

  abbrev exact : ℕ → ℕ → ℤ
  exact = down ints ◌*ℤ◌ e r

  down-off : (k p : ℕ) → k + p ≡ d → Off (M ^ (D - p)) (slack R D z c k p) (rounded k p) (exact k p)
  unfolding down slack
  down-off zero p l = near p (omega arith)
  down-off (suc k) p l = off-+ (product (down-off k (suc p) (omega arith)) (silent z k (suc p)) refl) (near p (omega arith))
    where
      step : M ^ (D - suc p) * M ≡ M ^ (D - p)
      step = let a : D - p ≡ suc (D - suc p) = omega arith in sym (ap (λ n. M ^ n) a ∙ N.pow-suc M (D - suc p))

      product : Off (M ^ (D - suc p)) (slack R D z c k (suc p)) (rounded k (suc p)) (exact k (suc p)) → (s : Bool) → silent z k (suc p) ≡ s
          → Off (M ^ (D - p)) (cond s 0 (slack R D z c k (suc p) * R + M ^ (D - p))) (rounded k (suc p) ⊛ r) (exact k (suc p) *ℤ r)
      product o true s =
          off_nil _ (ap (λ a. a ⊛ r) (silent-nil ◌⊛◌ g r z (nil-times r) (λ p h. (nil p h).0) k (suc p) s) ∙ nil-times r)
          (ap (λ a. a *ℤ r) (silent-nil ◌*ℤ◌ e r z (nil-mul whole r) (λ p h. (nil p h).1) k (suc p) s) ∙ nil-mul whole r)
      product o false s = rw step at (off-times r R h o)

-- ════ two variables: printed numbers f before uᵖvᵠ, and what they are exactly
module _ (f : ℕ → ℕ → ℤ) (d D : ℕ) where
  abbrev pub zero-at : ℕ → ℕ → Bool
  zero-at q p = eqb (nat_abs (f p q)) 0

  abbrev pub row-silent : ℕ → Bool
  row-silent q = silent (zero-at q) (d - q) 0

  abbrev pub row_slack : ℕ → ℕ → ℕ
  row_slack R q = slack R (D - q) (zero-at q) (λ p. 0) (d - q) 0

  abbrev pub group_slack : ℕ → ℕ → ℕ
  group_slack R T = slack T D row-silent (row_slack R) d 0

  abbrev pub nanos : ℕ → ℕ → ℤ
  nanos p q = f p q *ℤ pos per_printed

  abbrev pub exactly : ℕ → ℕ → ℤ
  exactly p q = f p q *ℤ pos (M ^ (D - (p + q)))

  nil-at : (q p : ℕ) → zero-at q p ≡ true → (nanos p q ≡ pos 0) × (exactly p q ≡ pos 0)
  nil-at q p e =
      let z = nat_abs-zero (f p q) (eqb-true (nat_abs (f p q)) 0 e) in
      (ap (λ a. a *ℤ pos per_printed) z, ap (λ a. a *ℤ pos (M ^ (D - (p + q)))) z ∙ nil-mul whole (pos (M ^ (D - (p + q)))))

  module _ (x y : ℤ) (R T : ℕ) (hx : nat_abs x ≤ R) (hy : nat_abs y ≤ T) (b : d ≤ D) where
    row-nil : (q : ℕ) → row-silent q ≡ true → (row_downward ints ◌⊛◌ d nanos x q ≡ pos 0) × (row_downward ints ◌*ℤ◌ d exactly x q ≡ pos 0)
    row-nil q s = (
      silent-nil ◌⊛◌ (λ p. nanos p q) x (zero-at q) (nil-times x) (λ p e. (nil-at q p e).0) (d - q) 0 s,
      silent-nil ◌*ℤ◌ (λ p. exactly p q) x (zero-at q) (nil-mul whole x) (λ p e. (nil-at q p e).1) (d - q) 0 s,
    )

    number-off : (q p : ℕ) → Off (M ^ (D - q - p)) 0 (nanos p q) (exactly p q)
    number-off q p = let e : D - q - p ≡ D - (p + q) = omega arith in rw e (off-exact (M ^ (D - (p + q))) (f p q))

    row-off : (q : ℕ) → q ≤ d → Off (M ^ (D - q)) (row_slack R q) (row_downward ints ◌⊛◌ d nanos x q) (row_downward ints ◌*ℤ◌ d exactly x q)
    row-off q l =
        rw (N.sub-zero (D - q)) at
        (down-off (λ p. nanos p q) (λ p. exactly p q) (λ p. 0) (zero-at q) (d - q) (D - q) (omega arith) (λ p m. number-off q p) (λ p e. nil-at q p e) x R hx (d - q) 0 (N.add-zero (d - q)))

    pub downward-off : Off (M ^ D) (group_slack R T) (downward ints ◌⊛◌ d nanos x y) (downward ints ◌*ℤ◌ d exactly x y)
    downward-off =
        rw (N.sub-zero D) at
        (down-off (row_downward ints ◌⊛◌ d nanos x) (row_downward ints ◌*ℤ◌ d exactly x) (row_slack R) row-silent d D b row-off row-nil y T hy d 0 (N.add-zero d))

-- ════ counted
-- where the number at p has n p products of its own
unfoldable pub products : (ℕ → ℕ) → ℕ → ℕ → ℕ
products n zero p = n p
products n (suc k) p = products n k (suc p) + 1 + n p

abbrev pub multiplications : ℕ → ℕ
multiplications d = products (λ q. d - q) d 0

at_most : (s : Bool) (n : ℕ) → cond s 0 n ≤ n
at_most true n = omega arith
at_most false n = N.le_refl n

module _ (R D d : ℕ) (z : ℕ → Bool) (c n : ℕ → ℕ) (hR : R ≤ M) (b : d ≤ D) (h : (p : ℕ) → p ≤ d → c p ≤ n p * M ^ (D - p)) where
  slack-counted : (k p : ℕ) → k + p ≡ d → slack R D z c k p ≤ products n k p * M ^ (D - p)
  unfolding slack products
  slack-counted zero p l = h p (omega arith)
  slack-counted (suc k) p l =
      sum (slack R D z c k (suc p)) (products n k (suc p)) (silent z k (suc p)) (slack-counted k (suc p) (omega arith)) (h p (omega arith))
    where
      step : M ^ (D - p) ≡ M ^ (D - suc p) * M
      step = let a : D - p ≡ suc (D - suc p) = omega arith in ap (λ m. M ^ m) a ∙ N.pow-suc M (D - suc p)

      sum : (w m : ℕ) (s : Bool) → w ≤ m * M ^ (D - suc p) → c p ≤ n p * M ^ (D - p) → cond s 0 (w * R + M ^ (D - p)) + c p ≤ (m + 1 + n p) * M ^ (D - p)
      sum w m s hw hc =
          let e : w * R ≤ m * M ^ (D - p) = N.le_trans (N.mul-le-mul hw hR) (N.le_of_eq (N.mul_assoc m (M ^ (D - suc p)) M ∙ ap (λ t. m * t) (sym step))) in
          omega (arith, at_most s (w * R + M ^ (D - p)), e, hc, N.add-mul (m + 1) (n p) (M ^ (D - p)), N.add-mul m 1 (M ^ (D - p)), N.one-mul (M ^ (D - p)))

none_left : (k p : ℕ) → products (λ i. 0) k p ≡ k
unfolding products
none_left zero p = refl
none_left (suc k) p = omega (arith, none_left k (suc p))

module _ (f : ℕ → ℕ → ℤ) (d D R T : ℕ) (hR : R ≤ M) (hT : T ≤ M) (b : d ≤ D) where
  row-counted : (q : ℕ) → q ≤ d → row_slack f d D R q ≤ (d - q) * M ^ (D - q)
  row-counted q l =
      rw (none_left (d - q) 0, N.sub-zero (D - q)) at
      (slack-counted R (D - q) (d - q) (zero-at f d D q) (λ p. 0) (λ p. 0) hR (omega arith) (λ p m. omega arith) (d - q) 0 (N.add-zero (d - q)))

  pub counted : group_slack f d D R T ≤ multiplications d * M ^ D
  counted = rw (N.sub-zero D) at (slack-counted T D d (row-silent f d D) (row_slack f d D R) (λ q. d - q) hT b row-counted d 0 (N.add-zero d))
