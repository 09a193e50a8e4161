-- Sums taken from the highest power down.
--   down-start, down-more, down-all   the first number, one more, and all, as a loop takes them
--   down-ext, downward-ext  by the numbers that count
--   down-value              with the exact product: the polynomial's value
--   row-past                a group's rows above its degree are 0
--   rows-value              with the exact product: a group's rows, however many of those that are 0 are taken, come to its value
--   downward-value          so do those up to its degree
use mathlib.Core.Path.{◌≡◌, sym, ◌∙◌, ap, ap₂}
use mathlib.Core.List.{List}
use Prim.Native.Nat.{ℕ, zero, suc, ◌+◌, ◌-◌, ◌≤◌, ◌<◌}
use native.Mathlib.Nat as N
use native.Mathlib.Omega.{arith}
use native.Mathlib.Numerals.{add-one}
use lib.ListN.{length}
use Rattle.polynomials.specs.Numbers.{Numbers}
use Rattle.polynomials.specs.Order.{size}
use Rattle.polynomials.specs.Group.{number, evaluated}
use Rattle.polynomials.specs.Downward.{down, row_downward, downward}
use Rattle.polynomials.proofs.Semiring.{Semiring, ring, nil-mul}
use Rattle.polynomials.proofs.Sums.{sum-zero, sum-suc, sum-front, sum-ext, sum-nil, sum-mul, sum-shrink}
use Rattle.polynomials.proofs.Rows.{value₁, value₁-ext}
use Rattle.polynomials.proofs.Places.{degree-place, place-past}
use Rattle.polynomials.proofs.Moves.{number_short, evaluated-at}

-- ════ with any multiplication
module _ (S : Numbers) (times : S.N → S.N → S.N) where
  module _ (g : ℕ → S.N) (x : S.N) where
    pub down-all : (n : ℕ) → down S times g x (n - 0) 0 ≡ down S times g x n 0
    down-all n = ap (λ k. down S times g x k 0) (N.sub-zero n)

    pub down-start : (n : ℕ) → down S times g x (n - n) n ≡ g n
    unfolding down
    down-start n = let e : n - n ≡ 0 = omega arith in rw e

    pub down-more : (n p : ℕ) → p < n → down S times g x (n - p) p ≡ S.add (times (down S times g x (n - (p + 1)) (p + 1)) x) (g p)
    unfolding down
    down-more n p h = let e : n - p ≡ suc (n - (p + 1)) = omega arith in rw (e, add-one p)

  pub down-ext : (f g : ℕ → S.N) (x : S.N) (k p : ℕ) → ((i : ℕ) → i ≤ k + p → f i ≡ g i) → down S times f x k p ≡ down S times g x k p
  unfolding down
  down-ext f g x zero p h = h p (omega arith)
  down-ext f g x (suc k) p h = ap₂ (λ a b. S.add (times a x) b) (down-ext f g x k (suc p) (λ i l. h i (omega arith))) (h p (omega arith))

  pub downward-ext : (d : ℕ) (f g : ℕ → ℕ → S.N) (x y : S.N) → ((p q : ℕ) → p + q ≤ d → f p q ≡ g p q) → downward S times d f x y ≡ downward S times d g x y
  downward-ext d f g x y h = down-ext _ _ y d 0 (λ q l. down-ext (λ p. f p q) (λ p. g p q) x (d - q) 0 (λ p m. h p q (omega arith)))

-- ════ with the exact one
module _ (S : Semiring) where
  open S use {add_comm, mul_comm, mul-unit, power_zero, power-suc}
  open S.numbers use {N as A, add as ◌⊕◌, mul as ◌⊗◌, power, of}

  infixl 6 ◌⊕◌
  infixl 7 ◌⊗◌
  -- one number in front
  front : (n : ℕ) (f : ℕ → A) (x : A) → value₁ S (suc n) f x ≡ value₁ S n (λ k. f (suc k)) x ⊗ x ⊕ f 0
  unfolding value₁
  front n f x =
      sum-front S n (λ k. f k ⊗ power x k)
      ∙ ap₂ (λ a b. a ⊕ b) (ap (λ a. f 0 ⊗ a) (power_zero x) ∙ mul-unit (f 0))
      (sum-ext S n _ (λ k. x ⊗ (f (suc k) ⊗ power x k)) (λ k h. ap (λ a. f (suc k) ⊗ a) (power-suc x k) ∙ simp ring) ∙ sum-mul S n x (λ k. f (suc k) ⊗ power x k) ∙ mul_comm x _)
      ∙ add_comm (f 0) _

  pub down-value : (f : ℕ → A) (x : A) (k p : ℕ) → down S.numbers ◌⊗◌ f x k p ≡ value₁ S (suc k) (λ j. f (p + j)) x
  unfolding down value₁
  down-value f x zero p =
      sym
      (sum-suc S 0 (λ j. f (p + j) ⊗ power x j)
      ∙ ap₂ (λ a b. a ⊕ b) (sum-zero S _) (ap₂ (λ i w. f i ⊗ w) (N.add-zero p) (power_zero x) ∙ mul-unit (f p)) ∙ add_comm (of 0) (f p) ∙ Semiring.add-nil S (f p))
  down-value f x (suc k) p =
      ap₂ (λ a b. a ⊗ x ⊕ b) (down-value f x k (suc p) ∙ value₁-ext S (suc k) _ (λ j. f (p + suc j)) x (λ j h. ap f (omega arith))) (ap f (sym (N.add-zero p)))
      ∙ sym (front (suc k) (λ j. f (p + j)) x)

  shrink : (m n : ℕ) (f : ℕ → A) (x : A) → m ≤ n → ((k : ℕ) → m ≤ k → f k ≡ of 0) → value₁ S n f x ≡ value₁ S m f x
  unfolding value₁
  shrink m n f x h z = sum-shrink S m n _ h (λ k l. ap (λ a. a ⊗ power x k) (z k l) ∙ nil-mul S (power x k))

  nothing : (n : ℕ) (f : ℕ → A) (x : A) → ((k : ℕ) → f k ≡ of 0) → value₁ S n f x ≡ of 0
  unfolding value₁
  nothing n f x z = sum-nil S n _ (λ k h. ap (λ a. a ⊗ power x k) (z k) ∙ nil-mul S (power x k))

  module _ (d : ℕ) (l : List A) (few : length l ≤ size d) (x y : A) where
    abbrev num : ℕ → ℕ → A
    num = number S.numbers l

    -- over as many powers as the group has numbers, those past a row's end being 0
    abbrev whole_row : ℕ → A
    whole_row q = value₁ S (length l) (λ p. num p q) x

    row_is : (q : ℕ) → row_downward S.numbers ◌⊗◌ d num x q ≡ whole_row q
    row_is q =
        down-value (λ p. num p q) x (d - q) 0 ∙ value₁-ext S (suc (d - q)) _ (λ p. num p q) x (λ p b. ap (λ i. num i q) (N.zero-add p))
        ∙ sym (shrink (suc (d - q)) (length l + suc d) (λ p. num p q) x (omega arith) (λ p b. number_short S l p q (omega (arith, place-past (suc d) p q (omega arith)))))
        ∙ shrink (length l) (length l + suc d) (λ p. num p q) x (omega arith) (λ p b. number_short S l p q (omega (arith, degree-place p q)))

    whole-row-past : (q : ℕ) → d < q → whole_row q ≡ of 0
    whole-row-past q h = nothing (length l) _ x (λ p. number_short S l p q (omega (arith, place-past (suc d) p q (omega arith))))

    pub row-past : (q : ℕ) → d < q → row_downward S.numbers ◌⊗◌ d num x q ≡ of 0
    row-past q h = row_is q ∙ whole-row-past q h

    pub rows-value : (e : ℕ) → d ≤ e → down S.numbers ◌⊗◌ (row_downward S.numbers ◌⊗◌ d num x) y e 0 ≡ evaluated S.numbers l x y
    rows-value e h =
        down-value (row_downward S.numbers ◌⊗◌ d num x) y e 0
        ∙ value₁-ext S (suc e) _ whole_row y (λ q b. ap (row_downward S.numbers ◌⊗◌ d num x) (N.zero-add q) ∙ row_is q)
        ∙ sym (shrink (suc e) (length l + suc e) whole_row y (omega arith) (λ q b. whole-row-past q (omega arith)))
        ∙ shrink (length l) (length l + suc e) whole_row y (omega arith) (λ q b. nothing (length l) _ x (λ p. number_short S l p q (omega (arith, degree-place p q))))
        ∙ sym (evaluated-at S l x y)

    pub downward-value : downward S.numbers ◌⊗◌ d num x y ≡ evaluated S.numbers l x y
    downward-value = rows-value d (N.le_refl d)
