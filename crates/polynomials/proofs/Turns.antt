-- The loops that take numbers from the highest power down, with any product.
--   read-back               a number that fits, as it is read back
--   formed-read, followable-read   what is asked, at readings as they are read back
--   turn-can, turn-fits, turn-is   a turn, which takes the number one below: the product may be formed, the sum fits, and what it is
use Rattle.std.proofs.Common.{arith, ◌≡◌, ℕ, ◌+◌, ◌-◌, ◌^◌, ◌<◌, ◌≤◌, sym, ◌∙◌, ap, subst, List, ℤ, ◌+ℤ◌, FitsSigned, w64, to_z, of_z}
use borrow.Author.Rules.{sfits_of}
use lib.Signed.{mag}
use mir.Facts.{to_z-of_z}
use Rattle.whole.proofs.Machine.{op-bits, op-back}
use Rattle.polynomials.specs.Numbers.{ints}
use Rattle.polynomials.specs.Downward.{down}
use Rattle.polynomials.specs.Ready.{Formed, Followable}
use Rattle.polynomials.proofs.Downward.{down-more}

pub read-back : {z : ℤ} → mag z < 2 ^ 63 → to_z w64 (of_z w64 z) ≡ z
read-back {z} ok = to_z-of_z {w = w64} (sfits_of {z = z} ok)

pub formed-read : {can : ℤ → ℤ → Type 0} {times : ℤ → ℤ → ℤ} {g : ℕ → ℤ} {x : ℤ} {n : ℕ} → FitsSigned w64 x → Formed can times g x n → Formed can times g (to_z w64 (of_z w64 x)) n
formed-read {can} {times} {g} {x} {n} fits f = subst (λ z. Formed can times g z n) (sym (to_z-of_z fits)) f

pub followable-read : {can : ℤ → ℤ → Type 0} {times : ℤ → ℤ → ℤ} {l : List ℤ} {d : ℕ} {x y : ℤ} → FitsSigned w64 x → FitsSigned w64 y
    → Followable can times l d x y → Followable can times l d (to_z w64 (of_z w64 x)) (to_z w64 (of_z w64 y))
followable-read {can} {times} {l} {d} {x} {y} fits-x fits-y f =
    subst (λ z. Followable can times l d z (to_z w64 (of_z w64 y))) (sym (to_z-of_z fits-x)) (subst (Followable can times l d x) (sym (to_z-of_z fits-y)) f)

module _ {can : ℤ → ℤ → Type 0} {times : ℤ → ℤ → ℤ} {g : ℕ → ℤ} {x : ℤ} {n : ℕ} (f : Formed can times g x n) (k : ℕ) (some : 0 < k) (low : k ≤ n) {sum : ℤ} (is : sum ≡ down ints times g x (n - k) k) where
  above : sum ≡ down ints times g x (n - (k - 1 + 1)) (k - 1 + 1)
  above = let e : k ≡ k - 1 + 1 = omega arith in is ∙ ap (λ p. down ints times g x (n - p) p) e

  pub turn-can : can sum x
  turn-can = subst (λ z. can z x) (sym above) (f.multiplied (k - 1) (omega arith))

  module _ {t a : ℤ} (t-is : t ≡ times sum x) (a-is : a ≡ g (k - 1)) where
    pub turn-fits : FitsSigned w64 (t +ℤ a)
    turn-fits = op-bits ◌+ℤ◌ (t-is ∙ ap (λ z. times z x) above) a-is (f.added (k - 1) (omega arith))

    pub turn-is : to_z w64 (of_z w64 (t +ℤ a)) ≡ down ints times g x (n - (k - 1)) (k - 1)
    turn-is =
        op-back ◌+ℤ◌ (t-is ∙ ap (λ z. times z x) above) a-is (f.added (k - 1) (omega arith)) ∙ sym (down-more ints times g x n (k - 1) (omega arith))
