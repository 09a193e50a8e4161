-- What the groups hold, and that it fits.
--   value_at      the value in fixed point of the group i of a coefficient
--   Found        the numbers that the code finds for it: they are those of a group of that degree, and what the code sums is that value, which is small
--   pitch-found, xi-found, zeta-found   the groups that the code reads
--   answer-is, sides-fit, all_fit       the three groups of a piece: they come to the answer, in numbers that fit
use mathlib.Core.Path.{◌≡◌, refl, sym, ◌∙◌, ap, ap₂}
use mathlib.Core.Bool.{true}
use mathlib.Core.List.{List}
use Prim.Native.Nat.{ℕ, zero, suc, ◌+◌, ◌*◌, ◌/◌, ◌%◌, ◌≤◌, ◌<◌}
use native.Mathlib.Nat as N
use native.Mathlib.Decide.{dec_lt}
use native.Mathlib.Omega.{arith}
use borrow.Author.Tests.{leb-true}
use lib.Dec.{leb}
use lib.IntN.{ℤ, pos, nat_abs, ◌+ℤ◌, ◌*ℤ◌, +ℤ_idl, +ℤ_idr}
use lib.ListN.{length, get_or, get_or-eq_default}
use mir.Syntax.{w64}
use mir.Val.{SFits}
use Rattle.whole.proofs.Magnitudes.{nat_abs-+}
use Rattle.whole.proofs.Machine.{nat_abs-sfits}
use Rattle.polynomials.specs.Numbers.{ints}
use Rattle.polynomials.specs.Order.{below, size, place}
use Rattle.polynomials.specs.Sum.{listed}
use Rattle.polynomials.specs.Group.{number}
use Rattle.polynomials.specs.Limits.{highest_degree}
use Rattle.polynomials.specs.Downward.{downward}
use Rattle.polynomials.proofs.Listed.{length-listed, get_or-listed}
use Rattle.polynomials.proofs.Places.{place-below}
use Rattle.polynomials.proofs.Downward.{downward-ext}
use Rattle.layout.specs.Shape.{cumulus, kind_at}
use Rattle.layout.specs.Blocks.{piece}
use Rattle.layout.specs.Limits.{every}
use Rattle.laws.proofs.Tests.{every-all}
use Rattle.cumulus_page.specs.Model.{Coefficient, coefficient_at}
use Rattle.printed.specs.Stored.{printed_at}
use Rattle.microradians.specs.Fixed.{per_printed, ◌⊛◌, nano, in_fixed_point}
use Rattle.microradians.specs.Groups.{group_count, part_at, fine_numbers, fine_group}
use Rattle.microradians.specs.Answer.{answer_in}
use Rattle.microradians.specs.Ready.{largest, most, Placed, Near, AllNear}
use Rattle.microradians.proofs.Bounds.{group-size}

-- ════ the numbers of a group
abbrev numbers_of : ℕ → ℕ → List ℤ
numbers_of b i = fine_numbers (kind_at cumulus i) (part_at (coefficient_at b) i)

counted : (b i : ℕ) → i < group_count → fine_group (group_count * b + i) ≡ numbers_of b i
counted b i h =
    let e : (group_count * b + i) / group_count ≡ b = omega arith in
    let f : (group_count * b + i) % group_count ≡ i = omega arith in
    ap₂ (λ c k. numbers_of c k) e f

-- the one computed fact over the constants
all_small : every cumulus.blocks (λ b. every group_count (λ i. every (size highest_degree) (λ k. leb (nat_abs (get_or (numbers_of b i) k (pos 0))) largest))) ≡ true
unfolding every listed below
all_small = refl

module _ (b i : ℕ) (h : b < cumulus.blocks) (l : i < group_count) where
  long : length (numbers_of b i) ≡ size highest_degree
  long = length-listed (size highest_degree) _

  small : (k : ℕ) → nat_abs (get_or (numbers_of b i) k (pos 0)) ≤ largest
  small k = by (dec_lt k (size highest_degree))
    where
      by : Dec (k < size highest_degree) → nat_abs (get_or (numbers_of b i) k (pos 0)) ≤ largest
      by (yes m) = leb-true _ largest (every-all (size highest_degree) _ (every-all group_count _ (every-all cumulus.blocks _ all_small b h) i l) k m)
      by (no m) = rw (get_or-eq_default (numbers_of b i) (pos 0) {n = k} (omega (arith, long))) (omega arith)

-- ════ the values
module _ (C : Coefficient) (x : ℕ → ℤ) where
  abbrev pub value_at : ℕ → ℤ
  value_at i = in_fixed_point x (kind_at cumulus i) (part_at C i)

  pub answer-is : (n : ℕ) → n < 2 → value_at n +ℤ (value_at 2 +ℤ value_at 3) ≡ answer_in (piece n) C x
  answer-is zero h = sym (ap (λ z. value_at 0 +ℤ z) (+ℤ_idl _ ∙ ap (λ z. value_at 2 +ℤ z) (+ℤ_idr (value_at 3))))
  answer-is (suc zero) h = sym (+ℤ_idl _ ∙ ap (λ z. value_at 1 +ℤ (value_at 2 +ℤ z)) (+ℤ_idr (value_at 3)))
  answer-is (suc (suc n)) h = absurd (omega arith)

pub record Found (b i degree u v : ℕ) : Type 0 where
  pub placed : Placed (fine_group (group_count * b + i)) degree
  pub value : (x : ℕ → ℤ) → downward ints ◌⊛◌ degree (number ints (fine_group (group_count * b + i))) (x u) (x v) ≡ value_at (coefficient_at b) x i
  pub size : (x : ℕ → ℤ) → Near (x u) → Near (x v) → nat_abs (value_at (coefficient_at b) x i) ≤ most

module _ (b i : ℕ) (h : b < cumulus.blocks) (l : i < group_count) (d : (kind_at cumulus i).degree ≤ highest_degree) where
  abbrev degree : ℕ
  degree = (kind_at cumulus i).degree

  stands : Placed (numbers_of b i) degree
  stands = record { low = d; small = small b i h l }

  number_is : (p q : ℕ) → p + q ≤ degree → number ints (numbers_of b i) p q ≡ nano (kind_at cumulus i) (part_at (coefficient_at b) i) p q
  unfolding number
  number_is p q m = get_or-listed (size highest_degree) (λ k. printed_at cumulus (kind_at cumulus i) (part_at (coefficient_at b) i) k *ℤ pos per_printed) (place p q) (pos 0) (place-below (suc highest_degree) p q (omega arith))

  value-is : (x : ℕ → ℤ) → downward ints ◌⊛◌ degree (number ints (numbers_of b i)) (x (kind_at cumulus i).u) (x (kind_at cumulus i).v) ≡ value_at (coefficient_at b) x i
  value-is x = downward-ext ints ◌⊛◌ degree _ _ _ _ number_is

  found : Found b i degree (kind_at cumulus i).u (kind_at cumulus i).v
  found =
      record {
        placed = rw (counted b i l) stands;
        value = λ x. rw (counted b i l) (value-is x);
        size = λ x hu hv. N.le_trans (N.le_of_eq (ap nat_abs (sym (value-is x)))) (group-size stands (x (kind_at cumulus i).u) (x (kind_at cumulus i).v) hu hv degree 0 (N.le_refl _));
      }

pub pitch-found : (b n : ℕ) → b < cumulus.blocks → n < 2 → Found b n 3 0 3
pitch-found b zero h l = found b 0 h (omega arith) (omega arith)
pitch-found b (suc zero) h l = found b 1 h (omega arith) (omega arith)
pitch-found b (suc (suc n)) h l = absurd (omega arith)

pub xi-found : (b : ℕ) → b < cumulus.blocks → Found b 2 4 1 2
xi-found b h = found b 2 h (omega arith) (omega arith)

pub zeta-found : (b : ℕ) → b < cumulus.blocks → Found b 3 4 1 4
zeta-found b h = found b 3 h (omega arith) (omega arith)

-- ════ the three groups of a piece
module _ (b n : ℕ) (h : b < cumulus.blocks) (l : n < 2) (x : ℕ → ℤ) (near : AllNear x) where
  abbrev v : ℕ → ℤ
  v = value_at (coefficient_at b) x

  xi-size : nat_abs (v 2) ≤ most
  xi-size = (xi-found b h).size x (near 1 (omega arith)) (near 2 (omega arith))

  zeta-size : nat_abs (v 3) ≤ most
  zeta-size = (zeta-found b h).size x (near 1 (omega arith)) (near 4 (omega arith))

  pitch-size : nat_abs (v n) ≤ most
  pitch-size = (pitch-found b n h l).size x (near 0 (omega arith)) (near 3 (omega arith))

  pub sides-fit : SFits w64 (v 2 +ℤ v 3)
  sides-fit = nat_abs-sfits _ (omega (arith, nat_abs-+ (v 2) (v 3), xi-size, zeta-size))

  pub all_fit : SFits w64 (v n +ℤ (v 2 +ℤ v 3))
  all_fit = nat_abs-sfits _ (omega (arith, nat_abs-+ (v n) (v 2 +ℤ v 3), nat_abs-+ (v 2) (v 3), pitch-size, xi-size, zeta-size))
