-- What the code reads from the powers of v + s multiplied out, a row for each.
--   row_number, shift_in_lem   the number before a power in a row, and the shift of the rows
use mathlib.Core.Path.{◌≡◌, ◌∙◌, ap}
use mathlib.Core.List.{List, []}
use Prim.Native.Nat.{ℕ, ◌<◌}
use native.Mathlib.Omega.{arith}
use lib.IntN.{ℤ, pos, pow}
use lib.ListN.{get_or}
use Rattle.whole.proofs.Ring.{unit-*ℤ, pow-one}
use Rattle.polynomials.specs.Sum.{listed}
use Rattle.polynomials.specs.Numbers.{ints}
use Rattle.polynomials.specs.Binomial.{choose, multiplied_out, multiplied_rows, shift_in}
use Rattle.polynomials.proofs.Listed.{get_or-listed}

module _ (s : ℤ) {rows : List (List ℤ)} (e : rows ≡ multiplied_rows s) where
  pub row_number : (k p : ℕ) → k < 5 → p < 5 → get_or (get_or rows k []) p (pos 0) ≡ multiplied_out ints s k p
  row_number k p h l =
      ap (λ r. get_or (get_or r k []) p (pos 0)) e ∙ ap (λ row. get_or row p (pos 0)) (get_or-listed 5 (λ k. listed 5 (multiplied_out ints s k)) k [] h)
      ∙ get_or-listed 5 (multiplied_out ints s k) p (pos 0) l

  -- such rows tell their shift
  pub shift_in_lem : shift_in rows ≡ s
  unfolding choose shift_in
  shift_in_lem = row_number 1 0 (omega arith) (omega arith) ∙ unit-*ℤ (pow s 1) ∙ pow-one s
