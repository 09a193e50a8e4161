-- `shifting::multiplied_out` meets its contract, row by row. Assumes nothing.
use mathlib.Core.Path.{◌≡◌, sym, ◌∙◌, ap}
use mathlib.Core.List.{List, [], ◌∷◌}
use Prim.Native.Nat.{ℕ}
use lib.IntN.{ℤ}
use mir.Facts.{to_z-of_z}
use Rattle.polynomials.specs.Numbers.{ints}
use Rattle.polynomials.specs.Sum.{listed}
use Rattle.polynomials.specs.Binomial.{multiplied_out, multiplied_rows, shift_in}
use Rattle.polynomials.proofs.MultipliedRows.{shift_in_lem}
use Rattle.shifting.proofs.multiplied_out.Goals as goal

abbrev row : ℤ → ℕ → List ℤ
row s k = listed 5 (multiplied_out ints s k)

made : {s z : ℤ} {a b c d e : List ℤ} → z ≡ s → a ≡ row z 0 → b ≡ row z 1 → c ≡ row z 2 → d ≡ row z 3 → e ≡ row z 4 → a ∷ b ∷ c ∷ d ∷ e ∷ [] ≡ multiplied_rows s
unfolding listed
made h p q r t u = (λ i. p i ∷ q i ∷ r i ∷ t i ∷ u i ∷ []) ∙ ap multiplied_rows h

of-a-shift : (s : ℤ) {rows : List (List ℤ)} → rows ≡ multiplied_rows s → rows ≡ multiplied_rows (shift_in rows)
of-a-shift s m = m ∙ ap multiplied_rows (sym (shift_in_lem s m))

pub returns : goal.returns
returns c = made (to_z-of_z c.ranges.s) c.multiplied_row.ensures c.multiplied_row-2.ensures c.multiplied_row-3.ensures c.multiplied_row-4.ensures c.multiplied_row-5.ensures

pub invariant_of-result : goal.invariant_of-result
invariant_of-result c = record {
  of_a_shift = of-a-shift c.args.s (made (to_z-of_z c.ranges.s) c.multiplied_row.ensures c.multiplied_row-2.ensures c.multiplied_row-3.ensures c.multiplied_row-4.ensures c.multiplied_row-5.ensures);
}
