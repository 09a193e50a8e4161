-- `limits::Limits::cuts_agree` meets its contract: the fine cut lies from the thousandths of the cut to those of the number after it. Assumes nothing.
use mathlib.Core.Path.{◌≡◌, refl, sym, ◌∙◌, ap, ap₂}
use mathlib.Core.Bool.{true, not, ◌&&◌, ◌||◌}
use Prim.Native.Nat.{◌≤◌}
use lib.IntN.{ℤ, pos, nat_abs, ◌+ℤ◌, ◌*ℤ◌}
use lib.Signed.{le_z, lt_z}
use mir.Syntax.{w64}
use mir.Val.{SFits, to_z, of_z}
use Rattle.whole.specs.Down.{thousand, rounded_down}
use Rattle.whole.proofs.Identity.{quote, quote-pos, ring1}
use Rattle.whole.proofs.Linear.{zarith, quote-nat_abs}
use Rattle.whole.proofs.Machine.{op-bits, op-back}
use Rattle.layout.specs.Shape.{shape}
use Rattle.layout.specs.Limits.{cut, fine_cut, farthest_limit, same, all_in_range, cuts_agree}
use Rattle.layout.proofs.Fine.{well-formed}
use Rattle.laws.proofs.LimitLaws.{cut-within, same-bounds}
use Rattle.limits.specs.declared.Limits.{Limits}
use Rattle.limits.proofs.Held.{held}
use Rattle.limits.proofs.Limits.cuts_agree.Goals as goal

from-fits : (c : ℤ) → nat_abs c ≤ farthest_limit → SFits w64 (pos thousand *ℤ c)
from-fits c = ring1 c (λ ρ e. simp (quote, quote-pos ρ, e, quote-nat_abs) (omega zarith))

to-fits : (c : ℤ) → nat_abs c ≤ farthest_limit → SFits w64 (pos thousand *ℤ c +ℤ pos thousand)
to-fits c = ring1 c (λ ρ e. simp (quote, quote-pos ρ, e, quote-nat_abs) (omega zarith))

-- the cut r, as it was given back
module _ (s : Limits) (range : all_in_range (shape s.model) s.numbers ≡ true) (r : ℤ) (cut-is : to_z w64 (of_z w64 r) ≡ cut (shape s.model) s.numbers) where
  near : nat_abs (cut (shape s.model) s.numbers) ≤ farthest_limit
  near = cut-within (shape s.model) s.numbers range (well-formed s.model).has-variable

  mul-fits : SFits w64 (pos thousand *ℤ to_z w64 (of_z w64 r))
  mul-fits = op-bits ◌*ℤ◌ (refl {a = pos thousand}) cut-is (from-fits (cut (shape s.model) s.numbers) near)

  abbrev from : ℤ
  from = to_z w64 (of_z w64 (pos thousand *ℤ to_z w64 (of_z w64 r)))

  from_is : from ≡ pos thousand *ℤ cut (shape s.model) s.numbers
  from_is = op-back ◌*ℤ◌ (refl {a = pos thousand}) cut-is (from-fits (cut (shape s.model) s.numbers) near)

  add-fits : SFits w64 (from +ℤ pos thousand)
  add-fits = op-bits ◌+ℤ◌ from_is (refl {a = pos thousand}) (to-fits (cut (shape s.model) s.numbers) near)

  agree : (fine : ℤ) → fine ≡ fine_cut (shape s.model) s.numbers → (shape s.model).has_fine_cut ≡ true
      → (le_z from fine && lt_z fine (to_z w64 (of_z w64 (from +ℤ pos thousand)))) ≡ cuts_agree (shape s.model) s.numbers
  agree fine fine-is has =
      let above = op-back ◌+ℤ◌ from_is (refl {a = pos thousand}) (to-fits (cut (shape s.model) s.numbers) near) in
      ap₂ ◌&&◌ (ap₂ le_z from_is fine-is) (ap₂ lt_z fine-is above)
      ∙ same-bounds (cut (shape s.model) s.numbers) (fine_cut (shape s.model) s.numbers)
      ∙ sym (ap (λ b. not b || same (cut (shape s.model) s.numbers) (rounded_down thousand (fine_cut (shape s.model) s.numbers))) has)

pub overflow_mul-from : goal.overflow_mul-from
overflow_mul-from c = mul-fits c.args.self c.requires c.at-from.result (held c.at-from.result c.at-from.type_inv c.at-from.ensures)

pub overflow_add-result : goal.overflow_add-result
overflow_add-result c = add-fits c.args.self c.requires c.at-from.result (held c.at-from.result c.at-from.type_inv c.at-from.ensures)

pub returns : goal.returns
returns c =
    agree c.args.self c.requires c.at-from.result (held c.at-from.result c.at-from.type_inv c.at-from.ensures) _ (held c.at-fine.result c.at-fine.type_inv c.at-fine.ensures)
    (sym c.has_fine_cut.ensures ∙ c.if-not-has_fine_cut.false)
