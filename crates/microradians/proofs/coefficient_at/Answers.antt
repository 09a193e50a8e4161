-- `microradians::coefficient_at` finds the three groups of the piece, may follow them, and adds what they come to. Assumes nothing.
use Rattle.std.proofs.Common.{arith, ◌≡◌, ℕ, ◌+◌, ◌*◌, sym, ◌∙◌, ap, ap₂, subst, List, ℤ, nat_abs, ◌≤◌, ◌+ℤ◌, w64, to_z, of_z}
use mir.Facts.{to_z-of_z}
use Rattle.whole.proofs.Machine.{nat_abs-sfits, op-bits, op-back}
use Rattle.polynomials.specs.Numbers.{ints}
use Rattle.polynomials.specs.Group.{number}
use Rattle.polynomials.specs.Downward.{downward}
use Rattle.polynomials.specs.Ready.{Followable}
use Rattle.polynomials.proofs.Turns.{read-back}
use Rattle.layout.specs.Reading.{readings}
use Rattle.cumulus_page.specs.Model.{coefficient_at}
use Rattle.microradians.specs.Fixed.{◌⊛◌}
use Rattle.microradians.specs.Groups.{group_count, fine_group}
use Rattle.microradians.specs.Ready.{most, Placed, Near, AllNear}
use Rattle.microradians.proofs.Bounds.{followable}
use Rattle.microradians.proofs.Held.{value_at, Found, pitch-found, xi-found, zeta-found, answer-is, sides-fit, all_fit}
use Rattle.microradians.proofs.coefficient_at.Goals as goal

-- ════ a group, as the code reads it
bits : (z : ℤ) → Near z → to_z w64 (of_z w64 z) ≡ z
bits z h = to_z-of_z (nat_abs-sfits z (omega arith))

held-near : (z : ℤ) → Near z → Near (to_z w64 (of_z w64 z))
held-near z h = rw (bits z h) h

module _ {b i degree u v : ℕ} (f : Found b i degree u v) {l : List ℤ} (e : l ≡ fine_group (group_count * b + i)) (x : ℕ → ℤ) (hu : Near (x u)) (hv : Near (x v)) where
  ready : Followable (λ a r. (nat_abs a ≤ most) × Near r) ◌⊛◌ l degree (to_z w64 (of_z w64 (x u))) (to_z w64 (of_z w64 (x v)))
  ready = followable (subst (λ m. Placed m degree) (sym e) f.placed) _ _ (held-near (x u) hu) (held-near (x v) hv)

  gives : downward ints ◌⊛◌ degree (number ints l) (to_z w64 (of_z w64 (x u))) (to_z w64 (of_z w64 (x v))) ≡ value_at (coefficient_at b) x i
  gives =
      ap (λ m. downward ints ◌⊛◌ degree (number ints m) (to_z w64 (of_z w64 (x u))) (to_z w64 (of_z w64 (x v)))) e
      ∙ ap₂ (downward ints ◌⊛◌ degree (number ints (fine_group (group_count * b + i)))) (bits (x u) hu) (bits (x v) hv) ∙ f.value x

pub group_at-requires : goal.group_at-requires
group_at-requires c =
    let near = c.requires.1.1 in
    ready (pitch-found c.args.block c.args.piece c.requires.0 c.requires.1.0) c.numbers_of-pitch.ensures (readings c.args.state) (near 0 (omega arith)) (near 3 (omega arith))

pub group_at-requires-2 : goal.group_at-requires-2
group_at-requires-2 c =
    let near = c.requires.1.1 in
    ready (xi-found c.args.block c.requires.0) c.numbers_of-aileron.ensures (readings c.args.state) (near 1 (omega arith)) (near 2 (omega arith))

pub group_at-requires-3 : goal.group_at-requires-3
group_at-requires-3 c =
    let near = c.requires.1.1 in
    ready (zeta-found c.args.block c.requires.0) c.numbers_of-rudder.ensures (readings c.args.state) (near 1 (omega arith)) (near 4 (omega arith))

-- ════ the three values, as they come back, and their sums
module _ (c : goal.After-group_at-3) where
  abbrev x : ℕ → ℤ
  x = readings c.args.state

  abbrev b : ℕ
  b = c.args.block

  abbrev n : ℕ
  n = c.args.piece

  near : AllNear x
  near = c.requires.1.1

  pitch-is : to_z w64 (of_z w64 c.group_at.result) ≡ value_at (coefficient_at b) x n
  pitch-is =
      read-back c.group_at.type_inv ∙ c.group_at.ensures
      ∙ gives (pitch-found b n c.requires.0 c.requires.1.0) c.numbers_of-pitch.ensures x (near 0 (omega arith)) (near 3 (omega arith))

  xi-is : to_z w64 (of_z w64 c.group_at-2.result) ≡ value_at (coefficient_at b) x 2
  xi-is = read-back c.group_at-2.type_inv ∙ c.group_at-2.ensures ∙ gives (xi-found b c.requires.0) c.numbers_of-aileron.ensures x (near 1 (omega arith)) (near 2 (omega arith))

  zeta-is : to_z w64 (of_z w64 c.group_at-3.result) ≡ value_at (coefficient_at b) x 3
  zeta-is =
      read-back c.group_at-3.type_inv ∙ c.group_at-3.ensures ∙ gives (zeta-found b c.requires.0) c.numbers_of-rudder.ensures x (near 1 (omega arith)) (near 4 (omega arith))

pub overflow_add-result : goal.overflow_add-result
overflow_add-result c = op-bits ◌+ℤ◌ (xi-is c) (zeta-is c) (sides-fit (b c) (n c) c.requires.0 c.requires.1.0 (x c) (near c))

pub overflow_add-result-2 : goal.overflow_add-result-2
overflow_add-result-2 c =
    let sides = sides-fit (b c) (n c) c.requires.0 c.requires.1.0 (x c) (near c) in
    op-bits ◌+ℤ◌ (pitch-is c) (op-back ◌+ℤ◌ (xi-is c) (zeta-is c) sides) (all_fit (b c) (n c) c.requires.0 c.requires.1.0 (x c) (near c))

pub returns : goal.returns
returns c =
    let sides = sides-fit (b c) (n c) c.requires.0 c.requires.1.0 (x c) (near c) in
    op-back ◌+ℤ◌ (pitch-is c) (op-back ◌+ℤ◌ (xi-is c) (zeta-is c) sides) (all_fit (b c) (n c) c.requires.0 c.requires.1.0 (x c) (near c))
    ∙ answer-is (coefficient_at (b c)) (x c) (n c) c.requires.1.0
