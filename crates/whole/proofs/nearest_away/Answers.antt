-- `whole::nearest_away` gives the nearest: z with half of m beside it fits, and the quotient is no larger than that. Assumes nothing.
use Rattle.std.proofs.Common.{arith, ◌≡◌, ℕ, ◌+◌, ◌/◌, ◌^◌, ◌<◌, ◌≤◌, refl, sym, ◌∙◌, subst, ℤ, pos, negsuc, nat_abs, ◌+ℤ◌, ◌-ℤ◌, ◌<ℤ◌, w64, to_z, of_z}
use native.Mathlib.Nat as N
use lib.Signed.{quot_z}
use mir.Val.{SFits}
use mir.Facts.{to_z-of_z, sfits_lit}
use Rattle.whole.specs.Nearest.{nearest_away}
use Rattle.whole.proofs.Magnitudes.{nat_abs-+, nat_abs--}
use Rattle.whole.proofs.Machine.{nat_abs-sfits, op-back, lt-taken, lt-left}
use Rattle.whole.proofs.Order.{lt_out}
use Rattle.whole.proofs.Nearest.{nearest-size, cut_below, cut-above}
use Rattle.whole.proofs.nearest_away.Goals as goal

positive : (m : ℤ) → pos 0 <ℤ m → (m ≡ pos (nat_abs m)) × (0 < nat_abs m)
positive (pos n) h = (refl, omega (arith, lt_out h))
positive (negsuc n) h = absurd (omega (arith, lt_out h))

-- on either side of 0
module _ (op : ℤ → ℤ → ℤ) (z d : ℤ) (fits-z : SFits w64 z) (fits-d : SFits w64 d) (above : pos 0 <ℤ d) (room : nat_abs z + nat_abs d / 2 < 2 ^ 63) where
  abbrev m : ℕ
  m = nat_abs d

  divisor-is : to_z w64 (of_z w64 d) ≡ pos m
  divisor-is = to_z-of_z fits-d ∙ (positive d above).0

  half_is : to_z w64 (of_z w64 (quot_z (to_z w64 (of_z w64 d)) (pos 2))) ≡ pos (m / 2)
  half_is = op-back quot_z divisor-is (refl {a = pos 2}) (nat_abs-sfits (pos (m / 2)) (omega (arith, room)))

  small : nat_abs (nearest_away m z) < 2 ^ 63
  small =
      let h = (positive d above).1 in
      N.lt_of_le_of_lt (nearest-size m h z (nat_abs z) (omega (arith, N.mul-le-mul_right (nat_abs z) h, N.one-mul (nat_abs z)))) (omega (arith, room))

  quotient-is : nat_abs (op z (pos (m / 2))) ≤ nat_abs z + m / 2 → quot_z (op z (pos (m / 2))) (pos m) ≡ nearest_away m z
      → to_z w64 (of_z w64 (quot_z (to_z w64 (of_z w64 (op (to_z w64 (of_z w64 z)) (to_z w64 (of_z w64 (quot_z (to_z w64 (of_z w64 d)) (pos 2))))))) (to_z w64 (of_z w64 d)))) ≡ nearest_away m z
  quotient-is f e =
      let sum_is = op-back op (to_z-of_z fits-z) half_is (nat_abs-sfits _ (omega (arith, f, room))) in
      op-back quot_z sum_is divisor-is (subst (SFits w64) (sym e) (nat_abs-sfits _ small)) ∙ e

pub returns-then-z-lt0 : goal.returns-then-z-lt0
returns-then-z-lt0 c =
    let z = c.args.z in
    let m = c.args.m in
    quotient-is ◌-ℤ◌ z m c.ranges.z c.ranges.m c.requires.0 c.requires.1 (nat_abs-- z (pos (nat_abs m / 2)))
    (cut_below _ z (lt-taken c.ranges.z (sfits_lit tt) c.if-z-lt0.true))

pub returns : goal.returns
returns c =
    let z = c.args.z in
    let m = c.args.m in
    quotient-is ◌+ℤ◌ z m c.ranges.z c.ranges.m c.requires.0 c.requires.1 (nat_abs-+ z (pos (nat_abs m / 2)))
    (cut-above _ z (lt-left c.ranges.z (sfits_lit tt) c.if-z-lt0.false))
