-- `rounding::nearest_whole` meets its contract: rounding keeps the sign, so the magnitude is rounded and turned back.
use Rattle.std.proofs.Common.{◌≡◌, ℕ, ◌*◌, ◌≤◌, pos, ◌-ℤ◌, neg_ℤ, sym, refl, ap, ◌∙◌, subst, mul_comm, arith, w64, SFits, to_z, of_z}
use lib.IntN.{+ℤ_idl}
use lib.Ieee.{Float, of_bits, neg}
use lib.Ieee.Positive.{num, den, den_pos}
use mir.ValLaws.{to_z_pos}
use Rattle.whole.proofs.Identity.{quote, quote-pos, quote-minus, ring1}
use Rattle.whole.proofs.Linear.{zarith}
use Rattle.whole.proofs.Machine.{op-bits, op-back}
use Rattle.whole.specs.Nearest.{nearest_up}
use Rattle.whole.proofs.Nearest.{up-within}
use Rattle.rounding.specs.Ready.{farthest_near}
use Rattle.rounding.proofs.Signs.{Below, below-zero, positive_of, above_zero, at_zero}
use Rattle.rounding.proofs.nearest_whole.Goals as goal

-- a near float rounds to a small number
small : (a : Float) (n : ℕ) → num a ≤ farthest_near * den a → n ≡ nearest_up (den a) (num a) → n ≤ farthest_near
small a n l e = subst (λ (k : ℕ). k ≤ farthest_near) (sym e) (up-within (den a) (den_pos a) (num a) farthest_near (omega (arith, mul_comm (den a) farthest_near)))

-- ---- a small number as an i64, and turned
module _ (n : ℕ) (h : n ≤ farthest_near) where
  plain : to_z w64 n ≡ pos n
  plain = to_z_pos w64 n (omega arith)

  turned-fits : SFits w64 (pos 0 -ℤ pos n)
  turned-fits = ring1 (pos 0) (λ ρ e. simp (quote, quote-pos ρ, quote-minus ρ) (omega zarith))

  turned-back : to_z w64 (of_z w64 (pos 0 -ℤ to_z w64 n)) ≡ neg_ℤ (pos n)
  turned-back = op-back ◌-ℤ◌ (refl {a = pos 0}) plain turned-fits ∙ +ℤ_idl (neg_ℤ (pos n))

-- ---- below zero
pub nearest_magnitude-requires-clause-above_zero :
    goal.nearest_magnitude-requires-clause-above_zero
unfolding of_bits
nearest_magnitude-requires-clause-above_zero c = (below-zero c.args.x c.requires c.if-x.true).turned

pub nearest_magnitude-requires-clause-near : goal.nearest_magnitude-requires-clause-near
unfolding of_bits
nearest_magnitude-requires-clause-near c = (below-zero c.args.x c.requires c.if-x.true).small

pub overflow_cast-result : goal.overflow_cast-result
unfolding of_bits
overflow_cast-result c =
    omega (arith, small (neg c.args.x) c.nearest_magnitude.result (below-zero c.args.x c.requires c.if-x.true).small c.nearest_magnitude.ensures)

pub overflow_sub-result : goal.overflow_sub-result
unfolding of_bits
overflow_sub-result c =
    let s = small (neg c.args.x) c.nearest_magnitude.result (below-zero c.args.x c.requires c.if-x.true).small c.nearest_magnitude.ensures in
    op-bits ◌-ℤ◌ (refl {a = pos 0}) (plain c.nearest_magnitude.result s) (turned-fits c.nearest_magnitude.result s)

pub returns-then-x : goal.returns-then-x
unfolding of_bits
returns-then-x c =
    let b : Below c.args.x = below-zero c.args.x c.requires c.if-x.true in
    turned-back c.nearest_magnitude.result (small (neg c.args.x) c.nearest_magnitude.result b.small c.nearest_magnitude.ensures) ∙ ap (λ (n : ℕ). neg_ℤ (pos n)) c.nearest_magnitude.ensures ∙ b.is

-- ---- above zero
pub nearest_magnitude-requires-then-x-2-clause-above_zero :
    goal.nearest_magnitude-requires-then-x-2-clause-above_zero
unfolding of_bits
nearest_magnitude-requires-then-x-2-clause-above_zero c = positive_of c.args.x c.requires c.if-x-2.true

pub returns-then-x-2 : goal.returns-then-x-2
unfolding of_bits
returns-then-x-2 c =
    plain c.nearest_magnitude-then-x-2.result (small c.args.x c.nearest_magnitude-then-x-2.result c.requires.small c.nearest_magnitude-then-x-2.ensures)
    ∙ ap pos c.nearest_magnitude-then-x-2.ensures ∙ above_zero c.args.x (positive_of c.args.x c.requires c.if-x-2.true)

-- ---- zero
pub returns-else-x-2 : goal.returns-else-x-2
unfolding of_bits
returns-else-x-2 c = at_zero c.args.x c.requires c.if-x.false c.if-x-2.false
