-- `thousandths::parts_of` meets its contract, by the fields of the bits.
use native.Mathlib.Omega.{arith}
use lib.Dec.{T}
use lib.Ieee.{Float, nan, inf, fin, binary64, fits, is_nan}
use borrow.Author.Rules.{rules}
use mathlib.Core.Bool.{not}
use Rattle.rounding.specs.Ready.{Near}
use Rattle.thousandths.proofs.Bits.{field-near, parts_low, parts-high}
use Rattle.thousandths.proofs.parts_of.Goals as goal

number : (x : Float) → Near x → T (not (is_nan x))
unfolding is_nan
number nan n = absurd n.finite
number (inf s) n = absurd n.finite
number (fin s m e) n = tt

pub float_to_bits-bits : goal.float_to_bits-bits
float_to_bits-bits c = number c.args.x c.requires

pub overflow_sub-result : goal.overflow_sub-result
overflow_sub-result c = let f : T (fits binary64 c.args.x) = search rules in omega (arith, field-near c.args.x f c.requires)

pub returns-then-field-eq0 : goal.returns-then-field-eq0
returns-then-field-eq0 c = let f : T (fits binary64 c.args.x) = search rules in parts_low c.args.x f c.requires c.if-field-eq0.true

pub returns-else-field-eq0 : goal.returns-else-field-eq0
returns-else-field-eq0 c = let f : T (fits binary64 c.args.x) = search rules in parts-high c.args.x f c.requires c.if-field-eq0.false
