-- `rounding::answer` meets its contract: the code's 1e17 is computed to be the float of the whole number 10¹⁷.
use Rattle.std.proofs.Common.{◌^◌, pos, ap, ◌∙◌, to_z-of_z}
use lib.Ieee.{Float, binary64, div, of_int, of_bits}
use Rattle.rounding.specs.Answer.{float_of}
use Rattle.rounding.proofs.answer.Goals as goal

pub returns : goal.returns
unfolding float_of of_int of_bits
returns c =
    ap (λ (y : Float). div binary64 y (of_int binary64 (pos (10 ^ 17))))
    (c.nearest_i64_to_f64.ensures ∙ ap (of_int binary64) (to_z-of_z c.ranges.z))
