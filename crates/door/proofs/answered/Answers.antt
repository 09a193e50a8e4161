-- `door::answered` meets its contract, field by field: the values are written by the shared code, and each is answered as a float.
use Rattle.std.proofs.Common.{◌≡◌, ◌∙◌, ap, ℕ, ◌<◌, List, ℤ, pos, get_or, to_z, of_z, w64, arith, rules}
use lib.Ieee.{Float, of_bits}
use Rattle.polynomials.specs.Sum.{listed}
use Rattle.polynomials.specs.Groups.{total}
use Rattle.polynomials.proofs.Listed.{get_or-listed}
use Rattle.layout.specs.Shape.{cumulus}
use Rattle.layout.specs.Blocks.{coefficient, piece}
use Rattle.layout.specs.Reading.{readings}
use Rattle.rounding.specs.Answer.{float_of}
use Rattle.door.specs.Steps.{positive_zero}
use Rattle.door.proofs.answered.Goals as goal

-- the float of one value, as it is written
float_is : (values : List ℤ) (n : ℕ) (f : ℕ → ℤ) → values ≡ listed n f → (b : ℕ) → b < n → (x : Float) → x ≡ float_of (to_z w64 (of_z w64 (get_or values b (pos 0))))
    → to_z w64 (of_z w64 (get_or values b (pos 0))) ≡ get_or values b (pos 0) → x ≡ float_of (f b)
float_is values n f e b h x is k = is ∙ ap float_of (k ∙ ap (λ l. get_or l b (pos 0)) e ∙ get_or-listed n f b (pos 0) h)

pub returns : goal.returns
unfolding of_bits
returns c =
    let f : ℕ → ℤ = λ b. total (coefficient cumulus c.args.table.now b (piece c.args.piece)) (readings c.args.state) in
    let values = c.write_values.new.out in
    λ i. record {
      number = 0;
      reading = positive_zero;
      x = float_is values 6 f c.write_values.ensures 0 (omega arith) _ c.answer.ensures (search rules) i;
      y = float_is values 6 f c.write_values.ensures 1 (omega arith) _ c.answer-2.ensures (search rules) i;
      z = float_is values 6 f c.write_values.ensures 2 (omega arith) _ c.answer-3.ensures (search rules) i;
      l = float_is values 6 f c.write_values.ensures 3 (omega arith) _ c.answer-4.ensures (search rules) i;
      m = float_is values 6 f c.write_values.ensures 4 (omega arith) _ c.answer-5.ensures (search rules) i;
      n = float_is values 6 f c.write_values.ensures 5 (omega arith) _ c.answer-6.ensures (search rules) i;
    }
