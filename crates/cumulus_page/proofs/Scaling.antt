-- The scaling rule of the published table.
--   published-multiples   at every place after the limits stands a multiple of 1000⁴⁻ⁿ, n the total degree there
use mathlib.Core.Path.{◌≡◌, refl}
use mathlib.Core.Bool.{true}
use Prim.Native.Nat.{ℕ, ◌*◌, ◌-◌, ◌≤◌, ◌<◌}
use lib.IntN.{pos}
use lib.ListN.{get_or}
use Rattle.polynomials.specs.Order.{powers, below}
use Rattle.polynomials.specs.Sum.{listed}
use Rattle.layout.specs.Shape.{kinds_length, limits_length, block_length, table_length, cumulus}
use Rattle.layout.specs.Blocks.{laid_out}
use Rattle.layout.specs.Limits.{every}
use Rattle.printed.specs.Stored.{Multiple, degrees, degree_at}
use Rattle.printed.proofs.Scaling.{is_multiple, scaling}
use Rattle.cumulus_page.specs.Model.{milliradians, scale}
use Rattle.cumulus_page.specs.Published.{published}

tested : every (block_length cumulus * cumulus.blocks) (is_multiple cumulus milliradians published) ≡ true
unfolding published laid_out listed powers below kinds_length degrees every
tested = refl

pub published-multiples : (k : ℕ) → limits_length cumulus ≤ k → k < table_length cumulus
    → Multiple (scale (degree_at cumulus (k - limits_length cumulus))) (get_or published k (pos 0))
published-multiples = scaling cumulus milliradians published tested
