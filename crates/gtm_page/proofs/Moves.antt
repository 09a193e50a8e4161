-- Every move of the published table up to given sizes is accepted.
--   move-accepted   each move of the published table by at most 500 in alpha and 1500 in eta is done
use mathlib.Core.Path.{◌≡◌, refl}
use mathlib.Core.Bool.{true}
use mathlib.Core.List.{List}
use Prim.Native.Nat.{ℕ, ◌≤◌, ◌<◌}
use lib.IntN.{ℤ, nat_abs}
use lib.ListN.{length}
use Rattle.polynomials.specs.Sum.{sum, listed}
use Rattle.polynomials.specs.Order.{powers, below}
use Rattle.polynomials.specs.Group.{term, evaluated}
use Rattle.polynomials.specs.Groups.{total_weight, longer}
use Rattle.layout.specs.declared.Model.TheVariants.{Gtm}
use Rattle.layout.specs.Shape.{kinds_length, table_length, gtm}
use Rattle.layout.specs.Limits.{every}
use Rattle.layout.specs.Blocks.{groups, laid_out, chosen, coefficient}
use Rattle.layout.specs.Sound.{within_cap}
use Rattle.layout.specs.Refusals.{done}
use Rattle.layout.specs.Moving.{move_number}
use Rattle.layout.proofs.Fine.{well-formed}
use Rattle.laws.proofs.SingleMoves.{near_enough, single-moves}
use Rattle.gtm_page.specs.Published.{published}
use Rattle.gtm_page.specs.Envelope.{farthest_move}
use Rattle.gtm_page.proofs.Envelope.{sound-table}

-- one computation over both variables
tested : every gtm.variables (near_enough gtm published farthest_move) ≡ true
unfolding published laid_out listed sum powers below term evaluated total_weight longer kinds_length every groups chosen coefficient within_cap
tested = refl

pub move-accepted : (i : ℕ) (s : ℤ) → i < gtm.variables → nat_abs s ≤ farthest_move i → (out : List ℤ) → length out ≡ table_length gtm → move_number gtm published i s out ≡ done
move-accepted = single-moves gtm published (well-formed Gtm) sound-table farthest_move tested
