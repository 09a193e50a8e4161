-- The published table is sound, and its readings are refused exactly outside the envelope.
--   sound-table   a table's length, good limits, and six weights within the cap
--   read-inside       with room for three, it is read exactly in the envelope
use mathlib.Core.Path.{◌≡◌, refl}
use mathlib.Core.Logic.{◌↔◌}
use mathlib.Core.Bool.{true}
use mathlib.Core.List.{List}
use Prim.Native.Nat.{ℕ, zero, suc, ◌<◌}
use native.Mathlib.Omega.{arith}
use lib.IntN.{ℤ}
use lib.ListN.{length}
use Rattle.polynomials.specs.Sum.{sum, listed}
use Rattle.polynomials.specs.Order.{powers, below}
use Rattle.polynomials.specs.Group.{term, evaluated}
use Rattle.polynomials.specs.Groups.{total_weight}
use Rattle.layout.specs.Shape.{kinds_length, gtm}
use Rattle.layout.specs.Limits.{every, all_in_range, good}
use Rattle.layout.specs.Blocks.{groups, laid_out, chosen, coefficient}
use Rattle.layout.specs.Sound.{within_cap, SoundTable}
use Rattle.layout.specs.Refusals.{done}
use Rattle.layout.specs.Reading.{inside, read_number}
use Rattle.laws.proofs.Accepted.{read-done-exactly}
use Rattle.printed.proofs.Envelope.{between, within}
use Rattle.gtm_page.specs.Published.{published}
use Rattle.gtm_page.specs.Envelope.{Envelope}

pub sound-table : SoundTable gtm published
unfolding published laid_out listed sum powers below term evaluated total_weight kinds_length every all_in_range good groups chosen coefficient within_cap
sound-table = record { long = refl; is-sound = refl }

-- ════ the readings and their limits
module _ (x : ℕ → ℤ) where
  from-envelope : Envelope x → (i : ℕ) → i < gtm.variables → inside gtm published x i ≡ true
  unfolding published
  from-envelope e zero h = within e.alpha
  from-envelope e (suc zero) h = within e.eta
  from-envelope e (suc (suc i)) h = absurd (omega arith)

  to-envelope : ((i : ℕ) → i < gtm.variables → inside gtm published x i ≡ true) → Envelope x
  unfolding published
  to-envelope h = record { alpha = between (h 0 (omega arith)); eta = between (h 1 (omega arith)) }

  pub read-inside : (out : List ℤ) → length out ≡ gtm.blocks → (read_number gtm published x out ≡ done) ↔ Envelope x
  read-inside out room = let e = read-done-exactly sound-table x out room in ((λ d. to-envelope (e.0 d)), λ h. e.1 (from-envelope h))
