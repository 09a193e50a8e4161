-- What publishing a table answers and leaves, by the length of the output.
--   fitting   with room for the table: done, and the table
--   other     with room for more or fewer: refused, and untouched
--   publish-kept   a refusal writes nothing
use mathlib.Core.Path.{◌≡◌, refl}
use mathlib.Core.List.{List}
use Prim.Native.Nat.{◌<◌}
use native.Mathlib.Decide.{ℕ_discrete}
use native.Mathlib.Omega.{arith}
use lib.IntN.{ℤ}
use lib.ListN.{length}
use borrow.Author.Tests.{eq-eqb, ne_eqb}
use Rattle.layout.specs.Refusals.{done, wrong_output, first}
use Rattle.layout.specs.Publishing.{publish_number, publish_output}

module _ (t out : List ℤ) where
  pub fitting : length out ≡ length t → (publish_number t out ≡ done) × (publish_output t out ≡ t)
  unfolding publish_number publish_output first
  fitting e = simp (eq-eqb _ _ e) (refl, refl)

  pub other : (length out ≡ length t → ⊥) → (publish_number t out ≡ wrong_output) × (publish_output t out ≡ out)
  unfolding publish_number publish_output first
  other e = simp (ne_eqb _ _ e) (refl, refl)

  pub publish-kept : 0 < publish_number t out → publish_output t out ≡ out
  publish-kept h = go (ℕ_discrete (length out) (length t))
    where
      go : Dec (length out ≡ length t) → publish_output t out ≡ out
      go (yes e) = absurd (omega (arith, (fitting e).0))
      go (no n) = (other n).1
