-- The places before `i` hold the whole readings of the steps, none of which is outside.
use mathlib.Core.Path.{◌≡◌}
use mathlib.Core.Bool.{false}
use Prim.Native.Nat.{ℕ, ◌<◌}
use lib.ListN.{length, take}
use Rattle.polynomials.specs.Sum.{listed}
use Rattle.layout.specs.Shape.{cumulus}
use Rattle.door.specs.Steps.{is_not_finite, is_outside, whole_in, steps_of}
use Rattle.door.proofs.wholes_in.Given as goal

abbrev pub invariant-loop-i : goal.invariant-loop-i
invariant-loop-i l =
    (length l.state ≡ cumulus.variables) × (take l.i l.state ≡ listed l.i (λ k. whole_in (steps_of l.steps k)))
    × ((k : ℕ) → k < l.i → is_outside (steps_of l.steps k) ≡ false)
    × ((k : ℕ) → k < cumulus.variables → is_not_finite (steps_of l.steps k) ≡ false)
