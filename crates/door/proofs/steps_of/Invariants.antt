-- The places before `i` hold the steps of the readings.
use mathlib.Core.Path.{◌≡◌}
use lib.ListN.{length, take}
use Rattle.polynomials.specs.Sum.{listed}
use Rattle.layout.specs.Shape.{cumulus}
use Rattle.door.specs.Door.{floats, step_at}
use Rattle.door.proofs.steps_of.Given as goal

abbrev pub invariant-loop-i : goal.invariant-loop-i
invariant-loop-i l = (length l.steps ≡ cumulus.variables) × (take l.i l.steps ≡ listed l.i (step_at cumulus l.limits.numbers (floats l.readings)))
