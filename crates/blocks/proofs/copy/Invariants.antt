-- The loop's invariant: the places before `at` hold the numbers of `from`.
use mathlib.Core.Path.{◌≡◌}
use lib.ListN.{take}
use Rattle.blocks.proofs.copy.Given as goal

abbrev pub invariant-loop-at : goal.invariant-loop-at
invariant-loop-at l = take l.at l.out ≡ take l.at l.from
