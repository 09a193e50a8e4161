-- A reading and its two limits, as facts.
--   between, within   it lies between them, ends included
use mathlib.Core.Path.{◌≡◌}
use mathlib.Core.Bool.{true, ◌&&◌}
use lib.IntN.{ℤ}
use lib.Signed.{le_z}
use Rattle.laws.proofs.Tests.{&&-left, &&-right, &&-both, le_z-fact, fact-le_z}
use Rattle.printed.specs.Envelope.{Inclusive}

pub between : {a b z : ℤ} → le_z a z && le_z z b ≡ true → Inclusive a b z
between {a} {b} {z} e = record { above = le_z-fact (&&-left (le_z a z) (le_z z b) e); below = le_z-fact (&&-right (le_z a z) (le_z z b) e) }

pub within : {a b z : ℤ} → Inclusive a b z → le_z a z && le_z z b ≡ true
within h = &&-both (fact-le_z h.above) (fact-le_z h.below)
