-- The readings where no step refuses: each is rounded, and lies within its limits.
--   whole-step                   a step that is neither of the two refusals
--   step-finite, step-whole, rounded-inside   that it is finite, what such a step holds, and that it is inside
use Rattle.std.proofs.Common.{Result, Ok}
use mathlib.Core.Path.{◌≡◌, refl}
use mathlib.Core.Bool.{true, false, true≢false}
use mathlib.Core.List.{List}
use Prim.Native.Nat.{ℕ, ◌<◌}
use lib.IntN.{ℤ}
use lib.Signed.{◌≤ℤ◌}
use lib.Dec.{T}
use lib.Ieee.{Float}
use lib.Ieee.Scale as Scale
use Rattle.layout.specs.Shape.{cumulus}
use Rattle.layout.specs.Limits.{lowest, highest}
use Rattle.layout.specs.Refusals.{first}
use Rattle.layout.specs.Reading.{inside}
use Rattle.laws.proofs.Tests.{&&-both, fact-le_z}
use Rattle.rounding.specs.Reading.{whole_of}
use Rattle.rounding.specs.declared.Unread.{Unread}
use Rattle.rounding.proofs.Steps.{Stepped, is-not-finite, is-outside, is_whole, stepped}
use Rattle.door.specs.Steps.{is_not_finite, is_outside}
use Rattle.door.specs.Door.{rounded_all, step_at, not_finites, outsides}
use Rattle.door.proofs.Numbers.{none-not-finite, none-outside}

pub record Rounded (x : Float) (lowest highest : ℤ) (r : Result ℤ Unread) : Type 0 where
  pub finite : T (Scale.finite x)
  pub is : r ≡ Ok (whole_of x)
  pub low : lowest ≤ℤ whole_of x
  pub high : whole_of x ≤ℤ highest

pub whole-step : (x : Float) (lowest highest : ℤ) (r : Result ℤ Unread) → Stepped x lowest highest r → is_not_finite r ≡ false → is_outside r ≡ false → Rounded x lowest highest r
whole-step x lowest highest r (is-not-finite n) a b = absurd (true≢false a)
whole-step x lowest highest r (is-outside f p) a b = absurd (true≢false b)
whole-step x lowest highest r (is_whole f l g) a b = record { finite = f; is = refl; low = l; high = g }

module _ (t : List ℤ) (x : ℕ → Float) (finite : first (not_finites cumulus cumulus.variables (step_at cumulus t x)) ≡ 0) (within : first (outsides cumulus cumulus.variables (step_at cumulus t x)) ≡ 0) (i : ℕ) (h : i < cumulus.variables) where
  rounded : Rounded (x i) (lowest cumulus t i) (highest cumulus t i) (step_at cumulus t x i)
  rounded =
      whole-step (x i) (lowest cumulus t i) (highest cumulus t i) (step_at cumulus t x i) (stepped (x i) (lowest cumulus t i) (highest cumulus t i)) (none-not-finite (step_at cumulus t x) cumulus.variables finite i h)
      (none-outside (step_at cumulus t x) cumulus.variables within i h)

  pub step-finite : T (Scale.finite (x i))
  step-finite = rounded.finite

  pub step-whole : step_at cumulus t x i ≡ Ok (rounded_all x i)
  step-whole = rounded.is

  pub rounded-inside : inside cumulus t (rounded_all x) i ≡ true
  rounded-inside = &&-both (fact-le_z rounded.low) (fact-le_z rounded.high)
