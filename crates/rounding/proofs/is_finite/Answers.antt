-- `rounding::is_finite` meets its contract: by the model's comparisons just the finite floats lie between the infinities.
use Rattle.std.proofs.Common.{◌≡◌, true, false, refl, true≢false}
use mathlib.Core.Bool.{false≢true}
use lib.Ieee.{Float, nan, inf, fin, lt, of_bits}
use lib.Ieee.Scale.{finite}
use Rattle.rounding.proofs.is_finite.Goals as goal

above-least : (x : Float) → lt (inf true) x ≡ true → lt x (inf false) ≡ finite x
unfolding lt
above-least nan h = refl
above-least (inf true) h = absurd (false≢true h)
above-least (inf false) h = refl
above-least (fin s m e) h = refl

not-above-least : (x : Float) → lt (inf true) x ≡ false → lt (inf true) x ≡ finite x
unfolding lt
not-above-least nan h = h
not-above-least (inf s) h = h
not-above-least (fin s m e) h = absurd (true≢false h)

pub returns-then-x : goal.returns-then-x
unfolding of_bits
returns-then-x c = above-least c.args.x c.if-x.true

pub returns-else-x : goal.returns-else-x
unfolding of_bits
returns-else-x c = not-above-least c.args.x c.if-x.false
