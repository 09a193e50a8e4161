-- Fixed point: readings in whole microradians, everything else in whole units of 10⁻⁹. One rounding for each multiplication, from the highest powers down.
use Rattle.std.specs.Prelude.{ℕ, ℤ, pos, ◌*ℤ◌}
use Rattle.whole.specs.Nearest.{nearest_away}
use Rattle.polynomials.specs.Numbers.{ints}
use Rattle.polynomials.specs.Order.{place}
use Rattle.polynomials.specs.Downward.{downward}
use Rattle.layout.specs.declared.Kind.{Kind}
use Rattle.layout.specs.Shape.{cumulus}
use Rattle.printed.specs.Notation.{Polynomial}
use Rattle.cumulus_page.specs.Model.{microradians}
use Rattle.printed.specs.Stored.{printed_at}

-- a number times a reading, to the nearest whole number, a half away from zero
infixl 7 ◌⊛◌
abbrev pub ◌⊛◌ : ℤ → ℤ → ℤ
a ⊛ r = nearest_away microradians.radian (a *ℤ r)

-- the printed unit is 10⁻⁵: so many of these
abbrev pub per_printed : ℕ
per_printed = 10_000

-- the printed number before uᵖvᵠ
abbrev pub nano : Kind → Polynomial → ℕ → ℕ → ℤ
nano k f p q = printed_at cumulus k f (place p q) *ℤ pos per_printed

-- a printed polynomial in the two variables of its group at their readings: each row in the first, and the rows in the second, from the highest down
abbrev pub in_fixed_point : (ℕ → ℤ) → Kind → Polynomial → ℤ
in_fixed_point x k f = downward ints ◌⊛◌ k.degree (nano k f) (x k.u) (x k.v)
