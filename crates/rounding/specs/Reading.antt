-- What one f64 is read as, within a lowest and a highest whole number. A reading is rounded with a half away from zero; `Answer` rounds otherwise.
use Rattle.std.specs.Prelude.{cond, ◌&&◌, ℤ, int_le, Float, Result, Ok, Err}
use Rattle.std.specs.Float.{nan, inf, fin}
use Rattle.whole.specs.Nearest.{nearest_away}
use Rattle.rounding.specs.Value.{numerator, denominator}
use Rattle.rounding.specs.declared.Unread.{Unread}
use Rattle.rounding.specs.declared.Unread.TheVariants.{NotFinite, Outside}

-- the whole number nearest to a finite x, a half away from zero
unfoldable pub whole_of : Float → ℤ
whole_of x = nearest_away (denominator x) (numerator x)

-- the nearest whole number where it lies within the limits, and otherwise x as given
unfoldable pub step_of : Float → ℤ → ℤ → Result ℤ Unread
step_of nan lowest highest = Err NotFinite
step_of (inf s) lowest highest = Err NotFinite
step_of (fin s m e) lowest highest =
    let z = whole_of (fin s m e) in
    cond (int_le lowest z && int_le z highest) (Ok z) (Err (Outside (fin s m e)))
