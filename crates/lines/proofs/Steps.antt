-- The law of the steps over bytes: the parts of a line one after the other.
--   steps-append  the bytes of two parts are those of the line
use mathlib.Core.Path.{◌≡◌, refl}
use mathlib.Core.List.{List, [], ◌∷◌, ◌++◌}
use Prim.Native.Nat.{ℕ}
use Rattle.lines.specs.State.{stepped, stepped_by}
use Rattle.lines.specs.declared.State.{State}

pub steps-append : (s : State) (xs ys : List ℕ) → stepped_by s (xs ++ ys) ≡ stepped_by (stepped_by s xs) ys
steps-append s [] ys = refl
steps-append s (x ∷ xs) ys = steps-append (stepped s x) xs ys
