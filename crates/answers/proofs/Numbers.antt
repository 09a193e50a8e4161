-- The number given back to a line has few digits.
--   read-few  of a read of any table
use mathlib.Core.Bool.{Bool, true, false, cond}
use mathlib.Core.List.{List, [], ◌∷◌}
use Prim.Native.Nat.{ℕ, ◌<◌}
use native.Mathlib.Omega.{arith}
use lib.IntN.{ℤ}
use lib.ListN.{length}
use Rattle.polynomials.specs.Sum.{listed}
use Rattle.layout.specs.Shape.{cumulus}
use Rattle.layout.specs.Reading.{read_refusals, read_number}
use Rattle.layout.specs.Refusals.{Refusal, first}

abbrev Few : List Refusal → Type 0
Few [] = Unit {0}
Few (r ∷ rs) = (r.number < 10000) × Few rs

either : (b : Bool) (m n : ℕ) → m < 10000 → n < 10000 → cond b m n < 10000
either true m n h l = h
either false m n h l = l

first-few : (rs : List Refusal) → Few rs → first rs < 10000
unfolding first
first-few [] h = omega arith
first-few (r ∷ rs) h = either r.holds r.number (first rs) h.0 (first-few rs h.1)

pub read-few : (t : List ℤ) (x : ℕ → ℤ) (out : List ℤ) → read_number cumulus t x out < 10000
unfolding read_number listed
read-few t x out =
    first-few (read_refusals cumulus t x (length out))
    (omega arith, (omega arith, (omega arith, (omega arith, (omega arith, (omega arith, (omega arith, (omega arith, (omega arith, tt)))))))))
