-- What the code asks of a float before it is rounded.
use Rattle.std.specs.Prelude.{ℕ, ◌+◌, ◌*◌, ◌≤◌, T, Float}
use Rattle.std.specs.Float.Ieee.Positive.{num, den}
use Rattle.std.specs.Float.Ieee.Scale as Scale

-- no limit that a reading is held against lies farther from 0
abbrev pub farthest_end : ℕ
farthest_end = 2000

-- so a float farther from 0 than this lies outside of any
abbrev pub farthest_near : ℕ
farthest_near = farthest_end + 1

-- x has a value, and its magnitude, the kit's num x / den x, is no larger
pub record Near (x : Float) : Type 0 where
  pub finite : T (Scale.finite x)
  pub small : num x ≤ farthest_near * den x
