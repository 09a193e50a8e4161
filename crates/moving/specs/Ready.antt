-- What the inner functions of the move ask of their callers, and what they give.
use Rattle.std.specs.Prelude.{◌≡◌, true, not, cond, List, [], ◌∷◌, ℕ, ◌+◌, ◌-◌, ◌^◌, ◌<◌, eqb, ℤ, length, take, get_or}
use Rattle.polynomials.specs.Sum.{listed}
use Rattle.layout.specs.declared.Model.{Model}
use Rattle.layout.specs.Shape.{Shape, table_length, shape}
use Rattle.layout.specs.Numbers.{limits_room, reaches_room}
use Rattle.layout.specs.Limits.{all_in_range, good}
use Rattle.layout.specs.Moving.{moved_limit, moved_limits, move_light}
use Rattle.layout.specs.Refusals.{Refusal, ◌when◌, limit_past, move_too_heavy}
use Rattle.limits.specs.declared.Limits.{Limits}

-- the reach at the place k of a list, longer by n where it is variable v's: variable 0 has the first two, and each other one
abbrev pub longer_at : List ℕ → ℕ → ℕ → ℕ → ℕ
longer_at l v n k = cond (eqb (k - 1) v) (get_or l k 0 + n) (get_or l k 0)

-- to make those of variable v longer by n
pub record Lengthened (l : List ℕ) (v n : ℕ) : Type 0 where
  pub fits : (k : ℕ) → k < reaches_room → k - 1 ≡ v → get_or l k 0 + n < 2 ^ 64

-- limits l that hold those of the table t moved by s in variable i
pub record HoldsMoved (m : Model) (t : List ℤ) (i : ℕ) (s : ℤ) (l : Limits) : Type 0 where
  pub model : l.model ≡ m
  pub numbers : l.numbers ≡ listed limits_room (moved_limit (shape m) i s (take limits_room t))

-- to ask whether the table may be moved so
pub record Movable (m : Model) (t : List ℤ) (i : ℕ) (s : ℤ) (l : Limits) : Type 0 where
  pub whole : length t ≡ table_length (shape m)
  pub variable : i < (shape m).variables
  pub limits : good (shape m) t ≡ true
  pub moved : HoldsMoved m t i s l

-- what a move of a sound table may be refused for
abbrev pub move_own : Shape → List ℤ → ℕ → ℤ → List Refusal
move_own S t i s = (limit_past when not (all_in_range S (moved_limits S i s t))) ∷ (move_too_heavy when not (move_light S i s t)) ∷ []
