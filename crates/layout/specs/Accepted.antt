-- What holds of a reading and of a move that are accepted: none of their refusals does.
use Rattle.std.specs.Prelude.{◌≡◌, true, List, ℕ, ◌<◌, ℤ, length}
use Rattle.layout.specs.Shape.{Shape, table_length}
use Rattle.layout.specs.Limits.{all_in_range, good}
use Rattle.layout.specs.Sound.{light}
use Rattle.layout.specs.Reading.{inside}
use Rattle.layout.specs.Moving.{moved_limits, move_light}

-- the table t at the readings x, with the output out
pub record ReadAccepted (S : Shape) (t : List ℤ) (x : ℕ → ℤ) (out : List ℤ) : Type 0 where
  pub table : length t ≡ table_length S
  pub output : length out ≡ S.blocks
  pub limits : good S t ≡ true
  pub weights : light S t ≡ true
  pub readings : (i : ℕ) → i < S.variables → inside S t x i ≡ true

-- the table t moved by s in variable i, with the output out
pub record MoveAccepted (S : Shape) (t : List ℤ) (i : ℕ) (s : ℤ) (out : List ℤ) : Type 0 where
  pub table : length t ≡ table_length S
  pub output : length out ≡ table_length S
  pub variable : i < S.variables
  pub limits : good S t ≡ true
  pub weights : light S t ≡ true
  pub moved-limits : all_in_range S (moved_limits S i s t) ≡ true
  pub moved-weights : move_light S i s t ≡ true
