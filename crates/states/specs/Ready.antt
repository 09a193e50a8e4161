-- What the inner functions ask of their callers.
use Rattle.std.specs.Prelude.{◌≡◌, true, List, ℕ, ◌*◌, ℤ, length}
use Rattle.layout.specs.Shape.{Shape, table_length}
use Rattle.layout.specs.Limits.{good}
use Rattle.layout.specs.Sound.{light}

-- to read a table that is known to be sound at n states
pub record SoundReads (S : Shape) (t states : List ℤ) (n : ℕ) (out : List ℤ) : Type 0 where
  pub whole : length t ≡ table_length S
  pub given : length states ≡ S.variables * n
  pub room : length out ≡ S.blocks * n
  pub limits : good S t ≡ true
  pub weights : light S t ≡ true
