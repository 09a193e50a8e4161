-- The room for answers, in bytes.
use Rattle.std.specs.Prelude.{ℕ}

abbrev pub answers_room : ℕ
answers_room = 65536
