-- The numbers that a space has room for.
use Rattle.std.specs.Prelude.{ℕ}

abbrev pub space_room : ℕ
space_room = 320
