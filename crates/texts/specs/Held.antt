-- The bytes of a line that are held: the first 256. Of a longer line one byte more than that is counted.
use Rattle.std.specs.Prelude.{cond, List, ℕ, ◌+◌, leb, set}

abbrev pub longest_line : ℕ
longest_line = 256

abbrev pub held_after : ℕ → ℕ
held_after held = cond (leb longest_line held) (longest_line + 1) (held + 1)

abbrev pub line_after : List ℕ → ℕ → ℕ → List ℕ
line_after line held byte = cond (leb longest_line held) line (set line held byte)
