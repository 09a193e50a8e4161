-- The words of a line: they are parted by spaces, as many as you like, before the first word and behind the last one too.
use Rattle.std.specs.Prelude.{Option, not, List, ℕ, ◌==◌, length, filter, slice_get}
use Rattle.std.specs.List.{slice_split}

-- the parts of a line between its spaces, but for those that are empty, where two spaces meet
unfoldable pub words : List ℕ → List (List ℕ)
words line = filter (λ part. not (length part == 0)) (slice_split (λ b. b == 32) line)

-- a word by its place, from 0 on; none where there are fewer
abbrev pub word_at : List ℕ → ℕ → Option (List ℕ)
word_at line k = slice_get (words line) k
