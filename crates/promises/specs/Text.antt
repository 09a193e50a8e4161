-- The bytes of a text. Each character here is below 128, where its number is its byte.
use Rattle.std.specs.Prelude.{List, ℕ}
use mathlib.Core.List as L
use Prim.Native.Char.{code}
use Prim.Native.String.{String, [], ◌∷◌}

abbrev pub ascii : String → List ℕ
ascii [] = L.[]
ascii (c ∷ s) = L.◌∷◌ (code c) (ascii s)
