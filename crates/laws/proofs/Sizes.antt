-- The lengths and starts of a Cumulus One table, by the names that the code has for them.
--   block_size_lem   how many numbers a block has
--   start-size   where a block starts
--   table-size   how many numbers a table has
use mathlib.Core.Path.{◌≡◌, refl}
use Prim.Native.Nat.{ℕ, ◌+◌, ◌*◌}
use Rattle.polynomials.specs.Order.{below}
use Rattle.layout.specs.Shape.{kinds_length, block_length, block_start, table_length, cumulus}
use Rattle.layout.specs.Numbers.{limits_size, block_size, table_size}

pub block_size_lem : block_length cumulus ≡ block_size
unfolding kinds_length below
block_size_lem = refl

pub start-size : (b : ℕ) → block_start cumulus b ≡ limits_size + block_size * b
unfolding kinds_length below
start-size b = refl

pub table-size : table_length cumulus ≡ table_size
unfolding kinds_length below
table-size = refl
