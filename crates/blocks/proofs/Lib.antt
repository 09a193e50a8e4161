-- The laws behind the functions on one block of a table.
--   Sums         a coefficient group by group
--   Shifts       a group moved in one of the table's variables
--   Filled       a list whose part is replaced
--   BlockMoves   a block moved group by group
pub mod Sums
pub mod Shifts
pub mod Filled
pub mod BlockMoves
