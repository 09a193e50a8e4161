-- Whole numbers.
--   Nearest  a quotient rounded to the nearest whole number
--   Down     a quotient rounded down
pub mod Nearest
pub mod Down
