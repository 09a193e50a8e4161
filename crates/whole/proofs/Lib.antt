-- The laws of whole numbers that the kit lacks. Each file's head lists what it gives.
--   Ring        sums, products and powers in ℤ
--   Magnitudes  the size of a result, and bounds that follow the operations
--   Order       what `≤ℤ` and `<ℤ` obey
--   Machine     from ℤ to i64 and back: fits, tests, operations
--   Solver      a normal form of polynomial expressions
--   Identity    a polynomial identity in one line, by Solver
--   Linear      a linear fact in one line, by `omega`
--   Nearest     a quotient rounded to the nearest whole number
--   Down        a quotient rounded down
--   Controls    what Identity and Linear prove, and what Solver refuses
pub mod Ring
pub mod Magnitudes
pub mod Order
pub mod Machine
pub mod Solver
pub mod Identity
pub mod Linear
pub mod Nearest
pub mod Down
pub mod Controls
