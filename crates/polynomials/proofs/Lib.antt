-- The laws of polynomials in two variables, numbered as in the README.
--   Semiring    the laws that both kinds of numbers have
--   Sums        sums over a range
--   Rows        one variable: all facts about multiplying out, once over the degree
--   Places      the order of a group's numbers
--   Listed      lists by their places
--   Plane       two variables, by the numbers before uᵖvᵠ
--   Moves       laws 1 to 3: values, one move after another, moves commute
--   Unique      law 4: values determine the numbers
--   Bounds      laws 5 and 6: what a weight bounds
--   Together    law 7: any number of groups
--   Downward    sums from the highest power down
--   DownwardBounds   what such a sum stays within
--   Turns       the loops that take numbers so, with any product
--   Cap, Chains, MultipliedRows  what the code uses: a sum against the cap, the places of one variable's powers, the rows of a shift
--   controls    computed facts beside the definitions
pub mod Semiring
pub mod Sums
pub mod Rows
pub mod Places
pub mod Listed
pub mod Plane
pub mod Moves
pub mod Unique
pub mod Bounds
pub mod Together
pub mod Downward
pub mod DownwardBounds
pub mod Turns
pub mod Cap
pub mod Chains
pub mod MultipliedRows
pub mod controls
