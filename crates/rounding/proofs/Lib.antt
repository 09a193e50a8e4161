-- The laws of rounding.
--   Sides        a magnitude rounded, by the side of a half that it lies on
--   Nearest      what a float is read as is the nearest whole number, told of its exact value
--   Comparisons  a comparison of floats as one of exact fractions
--   Signs        a reading by its sign
--   Far          a reading that is too far from 0 for any limits
--   Steps        what a step is, and what it tells
--   Answers      the answer that is zero, and that no answer is a NaN
--   controls     computed facts beside the definitions
pub mod Sides
pub mod Nearest
pub mod Comparisons
pub mod Signs
pub mod Far
pub mod Steps
pub mod Answers
pub mod controls
