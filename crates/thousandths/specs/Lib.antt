-- A float against a number of thousandths.
--   Thousandths  whether it is at most so many, as exact numbers
--   Steps        what the code computes on the way
pub mod Thousandths
pub mod Steps
