-- The laws of printed models, over every shape. Each file's head lists what it gives.
--   Monomials   the powers of a monomial, and products of powers
--   Answers     a group, a coefficient and a table come to what is printed
--   Scaling     each number of a table is a multiple of what its degree is scaled by
--   Envelope    a reading and its two limits, as facts
--   Controls    facts that show what the definitions say
pub mod Monomials
pub mod Answers
pub mod Scaling
pub mod Envelope
pub mod Controls
