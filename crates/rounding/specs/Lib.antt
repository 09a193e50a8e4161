-- Floats as whole numbers, and whole numbers as floats.
--   Value    the exact value of a finite f64, as a fraction
--   Reading  what one f64 is read as
--   Answer   what one whole answer is as an f64
--   Ready    what the code asks of its callers
pub mod Value
pub mod Reading
pub mod Answer
pub mod Ready
