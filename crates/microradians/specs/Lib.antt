-- The published table read in microradians.
--   Fixed   the rounded product, and a printed polynomial in fixed point
--   Answer  the six answers, the limits, and what the read answers and leaves
--   Groups  the groups as the code holds them
--   Ready   what the code asks of its callers
pub mod Fixed
pub mod Answer
pub mod Groups
pub mod Ready
