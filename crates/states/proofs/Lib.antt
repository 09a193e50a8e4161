-- The laws behind the reads.
--   Each   the states one after another
pub mod Each
