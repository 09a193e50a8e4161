-- The laws behind the move.
--   Steps     what the code meets when it asks whether a move may be made
--   Written   what a move has written before a block
pub mod Steps
pub mod Written
