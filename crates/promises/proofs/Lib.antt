-- What the library promises, sentence by sentence, and that its public contracts leave no choice.
--   Promises  the promises
--   Tight     that the contracts leave no choice
--   Runs      what a run of calls writes
pub mod Promises
pub mod Tight
pub mod Runs
