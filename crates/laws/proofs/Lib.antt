-- The laws of tables, over every shape. Each file's head lists what it gives.
--   Sizes         the lengths of a Cumulus One table
--   Joined        lists of one length laid one after another
--   BlockGroups   groups and numbers, and the moved block
--   Walk          the groups of a block one after another
--   Own           a coefficient by its own group and the shared ones
--   Tests         tests as facts
--   LimitLaws     the limits, by their places and as facts
--   Reaches       what the reaches bound, and reaches in a list
--   Weights       weights within the cap, as facts
--   Refused       which number is given back
--   Accepted      what the number given back tells
--   Many          many states of a table
--   Published     what publishing a table answers and leaves
--   Moved         the moved table
--   SoundMoved    a sound table that may be moved stays sound
--   ReadingMoved  the moved table is read as the old one
--   NearMoves     how far a move may take reaches and weights
--   SingleMoves   single moves of one table, up to a size for each variable
--   Heavy         numbers that no sound table can hold
pub mod Sizes
pub mod Joined
pub mod BlockGroups
pub mod Walk
pub mod Own
pub mod Tests
pub mod LimitLaws
pub mod Reaches
pub mod Weights
pub mod Refused
pub mod Accepted
pub mod Many
pub mod Published
pub mod Moved
pub mod SoundMoved
pub mod ReadingMoved
pub mod NearMoves
pub mod SingleMoves
pub mod Heavy
