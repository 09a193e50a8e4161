-- The laws of the published table. Each file's head lists what it gives.
--   Scaling   each number is a multiple of what its degree is scaled by
--   Envelope  it has a table's length, is sound, and refuses exactly outside the envelope
--   Model     it answers with the printed model
--   Moves     its moves up to given sizes are accepted
--   Controls  facts that show what the definitions say
pub mod Scaling
pub mod Envelope
pub mod Model
pub mod Moves
pub mod Controls
