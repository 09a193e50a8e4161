-- The laws of the door.
--   Firsts    the first refusal of a list, or none
--   Numbers   which number is given back, from the tests one after another, and the answer with it
--   Wholes    the readings where no step refuses
--   Sound     a sound table read by the steps that the code has
--   Pieces    the piece of a reading as it was given
--   Told      the steps, told by the floats themselves
--   Answers   what the contract says, in the words of the paper
--   Controls  computed facts beside the definitions
pub mod Firsts
pub mod Numbers
pub mod Wholes
pub mod Pieces
pub mod Sound
pub mod Told
pub mod Answers
pub mod Controls
