-- The laws of the read in microradians. Each file's head lists what it gives.
--   Bounds   how large what is summed down is
--   Held     what the block of a coefficient holds, and that it fits
--   Answers  which number is given back, and what is left
--   Off      how far a value in fixed point is off
--   Slack    the same, followed through the sums from the highest power down
--   Followed what that comes to at the envelope's reaches
--   Exact    how far an answer is from the printed polynomials
--   Whole    at 1000 times a state of whole milliradians
--   Controls facts that show what the definitions say
pub mod Bounds
pub mod Held
pub mod Answers
pub mod Off
pub mod Slack
pub mod Followed
pub mod Exact
pub mod Whole
pub mod Controls
