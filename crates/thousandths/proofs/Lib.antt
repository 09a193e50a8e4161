-- The laws of thousandths.
--   Bits      the magnitude of a near float, from its bits
--   Up        a float in thousandths, rounded up
--   Readings  what the test of a float against thousandths says of the whole number that it is read as
--   Controls  computed facts beside the definitions
pub mod Bits
pub mod Up
pub mod Readings
pub mod Controls
