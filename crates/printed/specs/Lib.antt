-- A printed model: polynomials in the five angles, as a report prints them, and what they come to.
--   Notation  how a printed polynomial is written
--   Values    what it comes to at whole readings, in any unit of angle
--   Stored    the numbers of a table for printed polynomials
--   Envelope  limits of readings, ends included
pub mod Notation
pub mod Values
pub mod Stored
pub mod Envelope
