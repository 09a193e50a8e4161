-- The published table of the GTM's longitudinal model.
--   Printed    the report's equations (96) to (101)
--   Model      the coefficients that they make up, and their values at a state
--   Published  the table
--   Envelope   its envelope, and how far it can be moved
pub mod Printed
pub mod Model
pub mod Published
pub mod Envelope
