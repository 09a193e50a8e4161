-- The floating-point door.
--   Steps  what the step of one reading gives: its number, the float handed back, and the whole reading
--   Door   the refusals in their order, and the answer: its number, the reading handed back and the six floats
pub mod Steps
pub mod Door
