-- The promises, sentence by sentence. Each is about the definitions that the contracts cite: what an operation gives back is `read_number`, `move_number`
-- or `publish_number`, and what its lent space holds afterwards `read_output`, `move_output` or `publish_output`; many states are
-- given `many_number`, `many_numbers` and `many_output`; the float door answers `door_number`, `door_reading` and `door_value`, and the program writes `trimcard`. That every call ends and meets this is proved of the code; `Tight` says that it
-- leaves no choice. `A ↔ B` is: if A then B, and if B then A. Assumes nothing.
-- Four stand-ins that these shut out: one that refuses everything (`publish-publishes`, `published-refuses-the-outside`, `move-accepted-exactly`), one that
-- gives a fixed answer and one that works out X alone (`published-answers-the-print`, over all six), and a move that copies the table (`moved-answers-as-before`).
--   Tables  the published table, and what every table answers at a whole-number state
--   Many    many states of one table in one call
--   Moves   a datum moved: which moves are accepted, and what the moved table answers
--   Gtm     the GTM's longitudinal model: its table, its equations, and the same of its tables
--   Microradians   the published table read in microradians
--   Door    the floating-point door
--   Lines   the program trimcard
pub mod Tables
pub mod Many
pub mod Moves
pub mod Gtm
pub mod Microradians
pub mod Door
pub mod Lines
