-- Small computed facts, one file for each file of definitions, that would fail if the definition were wrong.
pub mod Value
pub mod Reading
pub mod Answer
