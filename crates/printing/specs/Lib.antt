pub mod Groups
pub mod Spell
