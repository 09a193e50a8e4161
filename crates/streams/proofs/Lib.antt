pub mod Controls
pub mod Tried
