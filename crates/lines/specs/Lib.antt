pub mod Line
pub mod State
