pub mod Controls
pub mod Digits
pub mod Words
pub mod Writing
