pub mod Controls
pub mod Digits
pub mod Parsed
pub mod Steps
pub mod Words
