pub mod Controls
pub mod Parts
pub mod Runs
