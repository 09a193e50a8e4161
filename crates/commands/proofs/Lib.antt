pub mod Controls
pub mod Fitting
pub mod Rows
