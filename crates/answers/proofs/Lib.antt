pub mod Controls
pub mod Program
pub mod EachLine
pub mod Numbers
pub mod Parts
pub mod Spaced
