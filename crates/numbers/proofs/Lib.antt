pub mod Controls
pub mod Reading
pub mod Signs
