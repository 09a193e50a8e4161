-- When the limits of each variable are good.
pub mod Good
