-- What the inner functions of the move ask of their callers.
pub mod Ready
