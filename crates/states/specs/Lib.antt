-- What the inner functions ask of their callers.
pub mod Ready
