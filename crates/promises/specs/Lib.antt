-- What the promises are written with, beside the definitions that the contracts cite.
--   Text  the bytes of a text
--   Runs  an input fed to the answers piece by piece
pub mod Text
pub mod Runs
