-- What the arguments say.
pub mod Mode
pub mod Option
