-- Laws of the exported functions.
pub mod Settled
