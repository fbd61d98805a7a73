-- Laws of the strip.
pub mod Runs
pub mod Settled
