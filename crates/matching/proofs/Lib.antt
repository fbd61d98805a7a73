-- Laws of matching, leaves first.
pub mod Judging
pub mod Bits
pub mod Settled
