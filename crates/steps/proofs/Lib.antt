-- What a mode's row says of its octets, and what the promises of one step settle.
pub mod Rows
pub mod Settled
