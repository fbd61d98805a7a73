-- Laws of the register and of its table, what the FCS catches, and the published values.
pub mod Xor
pub mod Register
pub mod Entry
pub mod Bits
pub mod Remainder
pub mod Catches
pub mod Even
pub mod Four
pub mod Published
pub mod Each
pub mod Settled
