-- Laws that serve several functions or crates, leaves first.
pub mod Tests
pub mod Modes
pub mod Rows
pub mod Chips
pub mod Packed
pub mod Gathering
pub mod First
pub mod Leasts
pub mod Unique
pub mod Facts
pub mod Gap
pub mod Printed
pub mod Rule
pub mod Settled
