-- Laws of the reader, leaves first.
pub mod Fair
pub mod Sofar
pub mod Scanning
pub mod Modes
pub mod Cut
pub mod Told
pub mod Sheet
pub mod Settled
