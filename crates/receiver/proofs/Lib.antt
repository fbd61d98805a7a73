-- Laws of the stepping receiver, leaves first, and its sheet.
pub mod Ways
pub mod Honest
pub mod Stepping
pub mod Settled
pub mod Sheet
