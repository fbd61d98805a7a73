-- Laws of the frame and of writing it, leaves first, the bench sheet, and every chip of a frame.
pub mod Below
pub mod Modes
pub mod Chain
pub mod Octets
pub mod Over
pub mod Count
pub mod Parts
pub mod Turns
pub mod Writer
pub mod Settled
pub mod Bench
pub mod Sent
