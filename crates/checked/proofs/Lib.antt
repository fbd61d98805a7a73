-- Laws of the profile's tests and what they catch, and of the room; and the rules of single
-- reports, computed.
pub mod Tests
pub mod Passing
pub mod Caught
pub mod Writer
pub mod Room
pub mod Reader
pub mod Settled
pub mod Sheet
