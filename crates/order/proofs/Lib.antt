-- Laws of the reading order, leaves first.
pub mod Rules
pub mod Steps
pub mod Raw
pub mod Windows
pub mod Carried
pub mod Turns
pub mod Gathered
