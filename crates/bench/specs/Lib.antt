-- What the bench program prints.
pub mod Lines
