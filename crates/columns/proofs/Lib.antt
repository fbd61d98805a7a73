-- Laws of words in columns, leaves first.
pub mod Laid
pub mod Leasts
pub mod Words
pub mod Chosen
pub mod Settled
