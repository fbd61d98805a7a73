-- Nothing to be believed: what the functions of one symbol ask of a row of numbers.
pub mod Bounded
