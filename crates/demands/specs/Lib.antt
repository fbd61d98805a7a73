-- The words that the demands, the theorem of the reading order, the receiver's theorems, those of
-- the checked profile and those of matching one symbol are stated with, over the definitions of the
-- crates below.
pub mod Words
pub mod Refusals
pub mod Calls
pub mod Profile
pub mod Match
