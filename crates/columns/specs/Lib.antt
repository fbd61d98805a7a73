-- Nothing here has to be believed: `Columns` is what the code computes, shown to be the words'
-- distances.
pub mod Columns
