-- Nothing here has to be believed: `Judged` is what the code computes, shown to be the symbol of
-- the chips.
pub mod Judged
