-- The frame check sequence, and the rule of the table that the code has for it.
pub mod Fcs
pub mod Table
