-- What a reader must believe of the radios: the numbers given back, distance, the radios, reading
-- one symbol. The rest is not among it: `Packed`, `Gathered` and `Near` are what the code computes,
-- shown equal, and `Phy` the numbers that it goes by.
pub mod Numbers
pub mod Chips
pub mod Radio
pub mod Symbol
pub mod Packed
pub mod Gathered
pub mod Near
pub mod Phy
