-- The demands, and the laws that they stand on, leaves first. To be read are Demand1, Demand2,
-- Demand3 and, from it, HowClose, PutRight, NoFlat, OneAnswer and Reader; of the reading order
-- Refused; of matching one symbol Matched; of the stepping receiver Stepped, Stray, Forged, Holds,
-- Given and, at its end, Made; of the checked profile Checked and Misread; of the reserved bit
-- TurnsOver and Withdrawn; of the polarity TurnsOver, Polarity and EitherWay. Each opens with what
-- it says in plain words.
pub mod Among
pub mod Digits
pub mod Back
pub mod Octet
pub mod Path
pub mod Framed
pub mod Found
pub mod Fronts
pub mod Forms
pub mod Frames
pub mod Stands
pub mod Read
pub mod Refused
pub mod Gaps
pub mod Ended
pub mod Answered
pub mod Close
pub mod Placed
pub mod Repair
pub mod HowClose
pub mod Demand3
pub mod PutRight
pub mod NoFlat
pub mod OneAnswer
pub mod Reader
pub mod Demand1
pub mod Demand2
pub mod Matched
pub mod Given
pub mod Stray
pub mod Made
pub mod Forged
pub mod Holds
pub mod Stepped
pub mod Checked
pub mod Withdrawn
pub mod Spread
pub mod Misread
pub mod TurnsOver
pub mod Polarity
pub mod EitherWay
