-- What has to be believed of the stepping receiver: its record and its four calls.
pub mod Record
