-- What has to be believed of the reader: its answer. `Telling` is not among it: it is what the code
-- makes of what it carried, shown equal.
pub mod Read
pub mod Telling
