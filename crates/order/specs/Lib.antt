-- What has to be believed of reading: raw symbols and octets of the values read, and the reading
-- order. `Taking` is not among it: it is what the code carries from symbol to symbol, shown equal.
-- (Of it the stepping receiver's push names `followed` and `kept_at`.)
pub mod Received
pub mod Order
pub mod Taking
