-- The promises settle what they speak of: two outcomes that satisfy one are equal. And they ask
-- nothing. Each speaks of the function's own contract, as `Settles` and `AsksNothing` do. Assumes
-- nothing.
use Rattle.codes.proofs.Settled.{settled, Settles, AsksNothing}
use Rattle.strips.proofs.strip.Kinds as strip_kinds
use Rattle.strips.proofs.strip.Reads as strip_promise
use Rattle.strips.proofs.row_of.Kinds as row_of_kinds
use Rattle.strips.proofs.row_of.Reads as row_of_promise

pub strip_settled : Settles 0 strip_kinds.ps strip_kinds.r strip_promise.Post
strip_settled κs a p q s t = settled p q

pub row_of_settled : Settles 0 row_of_kinds.ps row_of_kinds.r row_of_promise.Post
row_of_settled κs a p q s t = settled p q

pub strip_asks_nothing : AsksNothing 0 strip_kinds.ps strip_promise.Pre
strip_asks_nothing κs a = tt

pub row_of_asks_nothing : AsksNothing 0 row_of_kinds.ps row_of_promise.Pre
row_of_asks_nothing κs a = tt
