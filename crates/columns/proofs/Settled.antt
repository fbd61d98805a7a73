-- The promises settle what they speak of: two outcomes that satisfy one are equal. And they ask
-- nothing. Each speaks of the function's own contract, as `Settles` and `AsksNothing` do. Assumes
-- nothing.
use Rattle.codes.proofs.Settled.{settled, Settles, AsksNothing}
use Rattle.columns.proofs.nearest_of_four.Kinds as nearest_of_four_kinds
use Rattle.columns.proofs.nearest_of_four.Reads as nearest_of_four_promise
use Rattle.columns.proofs.nearest_of_two.Kinds as nearest_of_two_kinds
use Rattle.columns.proofs.nearest_of_two.Reads as nearest_of_two_promise

pub nearest_of_four_settled : Settles 0 nearest_of_four_kinds.ps nearest_of_four_kinds.r nearest_of_four_promise.Post
nearest_of_four_settled κs a p q s t = settled p q

pub nearest_of_two_settled : Settles 0 nearest_of_two_kinds.ps nearest_of_two_kinds.r nearest_of_two_promise.Post
nearest_of_two_settled κs a p q s t = settled p q

pub nearest_of_four_asks_nothing : AsksNothing 0 nearest_of_four_kinds.ps nearest_of_four_promise.Pre
nearest_of_four_asks_nothing κs a = tt

pub nearest_of_two_asks_nothing : AsksNothing 0 nearest_of_two_kinds.ps nearest_of_two_promise.Pre
nearest_of_two_asks_nothing κs a = tt
