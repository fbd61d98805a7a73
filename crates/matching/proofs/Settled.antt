-- The promises settle what they speak of: two outcomes that satisfy one are equal. And they ask
-- nothing. Each speaks of the function's own contract, as `Settles` and `AsksNothing` do. Assumes
-- nothing.
use Rattle.codes.proofs.Settled.{settled, Settles, AsksNothing}
use Rattle.matching.proofs.match_part.Kinds as match_part_kinds
use Rattle.matching.proofs.match_part.Reads as match_part_promise
use Rattle.matching.proofs.nearest.Kinds as nearest_kinds
use Rattle.matching.proofs.nearest.Reads as nearest_promise
use Rattle.matching.proofs.judge.Kinds as judge_kinds
use Rattle.matching.proofs.judge.Reads as judge_promise

pub match_part_settled : Settles 1 match_part_kinds.ps match_part_kinds.r match_part_promise.Post
match_part_settled κs a p q s t = settled p q

pub nearest_settled : Settles 0 nearest_kinds.ps nearest_kinds.r nearest_promise.Post
nearest_settled κs a p q s t = settled p q

pub judge_settled : Settles 0 judge_kinds.ps judge_kinds.r judge_promise.Post
judge_settled κs a p q s t = settled p q

pub match_part_asks_nothing : AsksNothing 1 match_part_kinds.ps match_part_promise.Pre
match_part_asks_nothing κs a = tt

pub nearest_asks_nothing : AsksNothing 0 nearest_kinds.ps nearest_promise.Pre
nearest_asks_nothing κs a = tt

pub judge_asks_nothing : AsksNothing 0 judge_kinds.ps judge_promise.Pre
judge_asks_nothing κs a = tt
