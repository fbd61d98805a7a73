-- The promises settle what they speak of: two outcomes that satisfy one are equal. That of `keep`
-- settles every octet at exit; each speaks of the function's own contract, as `Settles` does.
-- Assumes nothing.
use Rattle.codes.proofs.Settled.{settled, Settles, SettlesLent, AsksNothing}
use Rattle.steps.proofs.begin.Kinds as begin_kinds
use Rattle.steps.proofs.begin.Reads as begin_promise
use Rattle.steps.proofs.stop.Kinds as stop_kinds
use Rattle.steps.proofs.stop.Reads as stop_promise
use Rattle.steps.proofs.follow.Kinds as follow_kinds
use Rattle.steps.proofs.follow.Reads as follow_promise
use Rattle.steps.proofs.whole_octets.Kinds as whole_octets_kinds
use Rattle.steps.proofs.whole_octets.Reads as whole_octets_promise
use Rattle.steps.proofs.keep.Kinds as keep_kinds
use Rattle.steps.proofs.keep.Reads as keep_promise

pub begin_settled : Settles 0 begin_kinds.ps begin_kinds.r begin_promise.Post
begin_settled κs a p q s t = settled p q

pub stop_settled : Settles 0 stop_kinds.ps stop_kinds.r stop_promise.Post
stop_settled κs a p q s t = settled p q

pub follow_settled : Settles 0 follow_kinds.ps follow_kinds.r follow_promise.Post
follow_settled κs a p q s t = settled p q

pub whole_octets_settled : Settles 0 whole_octets_kinds.ps whole_octets_kinds.r whole_octets_promise.Post
whole_octets_settled κs a p q s t = settled p q

-- `s.1.1.0` is the third parameter, the octets, at exit
pub keep_settled : SettlesLent 1 keep_kinds.ps keep_kinds.r keep_promise.Post (λ κs s. s.1.1.0.now)
keep_settled κs a p q s t = settled _ _

pub begin_asks_nothing : AsksNothing 0 begin_kinds.ps begin_promise.Pre
begin_asks_nothing κs a = tt

pub stop_asks_nothing : AsksNothing 0 stop_kinds.ps stop_promise.Pre
stop_asks_nothing κs a = tt

pub follow_asks_nothing : AsksNothing 0 follow_kinds.ps follow_promise.Pre
follow_asks_nothing κs a = tt

pub whole_octets_asks_nothing : AsksNothing 0 whole_octets_kinds.ps whole_octets_promise.Pre
whole_octets_asks_nothing κs a = tt

pub keep_asks_nothing : AsksNothing 1 keep_kinds.ps keep_promise.Pre
keep_asks_nothing κs a = tt
