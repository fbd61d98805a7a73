-- The promises settle what they speak of: two outcomes that satisfy one are equal, the whole
-- record that comes back among them, and for `take` every byte of the lent buffer at exit. And
-- they ask nothing. Each speaks of the function's own contract, as `Settles` and `AsksNothing` do.
-- Assumes nothing.
use Rattle.codes.proofs.Settled.{settled, Settles, SettlesBoth, AsksNothing}
use Rattle.frame.proofs.Settled.{same_outcome}
use Rattle.receiver.proofs.HandFromReceiver.from.Kinds as from_kinds
use Rattle.receiver.proofs.HandFromReceiver.from.Reads as from_promise
use Rattle.receiver.proofs.Receiver.start.Kinds as start_kinds
use Rattle.receiver.proofs.Receiver.start.Reads as start_promise
use Rattle.receiver.proofs.Receiver.push.Kinds as push_kinds
use Rattle.receiver.proofs.Receiver.push.Reads as push_promise
use Rattle.receiver.proofs.Receiver.finish.Kinds as finish_kinds
use Rattle.receiver.proofs.Receiver.finish.Reads as finish_promise
use Rattle.receiver.proofs.Receiver.take.Kinds as take_kinds
use Rattle.receiver.proofs.Receiver.take.Reads as take_promise

pub from_settled : Settles 0 from_kinds.ps from_kinds.r from_promise.Post
from_settled κs a p q s t = settled p q

pub start_settled : Settles 0 start_kinds.ps start_kinds.r start_promise.Post
start_settled κs a p q s t = settled p q

pub push_settled : Settles 1 push_kinds.ps push_kinds.r push_promise.Post
push_settled κs a p q s t = settled p q

pub finish_settled : Settles 0 finish_kinds.ps finish_kinds.r finish_promise.Post
finish_settled κs a p q s t = settled p q

-- `s.1.0` is the second parameter, the report buffer, at exit
pub take_settled : SettlesBoth 1 take_kinds.ps take_kinds.r take_promise.Post (λ κs s. s.1.0.now)
take_settled κs a p q s t e f = same_outcome p q _ _ (settled _ _ e f)

pub from_asks_nothing : AsksNothing 0 from_kinds.ps from_promise.Pre
from_asks_nothing κs a = tt

pub start_asks_nothing : AsksNothing 0 start_kinds.ps start_promise.Pre
start_asks_nothing κs a = tt

pub push_asks_nothing : AsksNothing 1 push_kinds.ps push_promise.Pre
push_asks_nothing κs a = tt

pub finish_asks_nothing : AsksNothing 0 finish_kinds.ps finish_promise.Pre
finish_asks_nothing κs a = tt

pub take_asks_nothing : AsksNothing 1 take_kinds.ps take_promise.Pre
take_asks_nothing κs a = tt
