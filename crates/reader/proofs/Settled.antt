-- The promises settle what they speak of: two outcomes that satisfy one are equal. Those of `read`
-- and `store` settle every byte of the lent buffer at exit; each speaks of the function's own
-- contract, as `Settles` does. Assumes nothing.
use Rattle.codes.proofs.Settled.{settled, Settles, SettlesLent, SettlesBoth, AsksNothing}
use Rattle.frame.proofs.Settled.{same_outcome}
use Rattle.reader.proofs.read.Kinds as read_kinds
use Rattle.reader.proofs.read.Reads as read_promise
use Rattle.reader.proofs.store.Kinds as store_kinds
use Rattle.reader.proofs.store.Reads as store_promise
use Rattle.reader.proofs.refusal.Kinds as refusal_kinds
use Rattle.reader.proofs.refusal.Reads as refusal_promise

-- `s.1.1.0` is the third parameter, the report buffer, at exit
pub read_settled : SettlesBoth 2 read_kinds.ps read_kinds.r read_promise.Post (λ κs s. s.1.1.0.now)
read_settled κs a p q s t e f = same_outcome p q _ _ (settled _ _ e f)

-- the third parameter, the report buffer, at exit
pub store_settled : SettlesLent 1 store_kinds.ps store_kinds.r store_promise.Post (λ κs s. s.1.1.0.now)
store_settled κs a p q s t = settled _ _

pub refusal_settled : Settles 0 refusal_kinds.ps refusal_kinds.r refusal_promise.Post
refusal_settled κs a p q s t = settled p q

pub read_asks_nothing : AsksNothing 2 read_kinds.ps read_promise.Pre
read_asks_nothing κs a = tt

pub store_asks_nothing : AsksNothing 1 store_kinds.ps store_promise.Pre
store_asks_nothing κs a = tt

pub refusal_asks_nothing : AsksNothing 0 refusal_kinds.ps refusal_promise.Pre
refusal_asks_nothing κs a = tt
