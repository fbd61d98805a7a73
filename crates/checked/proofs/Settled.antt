-- The promises settle what they speak of: two outcomes that satisfy one are equal. Those of
-- `try_write`, `write` and `read` settle every byte of the lent buffer at exit; each speaks of the
-- function's own contract, as `Settles` does. Assumes nothing.
use Rattle.codes.proofs.Settled.{settled, Settles, SettlesBoth, AsksNothing}
use Rattle.frame.proofs.Settled.{same_outcome, same_answer}
use Rattle.checked.proofs.try_write.Kinds as try_write_kinds
use Rattle.checked.proofs.try_write.Reads as try_write_promise
use Rattle.checked.proofs.write.Kinds as write_kinds
use Rattle.checked.proofs.write.Reads as write_promise
use Rattle.checked.proofs.read.Kinds as read_kinds
use Rattle.checked.proofs.read.Reads as read_promise
use Rattle.checked.proofs.check.Kinds as check_kinds
use Rattle.checked.proofs.check.Reads as check_promise

-- `s.1.1.0` is the third parameter, the chip buffer, at exit
pub try_write_settled : SettlesBoth 2 try_write_kinds.ps try_write_kinds.r try_write_promise.Post (λ κs s. s.1.1.0.now)
try_write_settled κs a p q s t e f = let x = same_outcome _ _ _ _ (settled _ _ e f) in
    (same_answer p q x.0, x.1)

pub write_settled : SettlesBoth 2 write_kinds.ps write_kinds.r write_promise.Post (λ κs s. s.1.1.0.now)
write_settled κs a p q s t e f = same_outcome p q _ _ (settled _ _ e f)

-- the third parameter, the report buffer, at exit
pub read_settled : SettlesBoth 2 read_kinds.ps read_kinds.r read_promise.Post (λ κs s. s.1.1.0.now)
read_settled κs a p q s t e f = same_outcome p q _ _ (settled _ _ e f)

pub check_settled : Settles 1 check_kinds.ps check_kinds.r check_promise.Post
check_settled κs a p q s t = settled p q

pub try_write_asks_nothing : AsksNothing 2 try_write_kinds.ps try_write_promise.Pre
try_write_asks_nothing κs a = tt

pub write_asks_nothing : AsksNothing 2 write_kinds.ps write_promise.Pre
write_asks_nothing κs a = tt

pub read_asks_nothing : AsksNothing 2 read_kinds.ps read_promise.Pre
read_asks_nothing κs a = tt

pub check_asks_nothing : AsksNothing 1 check_kinds.ps check_promise.Pre
check_asks_nothing κs a = tt
