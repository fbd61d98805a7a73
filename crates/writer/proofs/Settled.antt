-- The writer's promises settle its answer and every byte of the lent buffer at exit: two outcomes
-- that satisfy one are equal. They speak of the functions' own contracts, as `Settles` does.
-- Assumes nothing.
use Rattle.codes.proofs.Settled.{settled, SettlesBoth, AsksNothing}
use Rattle.frame.proofs.Settled.{same_outcome, same_answer}
use Rattle.writer.proofs.try_write.Kinds as try_write_kinds
use Rattle.writer.proofs.try_write.Reads as try_write_promise
use Rattle.writer.proofs.write.Kinds as write_kinds
use Rattle.writer.proofs.write.Reads as write_promise

-- `s.1.1.0` is the third parameter, the buffer, at exit
pub try_write_settled : SettlesBoth 2 try_write_kinds.ps try_write_kinds.r try_write_promise.Post (λ κs s. s.1.1.0.now)
try_write_settled κs a p q s t e f = let x = same_outcome _ _ _ _ (settled _ _ e f) in
    (same_answer p q x.0, x.1)

pub write_settled : SettlesBoth 2 write_kinds.ps write_kinds.r write_promise.Post (λ κs s. s.1.1.0.now)
write_settled κs a p q s t e f = same_outcome p q _ _ (settled _ _ e f)

pub try_write_asks_nothing : AsksNothing 2 try_write_kinds.ps try_write_promise.Pre
try_write_asks_nothing κs a = tt

pub write_asks_nothing : AsksNothing 2 write_kinds.ps write_promise.Pre
write_asks_nothing κs a = tt
