-- The promises of the exported functions settle what they speak of: two outcomes that satisfy one
-- are equal, the whole record that comes back among them, and every byte of a lent buffer at exit.
-- Each speaks of the function's own contract, as `Settles` does. And what it promises is what the
-- function below promises: with another contract for an exported function, and a body that meets
-- it, all else would be proved. Assumes nothing.
use mathlib.Core.Path.{◌≡◌}
use contract.Lifetimes.{Lfts}
use denote.Triple.Clauses.{AtExit}
use borrow.Fn.Kinds.{Dens, res_t, ended_of}
use Rattle.codes.proofs.Settled.{settled, Settles, SettlesBoth, AsksNothing, PassesOn}
use Rattle.frame.proofs.Settled.{same_outcome}
use Rattle.writer.proofs.write.Reads as write_below
use Rattle.reader.proofs.read.Reads as read_below
use Rattle.matching.proofs.match_part.Reads as match_below
use Rattle.receiver.proofs.Receiver.start.Reads as start_below
use Rattle.receiver.proofs.Receiver.push.Reads as push_below
use Rattle.receiver.proofs.Receiver.finish.Reads as finish_below
use Rattle.receiver.proofs.Receiver.take.Reads as take_below
use Rattle.fcs.proofs.by_table.Reads as fcs_below
use Rattle.fcs.proofs.bitwise.Reads as fcs_bitwise_below
use Rattle.checked.proofs.check.Reads as check_below
use Rattle.checked.proofs.write.Reads as write_checked_below
use Rattle.checked.proofs.read.Reads as read_checked_below
use Rattle.gateway.proofs.lernazhup_write.Kinds as write_kinds
use Rattle.gateway.proofs.lernazhup_write.Reads as write_promise
use Rattle.gateway.proofs.lernazhup_read.Kinds as read_kinds
use Rattle.gateway.proofs.lernazhup_read.Reads as read_promise
use Rattle.gateway.proofs.lernazhup_match.Kinds as match_kinds
use Rattle.gateway.proofs.lernazhup_match.Reads as match_promise
use Rattle.gateway.proofs.lernazhup_start.Kinds as start_kinds
use Rattle.gateway.proofs.lernazhup_start.Reads as start_promise
use Rattle.gateway.proofs.lernazhup_push.Kinds as push_kinds
use Rattle.gateway.proofs.lernazhup_push.Reads as push_promise
use Rattle.gateway.proofs.lernazhup_finish.Kinds as finish_kinds
use Rattle.gateway.proofs.lernazhup_finish.Reads as finish_promise
use Rattle.gateway.proofs.lernazhup_take.Kinds as take_kinds
use Rattle.gateway.proofs.lernazhup_take.Reads as take_promise
use Rattle.gateway.proofs.lernazhup_write_checked.Kinds as write_checked_kinds
use Rattle.gateway.proofs.lernazhup_write_checked.Reads as write_checked_promise
use Rattle.gateway.proofs.lernazhup_read_checked.Kinds as read_checked_kinds
use Rattle.gateway.proofs.lernazhup_read_checked.Reads as read_checked_promise
use Rattle.gateway.proofs.lernazhup_fcs.Kinds as fcs_kinds
use Rattle.gateway.proofs.lernazhup_fcs.Reads as fcs_promise
use Rattle.gateway.proofs.lernazhup_fcs_bitwise.Kinds as fcs_bitwise_kinds
use Rattle.gateway.proofs.lernazhup_fcs_bitwise.Reads as fcs_bitwise_promise
use Rattle.gateway.proofs.lernazhup_check.Kinds as check_kinds
use Rattle.gateway.proofs.lernazhup_check.Reads as check_promise

-- `s.1.1.0` is the third parameter at exit
pub write_settled : SettlesBoth 2 write_kinds.ps write_kinds.r write_promise.Post (λ κs s. s.1.1.0.now)
write_settled κs a p q s t e f = same_outcome p q _ _ (settled _ _ e f)

-- `s.1.1.0` is the third parameter at exit
pub read_settled : SettlesBoth 2 read_kinds.ps read_kinds.r read_promise.Post (λ κs s. s.1.1.0.now)
read_settled κs a p q s t e f = same_outcome p q _ _ (settled _ _ e f)

pub match_settled : Settles 1 match_kinds.ps match_kinds.r match_promise.Post
match_settled κs a p q s t = settled p q

pub start_settled : Settles 0 start_kinds.ps start_kinds.r start_promise.Post
start_settled κs a p q s t = settled p q

pub push_settled : Settles 1 push_kinds.ps push_kinds.r push_promise.Post
push_settled κs a p q s t = settled p q

pub finish_settled : Settles 0 finish_kinds.ps finish_kinds.r finish_promise.Post
finish_settled κs a p q s t = settled p q

-- `s.1.0` is the second parameter at exit
pub take_settled : SettlesBoth 1 take_kinds.ps take_kinds.r take_promise.Post (λ κs s. s.1.0.now)
take_settled κs a p q s t e f = same_outcome p q _ _ (settled _ _ e f)

-- `s.1.1.0` is the third parameter at exit
pub write_checked_settled : SettlesBoth 2 write_checked_kinds.ps write_checked_kinds.r write_checked_promise.Post (λ κs s. s.1.1.0.now)
write_checked_settled κs a p q s t e f = same_outcome p q _ _ (settled _ _ e f)

-- `s.1.1.0` is the third parameter at exit
pub read_checked_settled : SettlesBoth 2 read_checked_kinds.ps read_checked_kinds.r read_checked_promise.Post (λ κs s. s.1.1.0.now)
read_checked_settled κs a p q s t e f = same_outcome p q _ _ (settled _ _ e f)

pub fcs_settled : Settles 1 fcs_kinds.ps fcs_kinds.r fcs_promise.Post
fcs_settled κs a p q s t = settled p q

pub fcs_bitwise_settled : Settles 1 fcs_bitwise_kinds.ps fcs_bitwise_kinds.r fcs_bitwise_promise.Post
fcs_bitwise_settled κs a p q s t = settled p q

pub check_settled : Settles 1 check_kinds.ps check_kinds.r check_promise.Post
check_settled κs a p q s t = settled p q

-- The two ways to the FCS are equal on every input.
pub both_equal : (κs : Lfts 1) (a : Dens κs fcs_kinds.ps) (p q : (res_t fcs_kinds.r κs).Denot) (s t : AtExit (ended_of 1 fcs_kinds.ps fcs_kinds.r) κs)
    → fcs_promise.Post κs a p s → fcs_bitwise_promise.Post κs a q t → p ≡ q
both_equal κs a p q s t = settled p q

pub write_asks_nothing : AsksNothing 2 write_kinds.ps write_promise.Pre
write_asks_nothing κs a = tt

pub read_asks_nothing : AsksNothing 2 read_kinds.ps read_promise.Pre
read_asks_nothing κs a = tt

pub start_asks_nothing : AsksNothing 0 start_kinds.ps start_promise.Pre
start_asks_nothing κs a = tt

pub match_asks_nothing : AsksNothing 1 match_kinds.ps match_promise.Pre
match_asks_nothing κs a = tt

pub push_asks_nothing : AsksNothing 1 push_kinds.ps push_promise.Pre
push_asks_nothing κs a = tt

pub finish_asks_nothing : AsksNothing 0 finish_kinds.ps finish_promise.Pre
finish_asks_nothing κs a = tt

pub take_asks_nothing : AsksNothing 1 take_kinds.ps take_promise.Pre
take_asks_nothing κs a = tt

pub write_checked_asks_nothing : AsksNothing 2 write_checked_kinds.ps write_checked_promise.Pre
write_checked_asks_nothing κs a = tt

pub read_checked_asks_nothing : AsksNothing 2 read_checked_kinds.ps read_checked_promise.Pre
read_checked_asks_nothing κs a = tt

pub fcs_asks_nothing : AsksNothing 1 fcs_kinds.ps fcs_promise.Pre
fcs_asks_nothing κs a = tt

pub fcs_bitwise_asks_nothing : AsksNothing 1 fcs_bitwise_kinds.ps fcs_bitwise_promise.Pre
fcs_bitwise_asks_nothing κs a = tt

pub check_asks_nothing : AsksNothing 1 check_kinds.ps check_promise.Pre
check_asks_nothing κs a = tt

pub write_passes_on : PassesOn 2 write_kinds.ps write_kinds.r write_promise.Post write_below.Post
write_passes_on κs a p s e = e

pub read_passes_on : PassesOn 2 read_kinds.ps read_kinds.r read_promise.Post read_below.Post
read_passes_on κs a p s e = e

pub start_passes_on : PassesOn 0 start_kinds.ps start_kinds.r start_promise.Post start_below.Post
start_passes_on κs a p s e = e

pub match_passes_on : PassesOn 1 match_kinds.ps match_kinds.r match_promise.Post match_below.Post
match_passes_on κs a p s e = e

pub push_passes_on : PassesOn 1 push_kinds.ps push_kinds.r push_promise.Post push_below.Post
push_passes_on κs a p s e = e

pub finish_passes_on : PassesOn 0 finish_kinds.ps finish_kinds.r finish_promise.Post finish_below.Post
finish_passes_on κs a p s e = e

pub take_passes_on : PassesOn 1 take_kinds.ps take_kinds.r take_promise.Post take_below.Post
take_passes_on κs a p s e = e

pub fcs_passes_on : PassesOn 1 fcs_kinds.ps fcs_kinds.r fcs_promise.Post fcs_below.Post
fcs_passes_on κs a p s e = e

pub fcs_bitwise_passes_on : PassesOn 1 fcs_bitwise_kinds.ps fcs_bitwise_kinds.r fcs_bitwise_promise.Post fcs_bitwise_below.Post
fcs_bitwise_passes_on κs a p s e = e

pub check_passes_on : PassesOn 1 check_kinds.ps check_kinds.r check_promise.Post check_below.Post
check_passes_on κs a p s e = e

pub write_checked_passes_on : PassesOn 2 write_checked_kinds.ps write_checked_kinds.r write_checked_promise.Post write_checked_below.Post
write_checked_passes_on κs a p s e = e

pub read_checked_passes_on : PassesOn 2 read_checked_kinds.ps read_checked_kinds.r read_checked_promise.Post read_checked_below.Post
read_checked_passes_on κs a p s e = e
