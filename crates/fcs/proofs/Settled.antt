-- The promises settle what they speak of, and ask nothing; and the two functions are equal on every
-- input, since both promise the one definition's value. Assumes nothing.
use mathlib.Core.Path.{◌≡◌}
use contract.Lifetimes.{Lfts}
use denote.Triple.Clauses.{AtExit}
use borrow.Fn.Kinds.{Dens, res_t, ended_of}
use Rattle.codes.proofs.Settled.{settled, Settles, AsksNothing}
use Rattle.fcs.proofs.bitwise.Kinds as bitwise_kinds
use Rattle.fcs.proofs.bitwise.Reads as bitwise_promise
use Rattle.fcs.proofs.by_table.Kinds as by_table_kinds
use Rattle.fcs.proofs.by_table.Reads as by_table_promise

pub bitwise_settled : Settles 1 bitwise_kinds.ps bitwise_kinds.r bitwise_promise.Post
bitwise_settled κs a p q s t = settled p q

pub by_table_settled : Settles 1 by_table_kinds.ps by_table_kinds.r by_table_promise.Post
by_table_settled κs a p q s t = settled p q

-- what the one promises of octets, and what the other promises of the same octets, is one number
pub both_equal : (κs : Lfts 1) (a : Dens κs bitwise_kinds.ps) (p q : (res_t bitwise_kinds.r κs).Denot)
    (s t : AtExit (ended_of 1 bitwise_kinds.ps bitwise_kinds.r) κs)
    → bitwise_promise.Post κs a p s → by_table_promise.Post κs a q t → p ≡ q
both_equal κs a p q s t = settled p q

pub bitwise_asks_nothing : AsksNothing 1 bitwise_kinds.ps bitwise_promise.Pre
bitwise_asks_nothing κs a = tt

pub by_table_asks_nothing : AsksNothing 1 by_table_kinds.ps by_table_promise.Pre
by_table_asks_nothing κs a = tt
