-- `take` meets its contract: what `tell` tells, and what `store` stores of it (Ways.antt).
-- Assumes nothing.
use Rattle.std.proofs.Common.{◌≡◌, length, rules}
use Rattle.receiver.proofs.Ways.{takes_stored}
use Rattle.receiver.proofs.Receiver.take.Goals as goal

-- the record's array has its 127 elements
pub returns : goal.returns
returns c =
    let a = c.args in
    let long : length a.self.octets ≡ 127 = search rules in
    takes_stored a.self a.report.now long _ c.tell-answer.ensures _ c.store.ensures
