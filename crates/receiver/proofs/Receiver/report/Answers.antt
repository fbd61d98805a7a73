-- `report` meets its contract: a law for each of its ways (Ways.antt). Assumes nothing.
use Rattle.std.proofs.Common.{◌≡◌, ap, ◌∙◌, length, rules}
use Rattle.reader.specs.Read.{told}
use Rattle.receiver.proofs.Ways.{takes_short, tells_done}
use Rattle.receiver.proofs.Receiver.report.Goals as goal

-- the record's array has its 127 elements
pub returns-then-room-self : goal.returns-then-room-self
returns-then-room-self c =
    let a = c.args in
    let long : length a.self.octets ≡ 127 = search rules in
    c.refusal.ensures ∙ rw c.into.ensures (ap told (takes_short a.self a.room c.requires.0 c.requires.1 long c.if-room-self.true))

pub returns-then-phy : goal.returns-then-phy
returns-then-phy c =
    let a = c.args in
    let long : length a.self.octets ≡ 127 = search rules in
    tells_done a.self a.room c.requires.0 c.requires.1 long c.if-room-self.false _ c.phy_of-phy.ensures _ (rw c.if-phy.true)

pub returns-else-phy : goal.returns-else-phy
returns-else-phy c =
    let a = c.args in
    let long : length a.self.octets ≡ 127 = search rules in
    tells_done a.self a.room c.requires.0 c.requires.1 long c.if-room-self.false _ c.phy_of-phy.ensures _ (rw c.if-phy.false)
