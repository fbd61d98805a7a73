-- `follow` meets its contract: its steps are the definition's (Ways.antt). Assumes nothing.
use Rattle.std.proofs.Common.{sym, ◌∙◌}
use Rattle.receiver.proofs.Ways.{took_inside}
use Rattle.receiver.proofs.Receiver.follow.Goals as goal

pub returns-then-not-whole_octets : goal.returns-then-not-whole_octets
returns-then-not-whole_octets c =
    let a = c.args in
    c.held.ensures
    ∙ took_inside a.self a.symbol _ _ c.into.ensures c.follow-hand.ensures
    (sym c.whole_octets.ensures ∙ c.if-not-whole_octets.true)
