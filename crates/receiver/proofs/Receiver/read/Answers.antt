-- `read` meets its contract: a law for each of its ways (Ways.antt). Assumes nothing.
use Rattle.std.proofs.Common.{◌∙◌}
use Rattle.receiver.proofs.Ways.{push_part, push_symbol}
use Rattle.receiver.proofs.Receiver.read.Goals as goal

pub returns-then-symbol-into : goal.returns-then-symbol-into
returns-then-symbol-into c =
    let f = c.in_ok-ready.ensures in
    push_part c.args.self c.args.part.now f.0 f.1 _ c.match_part-symbol.ensures (c.if-symbol-into.true ∙ c.into.ensures)

pub returns : goal.returns
returns c =
    let f = c.in_ok-ready.ensures in
    push_symbol c.args.self c.args.part.now f.0 f.1 _ c.match_part-symbol.ensures (rw c.into.ensures at c.if-symbol-into.false)
