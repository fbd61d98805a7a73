-- `ready` meets its contract: a law for each of its ways (Ways.antt). Assumes nothing.
use Rattle.std.proofs.Common.{sym, ◌∙◌}
use Rattle.receiver.proofs.Ways.{push_forged, push_ended, finish_forged, finish_ended}
use Rattle.receiver.proofs.Receiver.ready.Goals as goal

pub returns-then-forged : goal.returns-then-forged
returns-then-forged c =
    let f = sym c.forged.ensures ∙ c.if-forged.true in
    (λ part. push_forged c.args.self part f, finish_forged c.args.self f)

pub returns-then-self-ne-MORE : goal.returns-then-self-ne-MORE
returns-then-self-ne-MORE c =
    let f = sym c.forged.ensures ∙ c.if-forged.false in
    (λ part. push_ended c.args.self part f c.if-self-ne-MORE.true, finish_ended c.args.self f c.if-self-ne-MORE.true)
