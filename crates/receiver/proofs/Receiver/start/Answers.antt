-- `start` meets its contract: a law for each of its two ways (Ways.antt). Assumes nothing.
use Rattle.std.proofs.Common.{◌∙◌}
use Rattle.receiver.proofs.Ways.{start_known, start_unknown}
use Rattle.receiver.proofs.Receiver.start.Goals as goal
use Rattle.receiver.proofs.Receiver.start.Goals.{in-Ok, in-Err}

pub returns : goal.returns
returns c =
    c.held.ensures ∙ rw (c.stop.ensures, c.begin.ensures)
    (elim c.match-try_from.branch [
      | in-Ok w ↦ rw w.number-is (start_known c.args.mode w.in-Ok.ensures.0)
      | in-Err w ↦ rw (w.number-is, w.into-number.ensures, w.in-Err.ensures.1) (start_unknown c.args.mode w.in-Err.ensures.0)
    ])
