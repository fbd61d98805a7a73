-- `finish` meets its contract: an open record ends with 4 (Ways.antt). Assumes nothing.
use Rattle.std.proofs.Common.{}
use Rattle.receiver.proofs.Ways.{finish_open}
use Rattle.receiver.proofs.Receiver.finish.Goals as goal

pub returns : goal.returns
returns c = rw c.into-number.ensures (finish_open c.args.self c.in_default.ensures.0 c.in_default.ensures.1)
