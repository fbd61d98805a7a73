-- `put_frame` meets its contract: a law for each of its three ways (Writer.antt of `frame`). Assumes
-- nothing.
use Rattle.std.proofs.Common.{◌*◌, ap, arith}
use Rattle.frame.proofs.Writer.{too_long, no_room, done}
use Rattle.writer.proofs.put_frame.Goals as goal

pub returns-then-report-gt127 : goal.returns-then-report-gt127
returns-then-report-gt127 g c = too_long _ _ _ g.M.Mode.is_known (omega arith)

pub returns-then-chips-count : goal.returns-then-chips-count
returns-then-chips-count g c = no_room _ _ _ g.M.Mode.is_known (omega arith) _ (ap (◌*◌ _) c.octet_chips.ensures) (omega arith)

pub returns : goal.returns
returns g c = done _ _ _ g.M.Mode.is_known (omega arith) _ (ap (◌*◌ _) c.octet_chips.ensures) (omega arith) _ c.put_octets.ensures
