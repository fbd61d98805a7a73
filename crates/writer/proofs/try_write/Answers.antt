-- `try_write` meets its contract: a radio an arm. Assumes nothing.
use Rattle.std.proofs.Common.{rules}
use Rattle.frame.proofs.Writer.{no_radio}
use Rattle.writer.proofs.try_write.Goals as goal

pub returns-in_default : goal.returns-in_default
returns-in_default c = no_radio c.args.mode _ _ (search rules)
