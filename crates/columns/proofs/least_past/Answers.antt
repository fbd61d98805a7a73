-- `least_past` meets its contract: the keys are all sixteen. Assumes nothing.
use Rattle.std.proofs.Common.{take_all, rules}
use Rattle.columns.proofs.least_past.Goals as goal

pub returns : goal.returns
returns c = rw (take_all 16 c.args.k.now (search rules)) (search rules)
