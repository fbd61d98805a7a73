-- `gather` meets its contract: the numbers of the call are those of the mode's layout.
-- Assumes nothing.
use Rattle.std.proofs.Common.{◌∙◌}
use Rattle.codes.specs.Gathered.{gathered_at}
use Rattle.codes.proofs.gather.Goals as goal

pub returns-in_default : goal.returns-in_default
unfolding gathered_at
returns-in_default c = rw c.in_default.ensures.0

pub returns : goal.returns
unfolding gathered_at
returns c = c.gather.ensures ∙ rw (c.in-Ok.ensures.0, c.in-Ok.ensures.1)
