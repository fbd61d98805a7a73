-- `keep` meets its contract: it goes by the mode's row. Assumes nothing.
use Rattle.std.proofs.Common.{◌∙◌}
use Rattle.order.specs.Taking.{kept_at}
use Rattle.steps.proofs.keep.Goals as goal

pub returns-in_default : goal.returns-in_default
unfolding kept_at
returns-in_default c = rw c.in_default.ensures.0

pub returns-in-Some : goal.returns-in-Some
unfolding kept_at
returns-in-Some c = rw c.to_le_bytes.ensures (c.in-Some.ensures.1 c.args.octets.now ∙ rw (c.in-Ok.ensures.0, c.in-Ok.ensures.1))

pub returns-in_default-place : goal.returns-in_default-place
unfolding kept_at
returns-in_default-place c = c.in_default-place.ensures c.args.octets.now ∙ rw (c.in-Ok.ensures.0, c.in-Ok.ensures.1)
