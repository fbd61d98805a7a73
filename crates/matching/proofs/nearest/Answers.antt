-- `nearest` meets its contract: a radio an arm. Assumes nothing.
use Rattle.std.proofs.Common.{rules}
use Rattle.codes.specs.Near.{nearest_in}
use Rattle.matching.proofs.nearest.Goals as goal

pub returns-in_default : goal.returns-in_default
unfolding nearest_in
returns-in_default c = search rules
