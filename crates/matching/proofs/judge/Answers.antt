-- `judge` meets its contract: the tests of the definition. Assumes nothing.
use Rattle.std.proofs.Common.{rules, tests}
use Rattle.matching.specs.Judged.{judged, judged_at}
use Rattle.matching.proofs.judge.Goals as goal

pub returns-in_default : goal.returns-in_default
unfolding judged_at
returns-in_default c = search rules

pub returns : goal.returns
unfolding judged_at judged
returns c = search (rules, tests)
