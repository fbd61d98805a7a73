-- `tell` meets its contract: its arms are the definition's tests. Assumes nothing.
use Rattle.std.proofs.Common.{rules, tests}
use Rattle.reader.specs.Telling.{told_by}
use Rattle.reader.proofs.tell.Goals as goal

pub returns-in-0 : goal.returns-in-0
unfolding told_by
returns-in-0 c = search (rules, tests)

pub returns-in-13 : goal.returns-in-13
unfolding told_by
returns-in-13 c = search (rules, tests)

pub returns-in_default : goal.returns-in_default
unfolding told_by
returns-in_default c = search (rules, tests)
