-- `refusal` meets its contract. Assumes nothing.
use Rattle.std.proofs.Common.{rules}
use Rattle.reader.specs.Read.{told}
use Rattle.reader.proofs.refusal.Goals as goal

pub returns : goal.returns
unfolding told
returns c = search rules
