-- `chip` meets its contract: it computes what the definition says, and the place is one of 64 bits.
-- Assumes nothing.
use Rattle.std.proofs.Common.{refl}
use Rattle.strips.specs.Strip.{chip_of}
use Rattle.strips.proofs.chip.Goals as goal

pub returns : goal.returns
unfolding chip_of
returns c = refl
