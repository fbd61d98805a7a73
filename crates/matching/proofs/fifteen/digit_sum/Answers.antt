-- `digit_sum` meets its contract: it computes what the definition says, in numbers that fit.
-- Assumes nothing.
use Rattle.std.proofs.Common.{refl}
use Rattle.codes.specs.Packed.{digit_sum}
use Rattle.matching.proofs.fifteen.digit_sum.Goals as goal

pub returns : goal.returns
unfolding digit_sum
returns c = refl
