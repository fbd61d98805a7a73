-- `nearest` meets its contract: the nearer of two words (Bits.antt). Assumes nothing.
use Rattle.std.proofs.Common.{refl, arith}
use Rattle.matching.proofs.Bits.{nearer_near, four_bits}
use Rattle.matching.proofs.fifteen.nearest.Goals as goal

pub overflow_sub-result : goal.overflow_sub-result
overflow_sub-result c = four_bits _ _ c.apart-d.ensures.1 (omega arith)

pub returns : goal.returns
returns c = nearer_near c.args.bits c.ranges.bits.fits _ c.apart-d.ensures.0 _ refl
