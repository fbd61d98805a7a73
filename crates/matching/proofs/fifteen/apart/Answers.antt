-- `apart` meets its contract: no digit carries, so the sum of the digits is the distance
-- (Bits.antt). Assumes nothing.
use Rattle.std.proofs.Common.{◌∙◌}
use Rattle.matching.proofs.Bits.{sum_apart, few}
use Rattle.matching.proofs.fifteen.apart.Goals as goal

pub returns : goal.returns
returns c =
    let e = c.digit_sum.ensures ∙ sum_apart c.args.bits c.ranges.bits.fits in
    (e, few c.args.bits c.ranges.bits.fits _ e)
