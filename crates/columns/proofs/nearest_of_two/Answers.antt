-- `nearest_of_two` meets its contract: what the keys tell (Chosen.antt). Assumes nothing.
use Rattle.std.proofs.Common.{◌∙◌, refl}
use Rattle.columns.proofs.Chosen.{two_half, two_nearest}
use Rattle.columns.proofs.nearest_of_two.Goals as goal

pub keys-requires : goal.keys-requires
keys-requires c = two_half c.args.bits c.ranges.bits.fits _ refl _ refl

pub returns : goal.returns
returns c = c.near.ensures ∙ two_nearest c.args.bits c.ranges.bits.fits _ refl _ refl _ c.keys.ensures
