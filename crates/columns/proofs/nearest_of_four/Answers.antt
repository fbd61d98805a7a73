-- `nearest_of_four` meets its contract: what the keys tell (Chosen.antt). Assumes nothing.
use Rattle.std.proofs.Common.{◌∙◌, refl}
use Rattle.columns.proofs.Chosen.{four_half, four_nearest}
use Rattle.columns.proofs.nearest_of_four.Goals as goal

pub keys-requires : goal.keys-requires
keys-requires c = four_half c.args.bits c.ranges.bits.fits _ refl _ refl

pub returns : goal.returns
returns c = c.near.ensures ∙ four_nearest c.args.bits c.ranges.bits.fits _ refl _ refl _ c.keys.ensures
