-- `parted` meets its contract: it counts what the definition counts, of sixteen bits. Assumes
-- nothing.
use lib.Bits.{xor_lt}
use lib.Count.{ones-le}
use Rattle.columns.proofs.parted.Goals as goal

pub returns : goal.returns
returns c = (rw c.turned_pair.ensures, ones-le 16 _ (xor_lt 16 _ _ c.ranges.chips.fits c.turned_pair.type_inv))
