-- `phy_of` meets its contract: what `try_from` gives, or the numbers of no radio. Assumes nothing.
use Rattle.std.proofs.Common.{rules}
use Rattle.codes.specs.Phy.{phy_at}
use Rattle.codes.proofs.phy_of.Goals as goal

pub returns : goal.returns
unfolding phy_at
returns c = search rules
