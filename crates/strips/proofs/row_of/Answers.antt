-- `row_of` meets its contract: it computes what the definition says, in numbers that fit
-- (Runs.antt). Assumes nothing.
use Rattle.std.proofs.Common.{arith, le-leb}
use borrow.Author.Tests.{lt-leb}
use Rattle.strips.specs.Strip.{row_at}
use Rattle.strips.proofs.Runs.{phy_few, row_few}
use Rattle.strips.proofs.row_of.Goals as goal

pub returns-then-phy-v : goal.returns-then-phy-v
unfolding row_at
returns-then-phy-v c = rw (← c.phy_of-phy.ensures, le-leb _ _ c.if-phy-v.true)

pub nonzero_div-result : goal.nonzero_div-result
nonzero_div-result c = let z = c.phy_of-phy in (row_few _ z.result z.ensures _ c.if-phy-v.false).some

pub nonzero_rem-result : goal.nonzero_rem-result
nonzero_rem-result c = let z = c.phy_of-phy in (row_few _ z.result z.ensures _ c.if-phy-v.false).some

pub overflow_mul-result-4 : goal.overflow_mul-result-4
overflow_mul-result-4 c = let z = c.phy_of-phy in
    omega (arith, (phy_few _ z.result z.ensures).0, (row_few _ z.result z.ensures _ c.if-phy-v.false).turn)

pub returns : goal.returns
unfolding row_at
returns c = rw (← c.phy_of-phy.ensures, lt-leb _ _ c.if-phy-v.false)
