-- `octet_chips` meets its contract: the product of two numbers of the radio's row.
-- Assumes nothing.
use Rattle.std.proofs.Common.{arith}
use Rattle.frame.proofs.Modes.{few_octet, row_octet}
use Rattle.writer.proofs.octet_chips.Goals as goal

pub overflow_mul-result : goal.overflow_mul-result
overflow_mul-result g c =
    let o = row_octet g.M.Mode.NUMBER g.M.Mode.is_known _ (rw c.NUMBER.ensures at c.phy_of-phy.ensures) in
    omega (arith, o, few_octet g.M.Mode.NUMBER)

pub returns : goal.returns
returns g c = row_octet g.M.Mode.NUMBER g.M.Mode.is_known _ (rw c.NUMBER.ensures at c.phy_of-phy.ensures)
