-- `sent_symbol` meets its contract: the row says whether the radio's symbols are chained. Assumes
-- nothing.
use Rattle.std.proofs.Common.{sym, ◌∙◌}
use Rattle.frame.proofs.Modes.{row_chained}
use Rattle.writer.proofs.Words.sent_symbol.Goals as goal

pub returns-then-phy_of : goal.returns-then-phy_of
returns-then-phy_of g c =
    let z = rw c.NUMBER.ensures at c.phy_of.ensures in
    rw (sym (row_chained g.M.Mode.NUMBER g.M.Mode.is_known _ z) ∙ c.if-phy_of.true)

pub returns-else-phy_of : goal.returns-else-phy_of
returns-else-phy_of g c =
    let z = rw c.NUMBER.ensures at c.phy_of.ensures in
    rw (sym (row_chained g.M.Mode.NUMBER g.M.Mode.is_known _ z) ∙ c.if-phy_of.false)
