-- `right_fcs` meets its contract (Tests.antt). Assumes nothing.
use Rattle.std.proofs.Common.{◌∙◌}
use Rattle.checked.proofs.Tests.{compared}
use Rattle.checked.proofs.right_fcs.Goals as goal

pub returns : goal.returns
returns c =
    let s = c.split_at.ensures in
    compared _ c.requires _ _ s.front s.back _ _ c.by_table.ensures (c.from.ensures ∙ c.from_le_bytes.ensures)
