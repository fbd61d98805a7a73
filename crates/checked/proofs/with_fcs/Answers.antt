-- `with_fcs` meets its contract (Writer.antt). Assumes nothing.
use Rattle.std.proofs.Common.{rules, ◌≡◌}
use Rattle.std.specs.Int.{w16, to_le_bytes}
use Rattle.checked.proofs.Writer.{appended}
use Rattle.checked.proofs.with_fcs.Goals as goal

pub returns : goal.returns
returns c =
    let f : c.copy_from_slice.new.self ≡ c.args.report.now = search rules in
    let t : c.copy_from_slice-2.new.self ≡ to_le_bytes w16 c.by_table-sequence.result = search rules in
    appended c.args.report.now _ _ _ _ f c.by_table-sequence.ensures t
