-- `by_entry` meets its contract (Entry.antt). Assumes nothing.
use Rattle.fcs.proofs.Entry.{table_ruled, by_entry_lem}
use Rattle.fcs.proofs.by_entry.Goals as goal

pub returns : goal.returns
returns c = cc (by_entry_lem _ table_ruled c.args.register c.args.octet c.ranges.octet.fits)
