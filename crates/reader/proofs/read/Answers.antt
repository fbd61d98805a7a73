-- `read` meets its contract: a law for each of its two ways (Told.antt). Assumes nothing.
use Rattle.std.proofs.Common.{◌≡◌, true, length, refl, rules}
use Rattle.codes.specs.Radio.{known, radio_of}
use Rattle.order.specs.Order.{reading}
use Rattle.reader.specs.Telling.{Tells}
use Rattle.reader.proofs.Told.{tells_no_radio, tells}
use Rattle.reader.proofs.read.Goals as goal
use Rattle.reader.proofs.read.Goals.{in-0, in-1, in-2}

pub returns-in_default : goal.returns-in_default
returns-in_default c =
    let a = c.args in
    tells_no_radio a.mode a.chips.now a.report.now (search rules) _ (rw c.into.ensures at c.refusal.ensures)

pub returns : goal.returns
returns c =
    let a = c.args in
    let m = c.match-mode in
    let t : (known a.mode ≡ true) × Tells (radio_of a.mode) (length a.report.now) (reading (radio_of a.mode) (length a.report.now) a.chips.now) m.octets m.hand =
    elim m.branch [
      | in-0 w ↦ rw (w.in-0.is, w.octets-is, w.hand-is) (refl, w.scan-hand.ensures)
      | in-1 w ↦ rw (w.in-1.is, w.octets-is, w.hand-is) (refl, w.scan-hand-in-1.ensures)
      | in-2 w ↦ rw (w.in-2.is, w.octets-is, w.hand-is) (refl, w.scan-hand-in-2.ensures)
    ] in
    tells a.mode a.chips.now a.report.now t.0 _ _ t.1 _ c.tell-answer.ensures _ c.store.ensures
