-- `write` meets its contract, which is that of the writer it calls; the chips that this one counts
-- are in the buffer. Assumes nothing.
use Rattle.std.proofs.Common.{ℕ, ◌≤◌, Result, Ok, Err, IfOk}
use Rattle.codes.specs.declared.Refusal.{Refusal}
use Rattle.frame.specs.Write.{answer_of}
use Rattle.frame.proofs.Writer.{chips_fit}
use Rattle.checked.proofs.Writer.{checked_chips_fit}
use Rattle.send.proofs.Profile.write.Goals as goal

counted : (r : Result ℕ Refusal) (room : ℕ) → (answer_of r).chips ≤ room → IfOk r (λ count. count ≤ room)
counted (Ok chips) room h = h
counted (Err why) room h = tt

pub returns-in-Plain-clause-fits : goal.returns-in-Plain-clause-fits
returns-in-Plain-clause-fits c = counted _ _ (chips_fit _ _ _ _ _ c.try_write.ensures c.try_write.auto.chips)

pub returns-in-Checked-clause-fits : goal.returns-in-Checked-clause-fits
returns-in-Checked-clause-fits c =
    counted _ _ (checked_chips_fit _ _ _ _ _ c.try_write-in-Checked.ensures c.try_write-in-Checked.auto.chips)
