-- `put_octets` meets its contract: what is written, and behind it what is still to be written, stay
-- the frame (`FrameLeft`). Assumes nothing.
use Rattle.std.proofs.Common.{ℕ, ◌*◌, ap, ◌∙◌, arith}
use Rattle.codes.specs.Radio.{radio_of}
use Rattle.codes.proofs.Facts.{sound}
use Rattle.frame.specs.Frame.{symbols_with, frame_with}
use Rattle.frame.proofs.Octets.{octets_long}
use Rattle.frame.proofs.Turns.{frame_ends, frame_turns}
use Rattle.writer.proofs.Words.put_octets.Goals as goal

pub loop-j-preserved : goal.loop-j-preserved
loop-j-preserved g c =
    let m = g.M.Mode.NUMBER in
    let n = octets_long c.args.report.now in
    let o = c.put_octet-last.ensures in
    let x = c.octet_at.ensures in
    frame_turns (radio_of m) _ _ _ _ c.loop-j.invariant (c.loop-j.auto.out ∙ rw (← n) at c.requires.room) (omega (arith, n)) (sound m) _ _ _ _
    (rw x at o.value) (ap (λ (k : ℕ). c.loop-j.j * k) c.octet_chips-size.ensures) (rw x at o.out)

pub returns : goal.returns
unfolding symbols_with frame_with
returns g c =
    let n = octets_long c.args.report.now in
    frame_ends (radio_of g.M.Mode.NUMBER) _ _ _ _ c.loop-j.invariant (c.loop-j.auto.out ∙ rw (← n) at c.requires.room) (omega (arith, n))
