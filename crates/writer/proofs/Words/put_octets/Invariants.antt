-- What is written, and behind it what is still to be written, stay the frame (`FrameLeft`).
use Rattle.codes.specs.Radio.{radio_of}
use Rattle.frame.specs.Frame.{octets}
use Rattle.frame.proofs.Turns.{FrameLeft}
use Rattle.writer.proofs.Words.put_octets.Given as goal

abbrev pub invariant-loop-j : goal.invariant-loop-j
invariant-loop-j g l = FrameLeft (radio_of g.M.Mode.NUMBER) (octets l.report) l.out l.last l.j
