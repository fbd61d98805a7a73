-- What is written, and behind it what is still to be written, stay the octet's chips (`OctetLeft`).
use Rattle.codes.specs.Radio.{radio_of}
use Rattle.frame.proofs.Turns.{OctetLeft}
use Rattle.writer.proofs.Words.put_octet.Given as goal

abbrev pub invariant-loop-i : goal.invariant-loop-i
invariant-loop-i g l = OctetLeft (radio_of g.M.Mode.NUMBER) l.last l.octet l.out l.v l.rest l.i
