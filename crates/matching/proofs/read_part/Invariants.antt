-- The bits are those of the eights so far (Gathering.antt of `codes`, as for the reader's loop).
use Rattle.codes.proofs.Gathering.{Loop}
use Rattle.matching.proofs.read_part.Given as goal

abbrev pub invariant-loop-k : goal.invariant-loop-k
invariant-loop-k g l = Loop g.M.Mode.NUMBER l.part l.k l.bits
