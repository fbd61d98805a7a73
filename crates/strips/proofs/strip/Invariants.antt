-- The definition's chips so far over zeros.
use Rattle.strips.specs.Strip.{strip_chip}
use Rattle.strips.proofs.Runs.{Made}
use Rattle.strips.proofs.strip.Given as goal

abbrev pub invariant-loop-i : goal.invariant-loop-i
invariant-loop-i l = Made (strip_chip l.phy) l.strip l.i
