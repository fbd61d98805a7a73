-- What is still to be read stays the reading's answer, and the bits are those of the eights so far.
use Rattle.std.proofs.Common.{◌≡◌}
use Rattle.std.specs.Slice.Iter.{chunks_exact_rest, chunks_exact_size}
use Rattle.codes.proofs.Gathering.{Loop}
use Rattle.reader.proofs.Cut.{Cutting}
use Rattle.reader.proofs.scan.Given as goal

abbrev pub invariant-symbols : goal.invariant-symbols
invariant-symbols g l = Cutting g.M.Mode.NUMBER l.room l.chips l.octets l.hand (chunks_exact_rest l.part-iterator) (chunks_exact_size l.part-iterator)

abbrev pub invariant-chips : goal.invariant-chips
invariant-chips g l = (l.hand ≡ l.initial.hand) × Loop g.M.Mode.NUMBER l.part l.k l.bits
