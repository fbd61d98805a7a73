-- `match_part` meets its contract: a mode an arm. Assumes nothing.
use Rattle.std.proofs.Common.{◌≡◌, rules}
use Rattle.codes.specs.Symbol.{match_of}
use Rattle.matching.specs.Judged.{given}
use Rattle.matching.proofs.match_part.Goals as goal
use Rattle.matching.proofs.match_part.Goals.{in-0, in-1, in-2, in_default}

pub returns : goal.returns
unfolding match_of
returns c =
    let m : given c.match-mode.symbol ≡ match_of c.args.mode c.args.part.now =
    elim c.match-mode.branch [
      | in-0 w ↦ rw (w.symbol-is, w.in-0.is) w.read_part-symbol.ensures
      | in-1 w ↦ rw (w.symbol-is, w.in-1.is) w.read_part-symbol-in-1.ensures
      | in-2 w ↦ rw (w.symbol-is, w.in-2.is) w.read_part-symbol-in-2.ensures
      | in_default w ↦ rw w.symbol-is (search rules)
    ] in
    search rules
