-- What is still to be read stays the mode.
use Rattle.std.proofs.Common.{◌≡◌, drop}
use Rattle.send.specs.Mode.{mode_from, mode_of}
use Rattle.send.proofs.mode_of.Given as goal

abbrev pub invariant-loop-digit : goal.invariant-loop-digit
invariant-loop-digit l = mode_of l.text ≡ mode_from l.mode (drop l.digit-index l.text)
