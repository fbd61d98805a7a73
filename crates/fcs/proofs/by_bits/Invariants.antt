-- The bits still to come are those from k on.
use Rattle.std.proofs.Common.{◌≡◌, ◌-◌, ◌/◌, ◌^◌}
use Rattle.frame.specs.Frame.{digits}
use Rattle.fcs.specs.Fcs.{register_after}
use Rattle.fcs.proofs.by_bits.Given as goal

abbrev pub invariant-loop-k : goal.invariant-loop-k
invariant-loop-k l = register_after l.fn.register (digits 8 2 l.octet) ≡ register_after l.register (digits (8 - l.k) 2 (l.octet / 2 ^ l.k))
