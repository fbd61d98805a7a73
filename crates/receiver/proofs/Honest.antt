-- The test of the record: what the reader carries while it wants more, and when its frame is
-- complete, passes it. Assumes nothing.
use mathlib.Core.Path.{◌≡◌}
use mathlib.Core.Bool.{true, false}
use Prim.Native.Nat.{◌*◌}
use native.Mathlib.Omega.{arith}
use borrow.Author.Tests.{lt-ltb, le-ltb, eq-eqb, ne_eqb}
use Rattle.codes.specs.Numbers.{DONE, MORE}
use Rattle.codes.specs.Radio.{known, radio_of}
use Rattle.order.specs.Taking.{Complete}
use Rattle.order.proofs.Turns.{Open}
use Rattle.receiver.specs.declared.Receiver.{Receiver}
use Rattle.receiver.specs.Record.{total, forged, hand_of}

module _ (c : Receiver) where
  module _ (k : known c.mode ≡ true) where
    -- one that wants more
    pub open_honest : Open (radio_of c.mode) 127 (hand_of c) → forged c ≡ false
    unfolding forged
    open_honest O =
        rw (
          eq-eqb c.ended MORE O.number,
          k,
          le-ltb 127 c.length O.few,
          le-ltb ((radio_of c.mode).limit * c.taken) c.count O.low,
          lt-ltb c.taken (total c) O.under,
        )

    -- one that ended well
    pub complete_honest : c.ended ≡ DONE → Complete (radio_of c.mode) 127 (hand_of c) → forged c ≡ false
    unfolding forged
    complete_honest d C =
        rw (
          ne_eqb c.ended MORE (λ m. omega arith),
          eq-eqb c.ended DONE d,
          k,
          le-ltb 127 c.length C.few,
          le-ltb ((radio_of c.mode).limit * c.taken) c.count C.low,
          eq-eqb c.taken (total c) C.total,
        )
