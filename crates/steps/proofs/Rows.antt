-- What a radio's row says of its octets and its symbols' values. Assumes nothing.
use Rattle.std.proofs.Common.{ℕ}
use lib.Pow.{pow_pos}
use Rattle.codes.specs.Radio.{radio_of}
use Rattle.codes.specs.Phy.{phy_of}
use Rattle.frame.proofs.Modes.{few_symbols, some_symbols}
use Rattle.frame.proofs.Modes as frame
use Rattle.steps.specs.Bounded.{Bounded}

pub bounded : (mode : ℕ) → Bounded (phy_of (radio_of mode))
bounded mode =
    record {
      some = some_symbols mode;
      few = few_symbols mode;
      some_values = pow_pos (radio_of mode).bits;
      few_values = frame.few_values mode;
    }
