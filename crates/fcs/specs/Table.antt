-- What a table has to hold for octets to enter at once. Not to be believed: shown of the code's by
-- one computed test.
use Rattle.std.specs.Prelude.{◌≡◌, ℕ, ◌<◌, List, length, get_or}
use Rattle.frame.specs.Frame.{digits}
use Rattle.fcs.specs.Fcs.{register_after}

-- entry k is what eight bits of 0 make of the register k
pub record Ruled (table : List ℕ) : Type 0 where
  pub long : length table ≡ 256
  pub rule : (k : ℕ) → k < 256 → get_or table k 0 ≡ register_after k (digits 8 2 0)
