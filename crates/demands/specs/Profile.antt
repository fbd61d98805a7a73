-- The words that the theorems of the checked profile are stated with: a report that passes.
use Rattle.std.specs.Prelude.{◌≡◌, List, ℕ, ◌≤◌, length, replicate}
use Rattle.fcs.specs.Fcs.{with_fcs}
use Rattle.checked.specs.Profile.{body}

-- three octets or more, the last two of them the FCS of those before, and not all of them 0. (That
-- they are three or more follows: two would be the FCS of no octets, which is 0.)
pub record Passes (report : List ℕ) : Type 0 where
  pub long : 3 ≤ length report
  pub ends : report ≡ with_fcs (body report)
  pub some : report ≡ replicate (length report) 0 → ⊥
