-- Not to be believed: what every radio's numbers keep, so that nothing overflows and nothing is
-- divided by 0.
use Rattle.std.specs.Prelude.{◌<◌, ◌≤◌}
use Rattle.codes.specs.declared.Phy.{Phy}

pub record Bounded (p : Phy) : Type 0 where
  -- symbols of an octet
  pub some : 0 < p.per
  pub few : p.per ≤ 8
  -- values of a symbol
  pub some_values : 0 < p.values
  pub few_values : p.values ≤ 16
