-- `settle` meets its contract: within an octet there is room, and nothing is kept (`Roomy`,
-- `kept_partial`). Assumes nothing.
use Rattle.std.proofs.Common.{◌≡◌, false, le-ltb, rules}
use Rattle.std.proofs.lemmas.Bool.{eqb-false}
use Rattle.order.specs.Taking.{whole_at}
use Rattle.order.proofs.Steps.{kept_partial}
use Rattle.reader.proofs.settle.Goals as goal

pub returns-then-not-whole_octets-clause-value : goal.returns-then-not-whole_octets-clause-value
unfolding whole_at
returns-then-not-whole_octets-clause-value g c =
    let part : whole_at g.M.Mode.NUMBER c.args.next ≡ false = search rules in
    rw (le-ltb c.args.room c.args.next.length (c.requires (eqb-false _ 0 (rw g.M.Mode.is_known at part))))

pub returns-then-not-whole_octets-clause-octets_after : goal.returns-then-not-whole_octets-clause-octets_after
returns-then-not-whole_octets-clause-octets_after g c = kept_partial g.M.Mode.NUMBER c.args.next _ (search rules)
