-- `all_zero` meets its contract (Tests.antt). Assumes nothing.
use Rattle.std.proofs.Common.{◌∙◌, rules, tests}
use Rattle.std.proofs.lemmas.Iterator.{YieldsList-from_slice}
use Rattle.std.proofs.lemmas.Iterator.Search.{all_from_yields_List}
use Rattle.checked.proofs.Tests.{zeros_each}
use Rattle.checked.proofs.all_zero.Goals as goal

pub returns : goal.returns
returns c =
    let octets = c.args.octets.now in
    all_from_yields_List _ _ _ _ c.all.ensures.ran (YieldsList-from_slice octets cc) (λ x b q k. search (rules, tests)) ∙ zeros_each octets
