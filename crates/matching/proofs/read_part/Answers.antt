-- `read_part` meets its contract: the bits are those of the eights so far (Gathering.antt of
-- `codes`, as for the reader's loop). Assumes nothing.
use Rattle.std.proofs.Common.{◌≡◌, ℕ, List, length, true, ap, ◌∙◌, eq-eqb, ne_eqb, rules}
use Rattle.codes.specs.declared.Phy.{Phy}
use Rattle.codes.specs.Radio.{known, radio_of}
use Rattle.codes.specs.Symbol.{symbol_of, match_of}
use Rattle.codes.specs.Phy.{phy_at}
use Rattle.codes.proofs.Modes.{phy_known}
use Rattle.codes.proofs.Unique.{nochip_of}
use Rattle.codes.proofs.Gathering.{loop_starts, loop_goes_on, loop_stops}
use Rattle.matching.proofs.Judging.{judged_part}
use Rattle.matching.proofs.read_part.Goals as goal

-- the size of a mode's row, and the match of a part of that size
sized : (mode : ℕ) → known mode ≡ true → (p : Phy) → p ≡ phy_at mode → p.size ≡ (radio_of mode).size
sized mode k p e = ap (λ (q : Phy). q.size) (e ∙ phy_known mode k)

long : (mode : ℕ) → known mode ≡ true → (part : List ℕ) → length part ≡ (radio_of mode).size → symbol_of (radio_of mode) part ≡ match_of mode part
unfolding match_of
long mode k part l = rw (k, eq-eqb _ _ l)

pub returns-then-part-phy_of : goal.returns-then-part-phy_of
unfolding match_of
returns-then-part-phy_of g c =
    let n = rw (sized g.M.Mode.NUMBER g.M.Mode.is_known _ (rw c.NUMBER.ensures at c.phy_of.ensures)) at c.if-part-phy_of.true in
    rw (g.M.Mode.is_known, ne_eqb _ _ n)

pub loop-k-init : goal.loop-k-init
loop-k-init g c = loop_starts g.M.Mode.NUMBER g.M.Mode.is_known c.args.part.now

pub returns-in_err-bits : goal.returns-in_err-bits
returns-in_err-bits g c =
    let l = c.if-part-phy_of.false ∙ sized g.M.Mode.NUMBER g.M.Mode.is_known _ (rw c.NUMBER.ensures at c.phy_of.ensures) in
    let n = nochip_of (radio_of g.M.Mode.NUMBER) _ (loop_stops g.M.Mode.NUMBER g.M.Mode.is_known _ l _ c.loop-k-test.true _ c.loop-k.invariant (search rules)) in
    let m = long g.M.Mode.NUMBER g.M.Mode.is_known _ l in
    search rules

pub loop-k-preserved : goal.loop-k-preserved
loop-k-preserved g c =
    let l = c.if-part-phy_of.false ∙ sized g.M.Mode.NUMBER g.M.Mode.is_known _ (rw c.NUMBER.ensures at c.phy_of.ensures) in
    loop_goes_on g.M.Mode.NUMBER g.M.Mode.is_known _ l _ c.loop-k-test.true _ c.loop-k.invariant _ (search rules)

pub returns : goal.returns
returns g c =
    let l = c.if-part-phy_of.false ∙ sized g.M.Mode.NUMBER g.M.Mode.is_known _ (rw c.NUMBER.ensures at c.phy_of.ensures) in
    judged_part g.M.Mode.NUMBER g.M.Mode.is_known _ l c.loop-k-test.false c.loop-k.invariant {near = c.nearest.result} (search rules) (search rules)
    ∙ long g.M.Mode.NUMBER g.M.Mode.is_known _ l
