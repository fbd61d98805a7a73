-- `scan` meets its contract: what is still to be read stays the reading's answer (Cut.antt), and
-- the bits are those of the eights so far (Gathering.antt of `codes`). Assumes nothing.
use Rattle.std.proofs.Common.{◌≡◌, refl, ◌∙◌, arith, rules}
use Rattle.codes.specs.Numbers.{DONE, MORE}
use Rattle.codes.proofs.Tests.{not_both}
use Rattle.codes.proofs.Gathering.{loop_starts, loop_goes_on, loop_stops}
use Rattle.frame.proofs.Modes.{row_size}
use Rattle.order.specs.Taking.{followed}
use Rattle.order.proofs.Steps.{followed_roomy}
use Rattle.reader.proofs.Modes.{size_positive}
use Rattle.reader.proofs.Cut.{cutting_same, cut_fits, cutting_starts, cut_long, cut_taken, cut_out, cut_stops, cut_refused, cut_on, cut_ends}
use Rattle.reader.proofs.scan.Goals as goal
use Rattle.reader.proofs.scan.Goals.{in-13, in_default-matches}

pub chunks_exact-part-items-requires : goal.chunks_exact-part-items-requires
chunks_exact-part-items-requires g c =
    size_positive g.M.Mode.NUMBER _ (row_size g.M.Mode.NUMBER g.M.Mode.is_known _ (rw c.NUMBER.ensures at c.phy_of-size.ensures))

pub symbols-init : goal.symbols-init
symbols-init g c =
    let e = c.into_iter-part-iterator.ensures.into_iter_gives in
    let made = c.chunks_exact-part-items.ensures in
    cutting_starts g.M.Mode.is_known c.begin-hand.ensures c.told-octets (rw e made.rest)
    (rw e (made.size ∙ row_size g.M.Mode.NUMBER g.M.Mode.is_known _ (rw c.NUMBER.ensures at c.phy_of-size.ensures)))

pub symbols-init-derived : goal.symbols-init-derived
symbols-init-derived g c =
    let e = c.into_iter-part-iterator.ensures.into_iter_gives in
    (rw (e, c.chunks_exact-part-items.ensures.size) (size_positive g.M.Mode.NUMBER _ (row_size g.M.Mode.NUMBER g.M.Mode.is_known _ (rw c.NUMBER.ensures at c.phy_of-size.ensures))), tt)

pub chips-init : goal.chips-init
chips-init g c = (refl, loop_starts g.M.Mode.NUMBER g.M.Mode.is_known _)

pub chips-preserved : goal.chips-preserved
chips-preserved g c =
    let long = cut_long g.M.Mode.is_known c.symbols.invariant _ _ c.in-Some.ensures.steps.1 in (
      c.chips.invariant.0,
      loop_goes_on g.M.Mode.NUMBER g.M.Mode.is_known _ long _ c.chips-test.true _ c.chips.invariant.1 _ (search rules),
    )

pub settle-hand-requires : goal.settle-hand-requires
settle-hand-requires g c =
    let C = cutting_same c.chips.invariant.0 c.symbols.invariant in
    let f : c.follow-next.result ≡ followed g.M.Mode.NUMBER c.chips.hand c.judge-symbol.result = search rules in
    rw f (followed_roomy g.M.Mode.NUMBER c.args.room c.chips.hand (cut_fits C) _)

pub symbols-preserved : goal.symbols-preserved
symbols-preserved g c =
    let C = cutting_same c.chips.invariant.0 c.symbols.invariant in
    let cut = c.in-Some.ensures.steps in
    let f = cut_taken g.M.Mode.is_known C _ _ cut.1 c.chips-test.false c.chips.invariant.1
    c.nearest.result (search rules) c.judge-symbol.result (search rules) c.follow-next.result (search rules) in
    cut_on g.M.Mode.is_known C _ _ cut.1 f c.settle-hand.ensures.value c.settle-hand.ensures.octets_after c.if-hand-ne-MORE.false cut.0

pub returns-in-None : goal.returns-in-None
returns-in-None g c = cut_out g.M.Mode.is_known c.symbols.invariant c.in-None.ensures.steps.1.0

pub returns-in_default : goal.returns-in_default
returns-in_default g c =
    let cut = c.in-Some.ensures.steps.1 in
    let long = cut_long g.M.Mode.is_known c.symbols.invariant _ _ cut in
    cut_stops g.M.Mode.is_known c.symbols.invariant _ _ cut
    (loop_stops g.M.Mode.NUMBER g.M.Mode.is_known _ long _ c.chips-test.true _ c.chips.invariant.1 (search rules))
    (rw (c.chips.invariant.0, c.into.ensures) at c.stop-hand.ensures)

pub returns-then-not-matches : goal.returns-then-not-matches
returns-then-not-matches g c =
    let n : (c.follow-next.result.number ≡ MORE → ⊥) × (c.follow-next.result.number ≡ DONE → ⊥) =
    elim c.match-matches.branch [
      | in-13 w ↦ absurd (not_both _ w.matches-is c.if-not-matches.true)
      | in_default-matches w ↦ (λ e. grind (arith, e, w.in_default-matches), λ e. grind (arith, e, w.in_default-matches))
    ] in
    let C = cutting_same c.chips.invariant.0 c.symbols.invariant in
    let cut = c.in-Some.ensures.steps.1 in
    let f = cut_taken g.M.Mode.is_known C _ _ cut c.chips-test.false c.chips.invariant.1
    c.nearest.result (search rules) c.judge-symbol.result (search rules) c.follow-next.result (search rules) in
    cut_refused g.M.Mode.is_known C _ _ cut f n.0 n.1 c.stop-hand-then-not-matches.ensures

pub returns-then-hand-ne-MORE : goal.returns-then-hand-ne-MORE
returns-then-hand-ne-MORE g c =
    let C = cutting_same c.chips.invariant.0 c.symbols.invariant in
    let cut = c.in-Some.ensures.steps.1 in
    let f = cut_taken g.M.Mode.is_known C _ _ cut c.chips-test.false c.chips.invariant.1
    c.nearest.result (search rules) c.judge-symbol.result (search rules) c.follow-next.result (search rules) in
    cut_ends g.M.Mode.is_known C _ _ cut f c.settle-hand.ensures.value c.settle-hand.ensures.octets_after c.if-hand-ne-MORE.true
