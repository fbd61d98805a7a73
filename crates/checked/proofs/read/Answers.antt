-- `read` meets its contract: a law for each of its three ways (Reader.antt). Assumes nothing.
use Rattle.std.proofs.Common.{refl, sym, length-take-le}
use Rattle.checked.proofs.Reader.{n_fits, as_plain, not_passed, passed}
use Rattle.checked.proofs.read.Goals as goal

pub returns-then-answer-ne-DONE : goal.returns-then-answer-ne-DONE
returns-then-answer-ne-DONE c =
    let a = c.args in
    let d = c.read-answer in
    as_plain _ _ _ _ refl _ c.min-room.ensures
    _ _ d.ensures d.auto.report c.if-answer-ne-DONE.true

pub slice_bounds-octets-end-2 : goal.slice_bounds-octets-end-2
slice_bounds-octets-end-2 c =
    let a = c.args in
    let d = c.read-answer in
    n_fits _ _ _ _ refl _ c.min-room.ensures _ _ d.ensures d.auto.report

pub slice_bounds-tested-end : goal.slice_bounds-tested-end
slice_bounds-tested-end c =
    let a = c.args in
    let d = c.read-answer in
    sym (length-take-le _ _ (n_fits _ _ _ _ refl _ c.min-room.ensures _ _ d.ensures d.auto.report))

pub returns-in-Err : goal.returns-in-Err
returns-in-Err c =
    let a = c.args in
    let d = c.read-answer in
    not_passed _ _ _ _ refl _ c.min-room.ensures _ _ d.ensures d.auto.report
    c.if-answer-ne-DONE.false (λ z. let f = c.in-Err.ensures.passes.1 z in cc) _ (rw (c.in-Err.ensures.refused, ← c.into.ensures) c.refusal.ensures)

pub returns : goal.returns
returns c =
    let a = c.args in
    let d = c.read-answer in
    passed _ _ _ _ refl _ c.min-room.ensures _ _ d.ensures d.auto.report
    c.if-answer-ne-DONE.false (c.in_default.ensures.passes.0 refl) _ c.store.ensures
