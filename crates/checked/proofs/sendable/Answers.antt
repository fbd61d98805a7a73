-- `sendable` meets its contract: each of its five ways is that of the definition. Assumes nothing.
use Rattle.std.proofs.Common.{refl}
use Rattle.std.proofs.lemmas.Result.{err_from_is_err_and}
use borrow.Author.Tests.{lt-ltb, le-ltb}
use Rattle.checked.specs.Profile.{written_checked}
use Rattle.checked.proofs.sendable.Goals as goal

pub returns-in_err-try_from : goal.returns-in_err-try_from
unfolding written_checked
returns-in_err-try_from c =
    let p = err_from_is_err_and c.from_residual.result c.from_residual.ensures.1 in
    rw (p.1, p.2, c.in_err-try_from.ensures.1, c.in_err-try_from.ensures.0) (λ buffer. refl)

pub returns-then-is_empty : goal.returns-then-is_empty
unfolding written_checked
returns-then-is_empty c = λ buffer. rw (c.in_ok-try_from.ensures.0, ← c.if-is_empty.ensures)

pub returns-then-report-gt125 : goal.returns-then-report-gt125
unfolding written_checked
returns-then-report-gt125 c = λ buffer. rw (c.in_ok-try_from.ensures.0, ← c.if-is_empty.ensures, lt-ltb 125 _ c.if-report-gt125.true)

pub returns-then-all_zero : goal.returns-then-all_zero
unfolding written_checked
returns-then-all_zero c = λ buffer.
    rw (c.in_ok-try_from.ensures.0, ← c.if-is_empty.ensures, le-ltb 125 _ c.if-report-gt125.false, ← c.if-all_zero.ensures)

pub returns : goal.returns
unfolding written_checked
returns c = (
  c.if-report-gt125.false,
  λ buffer. rw (c.in_ok-try_from.ensures.0, ← c.if-is_empty.ensures, le-ltb 125 _ c.if-report-gt125.false, ← c.if-all_zero.ensures),
)
