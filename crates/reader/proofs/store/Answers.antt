-- `store` meets its contract: the tests of the definition. Assumes nothing.
use Rattle.std.proofs.Common.{◌≡◌, length, sym, arith, rules, length-take-le}
use Rattle.reader.proofs.Told.{store_many, store_short, stored, stored_none}
use Rattle.reader.proofs.store.Goals as goal
use Rattle.reader.proofs.store.Goals.{else-n-le127-via-then-n-le127+else-n-report, else-n-le127-via-else-n-le127}

pub returns-then-n-eq0 : goal.returns-then-n-eq0
returns-then-n-eq0 c =
    let a = c.args in
    let l : length a.octets ≡ 127 = search rules in
    rw c.if-n-eq0.true (sym (stored_none a.octets a.report.now l))

pub returns-then-n-report : goal.returns-then-n-report
returns-then-n-report c =
    let a = c.args in
    let l : length a.octets ≡ 127 = search rules in
    rw (c.copy_from_slice.ensures.after, stored a.n a.octets a.report.now c.if-n-le127.true l c.if-n-report.true, length-take-le a.n a.octets (omega arith))

pub returns-else-n-le127 : goal.returns-else-n-le127
returns-else-n-le127 c =
    elim c.else-n-le127.branch [
      | else-n-le127-via-then-n-le127+else-n-report w ↦ store_short _ _ _ w.if-n-le127.true w.if-n-report.false
      | else-n-le127-via-else-n-le127 w ↦ store_many _ _ _ w.if-n-le127.false
    ]
