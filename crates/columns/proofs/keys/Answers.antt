-- `keys` meets its contract: with each turn two keys more are those of the words, eight apart.
-- Assumes nothing.
use Rattle.std.proofs.Common.{◌≡◌, arith, length-set}
use Rattle.columns.specs.Columns.{parted, low_key, high_key}
use Rattle.columns.proofs.Leasts.{lower_turn, upper_turn}
use Rattle.columns.proofs.Words.{keyed}
use Rattle.columns.proofs.keys.Goals as goal

pub loop-n-preserved : goal.loop-n-preserved
loop-n-preserved g c =
    let symbol = c.even_and_odd-evens.result in
    let word = c.even_and_odd-even.result in
    let e = parted symbol.0 word.0 in
    let o = parted symbol.1 word.1 in
    let low = low_key e o in
    let high = high_key g.R.Columned.HALF e o in
    let ee = c.parted-e.ensures.0 in
    let oo = c.parted-o.ensures.0 in
    let i = c.loop-n.invariant in
    rw (c.from-v.ensures, c.HALF.ensures) (
      lower_turn low high c.loop-n.k c.loop-n.n _ _ i.2 c.loop-n-test.true (rw (ee, oo)) (rw (ee, oo)) i.0,
      upper_turn low high c.loop-n.k c.loop-n.n _ _ i.2 c.loop-n-test.true (rw (ee, oo)) (rw (ee, oo)) i.1,
      simp length-set i.2,
    )

pub returns : goal.returns
returns g c =
    let symbol = c.even_and_odd-evens.ensures in
    let word = c.even_and_odd-even.ensures in
    let i = c.loop-n.invariant in
    let e : c.loop-n.n ≡ 8 = omega arith in
    rw (← c.columns.ensures, ← c.WORD.ensures, ← c.columns-2.ensures, ← symbol.even, ← symbol.odd, ← word.even, ← word.odd)
    (keyed g.R.Columned.HALF _ _ c.loop-n.k (rw e at i.0) (rw e at i.1))
