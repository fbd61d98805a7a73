-- `by_bits` meets its contract: a bit enters at each turn (Register.antt). Assumes nothing.
use Rattle.std.proofs.Common.{◌∙◌, ◌≡◌, ◌-◌, sym, arith}
use Rattle.frame.specs.Frame.{digits}
use Rattle.fcs.specs.Fcs.{register_after}
use Rattle.fcs.proofs.Register.{bit_enters}
use Rattle.fcs.proofs.by_bits.Goals as goal

pub loop-k-preserved : goal.loop-k-preserved
loop-k-preserved c =
    let l = c.loop-k in
    let e = l.invariant ∙ bit_enters l.k l.register c.args.octet c.loop-k-test.true in
    cc

pub returns : goal.returns
unfolding digits register_after
returns c =
    let l = c.loop-k in
    let e : 8 - l.k ≡ 0 = omega arith in
    sym (l.invariant ∙ rw e)
