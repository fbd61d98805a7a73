-- `enter` meets its contract: the bits that leave and enter are alike, or differ. Assumes nothing.
use Rattle.std.proofs.Common.{◌≡◌, ◌+◌, ◌/◌, ◌%◌, sym, arith}
use lib.Bits.{xor_zero_r}
use Rattle.fcs.specs.Fcs.{entered}
use Rattle.fcs.proofs.Xor.{xor_low}
use Rattle.fcs.proofs.enter.Goals as goal

pub returns-then-register-bit-eq0 : goal.returns-then-register-bit-eq0
unfolding entered
returns-then-register-bit-eq0 c =
    let a = c.args in
    let z : (a.register + a.bit) % 2 ≡ 0 = omega (arith, xor_low a.register a.bit) in
    rw z (sym (xor_zero_r (a.register / 2)))

pub returns-else-register-bit-eq0 : goal.returns-else-register-bit-eq0
unfolding entered
returns-else-register-bit-eq0 c =
    let a = c.args in
    let o : (a.register + a.bit) % 2 ≡ 1 = omega (arith, xor_low a.register a.bit) in
    rw o
