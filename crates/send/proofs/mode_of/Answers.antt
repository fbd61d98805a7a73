-- `mode_of` meets its contract: what is still to be read stays the mode (Digits.antt).
-- Assumes nothing.
use Rattle.std.proofs.Common.{arith}
use Rattle.send.proofs.Digits.{no_text, some_text, all_read, no_digit, digit, too_large}
use Rattle.send.proofs.mode_of.Goals as goal

pub returns-then-is_empty : goal.returns-then-is_empty
returns-then-is_empty c = no_text c.args.text.now c.if-is_empty.ensures

pub loop-digit-init : goal.loop-digit-init
loop-digit-init c = some_text c.args.text.now c.if-is_empty.ensures

pub returns-then-not-is_ascii_digit : goal.returns-then-not-is_ascii_digit
returns-then-not-is_ascii_digit c =
    no_digit c.args.text.now _ _ c.loop-digit.invariant c.loop-digit-test.true c.if-not-is_ascii_digit.ensures.cases

pub returns-in_err-checked_mul : goal.returns-in_err-checked_mul
returns-in_err-checked_mul c =
    let d = c.if-not-is_ascii_digit.ensures.cases in
    rw c.from_residual.ensures
    (too_large c.args.text.now _ _ c.loop-digit.invariant c.loop-digit-test.true d.0 d.1 (omega (arith, c.in_err-checked_mul.ensures)))

pub returns-in_err-mode : goal.returns-in_err-mode
returns-in_err-mode c =
    let d = c.if-not-is_ascii_digit.ensures.cases in
    rw c.from_residual-in_err-mode.ensures
    (too_large c.args.text.now _ _ c.loop-digit.invariant c.loop-digit-test.true d.0 d.1
    (omega (arith, c.in_err-mode.ensures, c.in_ok-checked_mul.ensures, c.from.ensures)))

pub loop-digit-preserved : goal.loop-digit-preserved
loop-digit-preserved c =
    let d = c.if-not-is_ascii_digit.ensures.cases in
    digit c.args.text.now _ _ c.loop-digit.invariant c.loop-digit-test.true d.0 d.1 _
    (omega (arith, c.in_ok-mode.ensures, c.in_ok-checked_mul.ensures, c.from.ensures)) (omega (arith, c.in_ok-mode.ensures))

pub returns : goal.returns
returns c = all_read c.args.text.now _ _ c.loop-digit.invariant (omega arith) (omega arith)
