-- `take` meets its contract: a law for each of its ways (Steps.antt of `order`). Assumes nothing.
use Rattle.std.proofs.Common.{sym, ◌∙◌, refl}
use Rattle.std.proofs.lemmas.Bool.Decides.{not_from_Decides}
use Rattle.std.proofs.lemmas.Result.{err_from_is_err_and}
use Rattle.codes.specs.Numbers.{BADSTART, MORE}
use Rattle.order.proofs.Rules.{inside_rules, inside_length, rules_passed}
use Rattle.order.proofs.Steps.{goes, follow_no_radio, follow_refused, follow_preamble, follow_on}
use Rattle.steps.proofs.take.Goals as goal
use Rattle.steps.proofs.take.Goals.{then-is_multiple_of+in_ok-next-2, else-is_multiple_of}

pub returns-in_err-row : goal.returns-in_err-row
returns-in_err-row c =
    let a = c.args in
    let p = err_from_is_err_and c.from_residual.result c.from_residual.ensures.1 in
    rw (p.1, p.2, c.in_err-row.ensures.1) (follow_no_radio a.mode a.hand a.symbol c.in_err-row.ensures.0)

pub returns-then-symbol-ne-DONE : goal.returns-then-symbol-ne-DONE
returns-then-symbol-ne-DONE c =
    let a = c.args in
    follow_refused a.mode a.hand a.symbol c.in_ok-row.ensures.0 c.if-symbol-ne-DONE.true

-- in the preamble
pub returns-in_err-next : goal.returns-in_err-next
returns-in_err-next c =
    let a = c.args in
    let k = c.in_ok-row.ensures in
    let r = c.in_err-next.ensures in
    let p = err_from_is_err_and c.from_residual-in_err-next.result c.from_residual-in_err-next.ensures.1 in
    rw (p.1, p.2, r.0) (follow_preamble a.mode a.hand a.symbol k.0 c.if-symbol-ne-DONE.false _ k.1 _ refl r.1 r.2)

-- at the end of an octet that is refused
pub returns-in_err-next-2 : goal.returns-in_err-next-2
returns-in_err-next-2 c =
    let a = c.args in
    let k = c.in_ok-row.ensures in
    let r = c.in_ok-next.ensures in
    let s = rw r.0 at c.in_err-next-2.ensures in
    let p = err_from_is_err_and c.from_residual-in_err-next-2.result c.from_residual-in_err-next-2.ensures.1 in
    rw (p.1, p.2, s.0)
    (follow_on a.mode a.hand a.symbol k.0 c.if-symbol-ne-DONE.false _ k.1 _ refl _ _ BADSTART refl
    refl (sym s.1 ∙ rules_passed _ a.hand.taken _ _ _ r.1))

-- at the end of another, and within one
pub returns : goal.returns
returns c =
    let a = c.args in
    let k = c.in_ok-row.ensures in
    let r = c.in_ok-next.ensures in
    let on = follow_on a.mode a.hand a.symbol k.0 c.if-symbol-ne-DONE.false _ k.1 _ refl in
    elim c.if-is_multiple_of.branch [
      | then-is_multiple_of+in_ok-next-2 w ↦
          let s = rw r.0 at w.in_ok-next-2.ensures in
          c.advance.ensures ∙ rw (w.next-is, s.0)
          (sym (goes _ _ _ s.1) ∙ on _ _ _ refl refl (rules_passed _ a.hand.taken _ _ _ r.1))
      | else-is_multiple_of w ↦
          let i = not_from_Decides _ c.is_multiple_of.ensures w.if-is_multiple_of.false in
          c.advance.ensures ∙ rw (w.next-is, r.0)
          (on _ _ MORE refl (inside_length _ a.hand.taken i a.hand.length _) (inside_rules _ a.hand.taken i _ _ _ r.1))
    ]
