-- `rule` meets its contract: a law for each of its ways (Rules.antt of `order`). Assumes nothing.
use Rattle.std.proofs.Common.{◌≡◌, ℕ, suc, ◌+◌, ◌*◌, false, not, eqb, ltb, refl, ap, arith, inl, inr, eq-eqb, ne_eqb, ◌∙◌}
use Rattle.codes.specs.Numbers.{DONE, MORE}
use Rattle.codes.proofs.Tests.{not_both}
use Rattle.frame.specs.Frame.{start_octet}
use Rattle.order.specs.Order.{both, ends, rules}
use Rattle.order.specs.Taking.{length_after}
use Rattle.order.proofs.Rules.{neither, ends_is, ends_not, length_few, rules_8, rules_done, rules_more}
use Rattle.steps.proofs.Row.rule.Goals as goal
use Rattle.steps.proofs.Row.rule.Goals.{else-symbols-self-via-then-symbols-self+else-hand-from, else-symbols-self-via-else-symbols-self}

-- rule 4 passes a raw symbol of 0
off-7 : (per s : ℕ) → both (ltb s (4 * per)) (not (eqb 0 0)) ≡ false
off-7 per s = neither (ltb s (4 * per)) false (λ _. refl)

module _ (per s octet : ℕ) where
  -- what is left where the start octet passes: it is right, or the symbol isn't its last
  abbrev Started : Type 0
  Started = both (ends per 4 s) (not (eqb octet start_octet)) ≡ false

  right : octet ≡ start_octet → Started
  right e = neither (ends per 4 s) (not (eqb octet start_octet)) (λ t. rw (eq-eqb octet start_octet e))

  elsewhere : (s + 1 ≡ 5 * per → ⊥) → Started
  elsewhere n = neither _ _ (λ t. not_both _ t (ends_not per 4 s _ refl n))

  module _ (held : ℕ) (b : Started) where
    abbrev long : ℕ
    long = length_after per s held octet

    ends_frame : (6 + long) * per ≡ suc (5 + long) * per
    ends_frame = ap (λ (m : ℕ). m * per) (let e : 6 + long ≡ suc (5 + long) = omega arith in e)

    last : s + 1 ≡ (6 + long) * per → rules per 127 s 0 octet long ≡ DONE
    last h = rules_done per s 0 octet long (off-7 per s) b (length_few per s held octet) (ends_is per (5 + long) s _ ends_frame h)

    before : (s + 1 ≡ (6 + long) * per → ⊥) → rules per 127 s 0 octet long ≡ MORE
    before h = rules_more per s 0 octet long (off-7 per s) b (length_few per s held octet) (ends_not per (5 + long) s _ ends_frame h)

pub returns-then-hand-from : goal.returns-then-hand-from
returns-then-hand-from c =
    let h = c.args.hand in
    let per = c.args.self.phy.per in
    let wrong = rw c.from.ensures at c.if-hand-from.true in
    (refl, rules_8 _ _ _ _ _ (off-7 per h.taken) (rw (ends_is per 4 h.taken _ refl c.if-symbols-self.true, ne_eqb h.octet start_octet wrong)))

pub returns-then-symbols-length : goal.returns-then-symbols-length
returns-then-symbols-length c =
    let h = c.args.hand in
    let n = c.length_after-length.ensures in
    let b : Started c.args.self.phy.per h.taken h.octet =
    elim c.else-symbols-self.branch [
      | else-symbols-self-via-then-symbols-self+else-hand-from w ↦ right _ _ _ (w.if-hand-from.false ∙ w.from.ensures)
      | else-symbols-self-via-else-symbols-self w ↦ elsewhere _ _ _ w.if-symbols-self.false
    ] in
    let r = last c.args.self.phy.per h.taken h.octet h.length b (rw n at c.if-symbols-length.true) in
    rw (n, r) (refl, inr refl)

pub returns-else-symbols-length : goal.returns-else-symbols-length
returns-else-symbols-length c =
    let h = c.args.hand in
    let n = c.length_after-length.ensures in
    let b : Started c.args.self.phy.per h.taken h.octet =
    elim c.else-symbols-self.branch [
      | else-symbols-self-via-then-symbols-self+else-hand-from w ↦ right _ _ _ (w.if-hand-from.false ∙ w.from.ensures)
      | else-symbols-self-via-else-symbols-self w ↦ elsewhere _ _ _ w.if-symbols-self.false
    ] in
    let r = before c.args.self.phy.per h.taken h.octet h.length b (rw n at c.if-symbols-length.false) in
    rw (n, r) (refl, inl refl)
