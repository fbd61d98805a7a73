-- `place` meets its contract: before the report, and past its end, none is kept. Assumes nothing.
use Rattle.std.proofs.Common.{rules, ◌≡◌, ◌⊎◌, ℕ, ◌*◌, ◌%◌, ◌-◌, ◌/◌, ◌<◌, Option, Some, None, MatchOption, sym, inl, inr, ⊎_elim, leb, ltb}
use native.Mathlib.Nat.{le-div_iff_mul-le}
use borrow.Author.Tests.{le-leb, lt-leb, leb-true, leb-false, ltb-true}
use Rattle.std.specs.Option.{SomeIff}
use Rattle.codes.specs.Numbers.{DONE, MORE}
use Rattle.codes.proofs.Tests.{by_test}
use Rattle.order.proofs.Steps.{goes}
use Rattle.steps.proofs.Row.place.Goals as goal
use Rattle.steps.proofs.Row.place.Goals.{in-13, in_default}

-- what the subtraction and the filter say of one place
module _ {A : Type 0} {P : Type 0} {Q : Type 0} {Q' : ℕ → Type 0} {v : ℕ} where
  ways : (o : Option ℕ) → SomeIff o P v → MatchOption o Q Q' → ((P → ⊥) → Q → A) → ((x : ℕ) → P → x ≡ v → Q' x → A) → A
  ways (Some x) p q f g = g x p.0 p.1 q
  ways None p q f g = f p q

pub returns : goal.returns
returns c =
    let h = c.args.hand in
    let per = c.args.self.phy.per in
    let on : (h.number ≡ MORE) ⊎ (h.number ≡ DONE) =
    elim c.match-matches.branch [
      | in-13 w ↦ ⊎_elim inr inl w.in-13.is
      | in_default w ↦ search rules
    ] in
    let whole = le-div_iff_mul-le {k = per} {x = 7} {y = h.taken} c.args.self.bounded.some in
    ways c.checked_sub.result c.checked_sub.ensures c.filter.ensures
    (λ n q.
    let before : h.taken < 7 * per = by_test (leb (7 * per) h.taken) (λ t. absurd (n (whole.1 (leb-true _ _ t)))) (leb-false _ _) in
    rw q (λ octets. rw (lt-leb (7 * per) h.taken before) (sym (goes h.number octets octets on))))
    (λ x p e q.
    let d : q.0 ≡ ltb x 127 = search rules in
    let z : h.taken % per ≡ 0 = search rules in
    by_test (ltb (h.taken / per - 7) 127)
    (λ t. rw (q.2, d, e, t) (ltb-true _ _ t, λ octets. rw (le-leb _ _ (whole.0 p), z) (sym (goes h.number _ octets on))))
    (λ t. rw (q.2, d, e, t) (λ octets. rw (le-leb _ _ (whole.0 p), z) (sym (goes h.number octets octets on)))))
