-- `forged` meets its contract: a law for each of its ways (Ways.antt). Its total fits, since a
-- length here is at most 127 and an octet has at most 8 symbols. Assumes nothing.
use Rattle.std.proofs.Common.{◌≡◌, ◌⊎◌, inl, ap, arith}
use Rattle.codes.specs.Numbers.{DONE, MORE}
use Rattle.codes.specs.declared.Phy.{Phy}
use Rattle.receiver.proofs.Ways.{forged_refused, forged_no_radio, forged_long, forged_count, last_test, forged_open, forged_ended}
use Rattle.receiver.proofs.Receiver.forged.Goals as goal

pub returns-then-not-matches : goal.returns-then-not-matches
returns-then-not-matches c =
    forged_refused c.args.self (λ e. grind (arith, e, c.match-matches, c.if-not-matches.true)) (λ e. grind (arith, e, c.match-matches, c.if-not-matches.true))

-- past the test of the number, the record is open or ended well
pub returns-in_default-try_from : goal.returns-in_default-try_from
returns-in_default-try_from c =
    let s = c.args.self in
    let going : (s.ended ≡ MORE) ⊎ (s.ended ≡ DONE) = grind (arith, c.match-matches, c.if-not-matches.false) in
    forged_no_radio s going c.in_default-try_from.ensures.0

pub returns-then-self-gt127 : goal.returns-then-self-gt127
returns-then-self-gt127 c =
    let s = c.args.self in
    let going : (s.ended ≡ MORE) ⊎ (s.ended ≡ DONE) = grind (arith, c.match-matches, c.if-not-matches.false) in
    forged_long s going c.in-Ok.ensures.0 c.if-self-gt127.true

pub returns-then-from : goal.returns-then-from
returns-then-from c =
    let s = c.args.self in
    let going : (s.ended ≡ MORE) ⊎ (s.ended ≡ DONE) = grind (arith, c.match-matches, c.if-not-matches.false) in
    let k = c.in-Ok.ensures in
    forged_count s going k.0 c.if-self-gt127.false _ (ap (λ (p : Phy). p.limit) k.1)
    (rw (c.from.ensures, c.from-2.ensures, c.from-3.ensures) at c.if-from.true)

pub returns-then-self-eq-MORE : goal.returns-then-self-eq-MORE
returns-then-self-eq-MORE c =
    let s = c.args.self in
    let k = c.in-Ok.ensures in
    let low = rw (c.from.ensures, c.from-2.ensures, c.from-3.ensures) at c.if-from.false in
    forged_open s _
    (last_test s (inl c.if-self-eq-MORE.true) k.0 c.if-self-gt127.false _ (ap (λ (p : Phy). p.limit) k.1) low _ (ap (λ (p : Phy). p.per) k.1))
    c.if-self-eq-MORE.true

pub returns-else-self-eq-MORE : goal.returns-else-self-eq-MORE
returns-else-self-eq-MORE c =
    let s = c.args.self in
    let going : (s.ended ≡ MORE) ⊎ (s.ended ≡ DONE) = grind (arith, c.match-matches, c.if-not-matches.false) in
    let k = c.in-Ok.ensures in
    let low = rw (c.from.ensures, c.from-2.ensures, c.from-3.ensures) at c.if-from.false in
    forged_ended s _
    (last_test s going k.0 c.if-self-gt127.false _ (ap (λ (p : Phy). p.limit) k.1) low _ (ap (λ (p : Phy). p.per) k.1))
    c.if-self-eq-MORE.false
