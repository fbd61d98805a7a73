-- Rules 4 to 6: which number they give, what they look at, and that nothing is wrong where they
-- give none. Assumes nothing.
use mathlib.Core.Path.{◌≡◌, refl, sym, ◌∙◌}
use mathlib.Core.Bool.{Bool, true, false, not}
use mathlib.Core.Logic.{◌⊎◌, inl, inr}
use Prim.Native.Nat.{ℕ, suc, ◌+◌, ◌*◌, ◌%◌, ◌≤◌, ◌<◌}
use native.Mathlib.Nat.{suc-mul, mul-le-mul_right, mul-mod_left, le-add_right}
use native.Mathlib.Omega.{arith}
use lib.Dec.{eqb, leb, ltb}
use borrow.Author.Tests.{lt-ltb, le-ltb, eq-eqb, ne_eqb, eqb-true, eqb-false, leb-true, leb-false, ltb-true, ltb-false, not-true, not-false}
use Rattle.codes.specs.Numbers.{DONE, NOROOM, PREAMBLE, BADSTART, MORE}
use Rattle.codes.specs.Chips.{pick}
use Rattle.codes.specs.declared.Symbol.{Symbol}
use Rattle.codes.proofs.Tests.{by_test, by_pick, not_both, both_true}
use Rattle.frame.specs.Frame.{start_octet}
use Rattle.order.specs.declared.Hand.{Hand}
use Rattle.order.specs.Order.{both, ends, rules}
use Rattle.order.specs.Taking.{stopped, at_first, length_after, moved, onward, roomed}

-- one test and another
pub neither : (a b : Bool) → (a ≡ true → b ≡ false) → both a b ≡ false
neither true b f = f refl
neither false b f = refl

second : (a b : Bool) → both a b ≡ false → a ≡ true → b ≡ false
second true b e t = e
second false b e t = not_both false t refl

-- but for the first symbol of a chain what is held stands
pub past_first : (chained : Bool) (s held v : ℕ) → (chained ≡ true → s ≡ 0 → ⊥) → at_first chained s held v ≡ held
past_first chained s held v n = rw (neither chained (eqb s 0) (λ c. ne_eqb s 0 (n c)))

-- where the code's sum is the definition's successor
pub ends_is : (per k s m : ℕ) → m ≡ suc k * per → s + 1 ≡ m → ends per k s ≡ true
ends_is per k s m e h = eq-eqb (suc s) (suc k * per) (omega arith)

pub ends_not : (per k s m : ℕ) → m ≡ suc k * per → (s + 1 ≡ m → ⊥) → ends per k s ≡ false
ends_not per k s m e h = ne_eqb (suc s) (suc k * per) (λ x. h (omega arith))

-- the preamble's rule passes a raw symbol of 0, and any after the preamble
passes : (per s raw : ℕ) → (s < 4 * per → raw ≡ 0) → both (ltb s (4 * per)) (not (eqb raw 0)) ≡ false
passes per s raw p = neither (ltb s (4 * per)) (not (eqb raw 0)) (λ t. rw (eq-eqb raw 0 (p (ltb-true _ _ t))))

-- of a symbol that no octet ends with only the preamble's rule speaks
only_preamble : (per s : ℕ) → ((k : ℕ) → 4 ≤ k → ends per k s ≡ false) → (raw start n : ℕ)
    → rules per 127 s raw start n ≡ pick (both (ltb s (4 * per)) (not (eqb raw 0))) PREAMBLE MORE
unfolding rules
only_preamble per s none raw start n = rw (none 4 (omega arith), none 5 (omega arith), none (5 + n) (omega arith))

-- a symbol of the preamble is one
pub preamble_rules : (per s : ℕ) → s < 4 * per → (raw start n : ℕ) → rules per 127 s raw start n ≡ pick (eqb raw 0) MORE PREAMBLE
preamble_rules per s h raw start n =
    only_preamble per s before_start raw start n ∙ rw (lt-ltb s (4 * per) h) (by_test (eqb raw 0) (λ e. rw e) (λ e. rw e))
  where
    before_start : (k : ℕ) → 4 ≤ k → ends per k s ≡ false
    before_start k l = ends_not per k s (suc k * per) refl (λ e. omega (arith, suc-mul k per, mul-le-mul_right per l))

-- and so is one that isn't an octet's last
module _ (per s : ℕ) (i : (s + 1) % per ≡ 0 → ⊥) where
  ends_none : (k : ℕ) → 4 ≤ k → ends per k s ≡ false
  ends_none k l = ends_not per k s (suc k * per) refl (λ e. i (rw e (mul-mod_left (suc k) per)))

  -- where the preamble's rule passes it, more is wanted
  pub inside_rules : (raw start n : ℕ) → (s < 4 * per → raw ≡ 0) → MORE ≡ rules per 127 s raw start n
  inside_rules raw start n p = sym (only_preamble per s ends_none raw start n ∙ rw (passes per s raw p))

  pub inside_length : (n octet : ℕ) → n ≡ length_after per s n octet
  inside_length n octet = rw (ends_none 5 (omega arith))

-- where it passes one, the rules are those of a raw symbol of 0
pub rules_passed : (per s raw start n : ℕ) → (s < 4 * per → raw ≡ 0) → rules per 127 s 0 start n ≡ rules per 127 s raw start n
unfolding rules
rules_passed per s raw start n p = rw (passes per s raw p, passes per s 0 (λ _. refl))

-- the n that a length octet brings is at most 127
pub length_few : (per s n octet : ℕ) → ends per 5 s ≡ true → length_after per s n octet ≤ 127
length_few per s n octet e = rw e (omega arith)

-- with room for every report the test of room passes an n of at most 127
pub roomy : (per s n : ℕ) → (ends per 5 s ≡ true → n ≤ 127) → both (ends per 5 s) (ltb 127 n) ≡ false
roomy per s n q = neither (ends per 5 s) (ltb 127 n) (λ t. le-ltb 127 n (q t))

-- the tests in order, with room for every report
module _ (per s raw start n : ℕ) where
  module _ (a : both (ltb s (4 * per)) (not (eqb raw 0)) ≡ false) where
    pub rules_8 : both (ends per 4 s) (not (eqb start start_octet)) ≡ true → rules per 127 s raw start n ≡ BADSTART
    unfolding rules
    rules_8 b = rw (a, b)

    module _ (b : both (ends per 4 s) (not (eqb start start_octet)) ≡ false) (q : ends per 5 s ≡ true → n ≤ 127) where
      pub rules_done : ends per (5 + n) s ≡ true → rules per 127 s raw start n ≡ DONE
      unfolding rules
      rules_done e = rw (a, b, roomy per s n q, e)

      pub rules_more : ends per (5 + n) s ≡ false → rules per 127 s raw start n ≡ MORE
      unfolding rules
      rules_more e = rw (a, b, roomy per s n q, e)

-- The start octet matters only on its last symbol, the length octet only from its last symbol on.
module _ (per room s raw : ℕ) where
  start_same : (o p n : ℕ) → (ends per 4 s ≡ true → o ≡ p) → rules per room s raw o n ≡ rules per room s raw p n
  unfolding rules
  start_same o p n e = by_test (ends per 4 s) (λ a. rw (e a)) (λ a. rw a)

  early : suc s < 6 * per → (n : ℕ) → ends per (5 + n) s ≡ false
  early h n = ne_eqb (suc s) (suc (5 + n) * per) (λ e. omega (arith, mul-le-mul_right per (le-add_right 6 n)))

  length_same : (o m n : ℕ) → (6 * per ≤ suc s → m ≡ n) → rules per room s raw o m ≡ rules per room s raw o n
  unfolding rules
  length_same o m n e =
      by_test (leb (6 * per) (suc s))
      (λ a. rw (e (leb-true _ _ a)))
      (λ a.
      let h : suc s < 6 * per = leb-false (6 * per) (suc s) a in
      rw (ne_eqb (suc s) (6 * per) (λ x. omega arith), early h m, early h n))

  pub rules_same : (o p m n : ℕ) → (ends per 4 s ≡ true → o ≡ p) → (6 * per ≤ suc s → m ≡ n) → rules per room s raw o m ≡ rules per room s raw p n
  rules_same o p m n e f = start_same o p m e ∙ length_same p m n f

-- The reader's test of room, after the rules with room for every report, is the rules with
-- its room.
module _ (per room s raw o n p : ℕ) (y : Symbol) (h : Hand) (l : h.length ≤ room)
    (m : ends per 5 s ≡ false → n ≤ room) (q : ends per 5 s ≡ true → n ≤ 127) where
  abbrev next : ℕ → Hand
  next x = onward x (moved h x n y o p) (stopped x h)

  -- a refusal keeps n
  kept : (x : ℕ) → roomed room h (stopped x h) ≡ stopped x h
  kept x = rw (le-ltb room h.length l)

  fits : both (ends per 5 s) (ltb room n) ≡ false → n ≤ room
  fits e = by_test (ends per 5 s) (λ a. ltb-false room n (rw a at e)) m

  pub rules_room : roomed room h (next (rules per 127 s raw o n)) ≡ next (rules per room s raw o n)
  unfolding rules
  rules_room =
      by_test (both (ltb s (4 * per)) (not (eqb raw 0))) (λ a. rw a (kept PREAMBLE))
      (λ a. by_test (both (ends per 4 s) (not (eqb o start_octet))) (λ b. rw (a, b) (kept BADSTART))
      (λ b. let c = roomy per s n q in by_test (both (ends per 5 s) (ltb room n))
      (λ e. by_test (ends per (5 + n) s) (λ f. rw (a, b, c, e, f, (both_true (ends per 5 s) (ltb room n) e).1))
      (λ f. rw (a, b, c, e, f, (both_true (ends per 5 s) (ltb room n) e).1)))
      (λ e. by_test (ends per (5 + n) s) (λ f. rw (a, b, c, e, f, le-ltb room n (fits e))) (λ f. rw (a, b, c, e, f, le-ltb room n (fits e))))))

-- nothing is wrong at symbol s
pub record Clear (per room s raw start n : ℕ) : Type 0 where
  pub preamble : s < 4 * per → raw ≡ 0
  pub started : suc s ≡ 5 * per → start ≡ start_octet
  pub fits : suc s ≡ 6 * per → n ≤ room

-- a refusal is neither number of a reading that goes on or ends
unsaid : {P : Type 0} (x y : ℕ) → x ≡ y → (y ≡ MORE) ⊎ (y ≡ DONE) → DONE < x → x < MORE → P
unsaid x y e (inl p) l h = absurd (omega arith)
unsaid x y e (inr p) l h = absurd (omega arith)

module _ (per room s raw start n : ℕ) where
  last_test : eqb (suc s) (suc (5 + n) * per) ≡ eqb (suc s) ((6 + n) * per)
  last_test = let e : suc (5 + n) ≡ 6 + n = omega arith in rw e

  -- where nothing is wrong, the reading ends on the report's last symbol and else goes on
  pub clear_rules : Clear per room s raw start n → rules per room s raw start n ≡ pick (eqb (suc s) ((6 + n) * per)) DONE MORE
  unfolding rules
  clear_rules C =
      rw (
        passes per s raw C.preamble,
        neither (ends per 4 s) (not (eqb start start_octet)) (λ t. rw (eq-eqb start start_octet (C.started (eqb-true _ _ t)))),
        neither (ends per 5 s) (ltb room n) (λ t. le-ltb room n (C.fits (eqb-true _ _ t))),
        last_test,
      )

  -- What is true of each of their ways is true of the rules: each thing that can be wrong, where it
  -- can be, and nothing wrong.
  pub rules_ways : (P : ℕ → Type 0) → (s < 4 * per → (raw ≡ 0 → ⊥) → P PREAMBLE)
      → (suc s ≡ 5 * per → (start ≡ start_octet → ⊥) → P BADSTART) → (suc s ≡ 6 * per → room < n → P NOROOM)
      → (Clear per room s raw start n → P (pick (eqb (suc s) ((6 + n) * per)) DONE MORE)) → P (rules per room s raw start n)
  unfolding rules
  rules_ways P seven eight three none =
      by_pick P (both (ltb s (4 * per)) (not (eqb raw 0))) _ _
      (λ a. let t = both_true _ _ a in seven (ltb-true _ _ t.0) (eqb-false raw 0 (not-true _ t.1)))
      (λ a. by_pick P (both (ends per 4 s) (not (eqb start start_octet))) _ _
      (λ b. let t = both_true _ _ b in eight (eqb-true _ _ t.0) (eqb-false start start_octet (not-true _ t.1)))
      (λ b. by_pick P (both (ends per 5 s) (ltb room n)) _ _
      (λ c. let t = both_true _ _ c in three (eqb-true _ _ t.0) (ltb-true _ _ t.1))
      (λ c.
      rw last_test
      (none
      (record {
        preamble = λ h. eqb-true raw 0 (not-false _ (second _ _ a (lt-ltb s (4 * per) h)));
        started = λ h. eqb-true start start_octet (not-false _ (second _ _ b (eq-eqb (suc s) (5 * per) h)));
        fits = λ h. ltb-false room n (second _ _ c (eq-eqb (suc s) (6 * per) h));
      })))))

  -- a number that refuses nothing is given only where nothing is wrong
  pub rules_clear : (x : ℕ) → (x ≡ MORE) ⊎ (x ≡ DONE) → rules per room s raw start n ≡ x → Clear per room s raw start n
  rules_clear x g =
      rules_ways (λ z. z ≡ x → Clear per room s raw start n)
      (λ _ _ e. unsaid PREAMBLE x e g (omega arith) (omega arith)) (λ _ _ e. unsaid BADSTART x e g (omega arith) (omega arith))
      (λ _ _ e. unsaid NOROOM x e g (omega arith) (omega arith)) (λ C _. C)

  -- each thing wrong by itself: 7, 8 and 3
  pub wrong_7 : s < 4 * per → (raw ≡ 0 → ⊥) → rules per room s raw start n ≡ PREAMBLE
  unfolding rules
  wrong_7 h w = rw (lt-ltb s (4 * per) h, ne_eqb raw 0 w)

  module _ (p : s < 4 * per → raw ≡ 0) where
    pub wrong_8 : suc s ≡ 5 * per → (start ≡ start_octet → ⊥) → rules per room s raw start n ≡ BADSTART
    unfolding rules
    wrong_8 e w = rw (passes per s raw p, eq-eqb (suc s) (5 * per) e, ne_eqb start start_octet w)

    pub wrong_3 : (suc s ≡ 5 * per → start ≡ start_octet) → suc s ≡ 6 * per → room < n → rules per room s raw start n ≡ NOROOM
    unfolding rules
    wrong_3 b e l =
        rw (
          passes per s raw p,
          neither (ends per 4 s) (not (eqb start start_octet)) (λ t. rw (eq-eqb start start_octet (b (eqb-true _ _ t)))),
          eq-eqb (suc s) (6 * per) e,
          lt-ltb room n l,
        )

  -- and it is DONE only on the report's last symbol
  pub rules_last : rules per room s raw start n ≡ DONE → suc s ≡ (6 + n) * per
  rules_last e =
      by_test (eqb (suc s) ((6 + n) * per))
      (λ t. eqb-true _ _ t)
      (λ t. absurd (omega (arith, rw t at (sym (clear_rules (rules_clear DONE (inr refl) e)) ∙ e))))

  -- and MORE only before it
  pub rules_before : rules per room s raw start n ≡ MORE → suc s ≡ (6 + n) * per → ⊥
  rules_before e l = omega (arith, sym (rw (eq-eqb (suc s) ((6 + n) * per) l) at (sym (clear_rules (rules_clear MORE (inl refl) e)) ∙ e)))
