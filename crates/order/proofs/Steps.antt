-- The ways of the functions that take one symbol (those of `steps`), over plain values. Assumes
-- nothing.
use mathlib.Core.Path.{◌≡◌, refl, sym, ◌∙◌}
use mathlib.Core.Bool.{true, false}
use mathlib.Core.List.{List}
use mathlib.Core.Logic.{◌⊎◌, ⊎_elim}
use Prim.Native.Nat.{ℕ, ◌+◌, ◌*◌, ◌%◌, ◌^◌, ◌≤◌, ◌<◌}
use native.Mathlib.Omega.{arith}
use lib.Dec.{eqb, leb}
use borrow.Author.Tests.{eq-eqb, ne_eqb, eqb-true, eqb-false}
use Rattle.codes.specs.Numbers.{DONE, BADMODE, PREAMBLE, MORE}
use Rattle.codes.specs.Radio.{Radio, known, radio_of}
use Rattle.codes.specs.declared.Symbol.{Symbol}
use Rattle.codes.proofs.Tests.{by_test}
use Rattle.codes.specs.declared.Phy.{Phy}
use Rattle.codes.specs.Phy.{phy_of}
use Rattle.codes.proofs.Modes.{each_row}
use Rattle.frame.specs.Frame.{per_octet}
use Rattle.order.specs.declared.Hand.{Hand}
use Rattle.order.specs.Order.{rules}
use Rattle.order.proofs.Rules.{inside_length, preamble_rules}
use Rattle.order.specs.Taking.{stopped, at_first, raw_by, shifted_by, shifted, length_after, moved}
use Rattle.order.specs.Taking.{onward, raw_next, polarity_next, advanced, followed, Roomy, whole_at, kept_at}

-- go on, or done
pub goes : {A : Type 0} (x : ℕ) (a b : A) → (x ≡ MORE) ⊎ (x ≡ DONE) → onward x a b ≡ a
goes x a b = ⊎_elim (λ e. rw e) (λ e. rw e)

-- neither
pub stops : {A : Type 0} (x : ℕ) (a b : A) → (x ≡ MORE → ⊥) → (x ≡ DONE → ⊥) → onward x a b ≡ b
stops x a b m d = rw (ne_eqb x MORE m, ne_eqb x DONE d)

-- the ways of `follow`
module _ (mode : ℕ) (h : Hand) (x : Symbol) where
  pub follow_no_radio : known mode ≡ false → stopped BADMODE h ≡ followed mode h x
  unfolding followed
  follow_no_radio k = rw k

  module _ (k : known mode ≡ true) where
    pub follow_refused : (x.number ≡ DONE → ⊥) → stopped x.number h ≡ followed mode h x
    unfolding followed
    follow_refused n = rw (k, ne_eqb x.number DONE n)

    -- a symbol that is read, by the radio's row, and its raw symbol
    module _ (d : x.number ≡ DONE) (p : Phy) (e : p ≡ phy_of (radio_of mode)) (raw : ℕ)
        (w : raw ≡ raw_by p.chained p.values (at_first p.chained h.taken h.last x.value) x.value) where
      -- it is taken by the rules
      pub follow_on : (octet n number : ℕ) → octet ≡ shifted_by p.values h.octet raw
          → n ≡ length_after p.per h.taken h.length octet → number ≡ rules p.per 127 h.taken raw octet n
          → onward number (moved h number n x octet (at_first p.chained h.taken h.polarity x.value)) (stopped number h) ≡ followed mode h x
      unfolding followed advanced
      follow_on octet n number eo en ex = rw (k, eq-eqb x.number DONE d, ex, en, eo, w, e)

      -- and 7 is given whatever the rules after it say
      pub follow_preamble : h.taken < 4 * p.per → (raw ≡ 0 → ⊥) → stopped PREAMBLE h ≡ followed mode h x
      follow_preamble l n =
          let octet = shifted_by p.values h.octet raw in
          let long = length_after p.per h.taken h.length octet in
          follow_on octet long PREAMBLE refl refl (sym (preamble_rules p.per h.taken l raw octet long ∙ rw (ne_eqb raw 0 n)))

-- a hand that a symbol stops stays as it was, but for the number
abbrev Stays : Hand → Hand → Type 0
Stays h g = (g.number ≡ MORE → ⊥) → (g.number ≡ DONE → ⊥) → g ≡ stopped g.number h

onward_stays : (h : Hand) (x n octet p : ℕ) (y : Symbol) → Stays h (onward x (moved h x n y octet p) (stopped x h))
onward_stays h x n octet p y =
    by_test (eqb x MORE)
    (λ t. rw t (λ m e. absurd (m (eqb-true x MORE t))))
    (λ t. rw t (by_test (eqb x DONE) (λ u. rw u (λ m e. absurd (e (eqb-true x DONE u)))) (λ u. rw u (λ m e. refl))))

-- what is worked out of a symbol that is read
module _ (mode : ℕ) (h : Hand) (x : Symbol) where
  abbrev raw_in : ℕ
  raw_in = raw_next (radio_of mode) h x

  abbrev octet_in : ℕ
  octet_in = shifted (radio_of mode) h.octet raw_in

  abbrev length_in : ℕ
  length_in = length_after (per_octet (radio_of mode)) h.taken h.length octet_in

  abbrev number_in : ℕ
  number_in = rules (per_octet (radio_of mode)) 127 h.taken raw_in octet_in length_in

  abbrev polarity_in : ℕ
  polarity_in = polarity_next (radio_of mode) h x

-- so a hand that a symbol stops stays as it was, but for the number
pub followed_stops : (mode : ℕ) (h : Hand) (x : Symbol) → ((followed mode h x).number ≡ MORE → ⊥)
    → ((followed mode h x).number ≡ DONE → ⊥) → followed mode h x ≡ stopped (followed mode h x).number h
unfolding followed advanced
followed_stops mode h x =
    by_test (known mode)
    (λ k. rw k (by_test (eqb x.number DONE)
    (λ e. rw e (onward_stays h (number_in mode h x) (length_in mode h x) (octet_in mode h x) (polarity_in mode h x) x))
    (λ e. rw e (λ m d. refl))))
    (λ k. rw k (λ m d. refl))

-- and the octets stay as they were
pub kept_stops : (mode : ℕ) (h : Hand) (octets : List ℕ) → (h.number ≡ MORE → ⊥) → (h.number ≡ DONE → ⊥) → kept_at mode h octets ≡ octets
unfolding kept_at
kept_stops mode h octets m d = by_test (known mode) (λ k. rw k (stops h.number _ octets m d)) (λ k. rw k)

-- Within an octet a symbol brings no length, so what there was room for there still is.
module _ (mode : ℕ) (room : ℕ) (h : Hand) (fits : h.length ≤ room) where
  one_more : (r : Radio) → ((t : ℕ) → ((t + 1) % 2 ^ 32 % per_octet r ≡ 0 → ⊥) → (t + 1) % per_octet r ≡ 0 → ⊥) → (x octet p : ℕ) (y : Symbol)
      → let g = onward x (moved h x (length_after (per_octet r) h.taken h.length octet) y octet p) (stopped x h) in
      (g.taken % per_octet r ≡ 0 → ⊥) → g.length ≤ room
  one_more r w x octet p y =
      by_test (eqb x MORE)
      (λ t. rw t (λ n. rw (← inside_length (per_octet r) h.taken (w h.taken n) h.length octet) fits))
      (λ t. rw t (by_test (eqb x DONE)
      (λ u. rw u (λ n. rw (← inside_length (per_octet r) h.taken (w h.taken n) h.length octet) fits))
      (λ u. rw u (λ n. fits))))

  pub followed_roomy : (x : Symbol) → Roomy mode room (followed mode h x)
  unfolding followed advanced
  followed_roomy x =
      by_test (known mode)
      (λ k. rw k (by_test (eqb x.number DONE)
      (λ d. rw d (one_more (radio_of mode) wraps (number_in mode h x) (octet_in mode h x) (polarity_in mode h x) x))
      (λ d. rw d (λ n. fits))))
      (λ k. rw k (λ n. fits))
    where
      -- a count of 32 bits wraps at a whole octet
      wraps : (t : ℕ) → ((t + 1) % 2 ^ 32 % per_octet (radio_of mode) ≡ 0 → ⊥) → (t + 1) % per_octet (radio_of mode) ≡ 0 → ⊥
      wraps =
          each_row (λ r. (t : ℕ) → ((t + 1) % 2 ^ 32 % per_octet r ≡ 0 → ⊥) → (t + 1) % per_octet r ≡ 0 → ⊥)
          (λ t n e. n (omega arith)) (λ t n e. n (omega arith)) (λ t n e. n (omega arith)) mode

-- the ways of `keep`
module _ (mode : ℕ) (h : Hand) (octets : List ℕ) where
  pub keep_no_radio : known mode ≡ false → octets ≡ kept_at mode h octets
  unfolding kept_at
  keep_no_radio k = rw k

  module _ (k : known mode ≡ true) where
    pub keep_partial : (h.taken % per_octet (radio_of mode) ≡ 0 → ⊥) → octets ≡ kept_at mode h octets
    unfolding kept_at
    keep_partial n =
        rw (k, ne_eqb (h.taken % per_octet (radio_of mode)) 0 n)
        (by_test (leb (7 * per_octet (radio_of mode)) h.taken) (λ t. rw t (same h.number)) (λ t. rw t (same h.number)))
      where
        same : (x : ℕ) → octets ≡ onward x octets octets
        same x = by_test (eqb x MORE) (λ t. rw t) (λ t. rw t (by_test (eqb x DONE) (λ d. rw d) (λ d. rw d)))

-- where the symbols taken are no whole octets, nothing is kept
pub kept_partial : (mode : ℕ) (h : Hand) (octets : List ℕ) → whole_at mode h ≡ false → octets ≡ kept_at mode h octets
unfolding whole_at
kept_partial mode h octets w =
    by_test (known mode)
    (λ k. keep_partial mode h octets k (eqb-false (h.taken % per_octet (radio_of mode)) 0 (rw k at w)))
    (λ k. keep_no_radio mode h octets k)
