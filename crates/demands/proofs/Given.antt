-- The numbers that the stepping receiver's calls give back: those that document 01's table has for
-- each. What a push does to the record's last symbol and polarity. And what a refusal leaves.
-- Assumes nothing.
use mathlib.Core.Path.{◌≡◌, refl, sym, ap, ◌∙◌}
use mathlib.Core.Bool.{true, false, not}
use mathlib.Core.List.{List, [], ◌∷◌}
use mathlib.Core.Logic.{◌⊎◌, inl, inr, ⊎_elim}
use Prim.Native.Nat.{ℕ, suc, ◌+◌, ◌*◌, ◌%◌, ◌^◌, ◌≤◌, ◌<◌}
use native.Mathlib.Nat.{mod-eq_of_lt}
use native.Mathlib.Omega.{arith}
use lib.ListN.{length, replicate}
use lib.Dec.{eqb, leb, ltb}
use borrow.Author.Tests.{eq-eqb, ne_eqb, eqb-true, eqb-false, leb-true, not-false}
use Rattle.codes.specs.Numbers.{DONE, NOROOM, RUNOUT, NOCHIP, LOST, PREAMBLE, BADSTART, ENDED, BADPART, NOTENDED, MORE, FORGED}
use Rattle.codes.specs.Chips.{pick, among, bad}
use Rattle.codes.specs.Radio.{Radio, known, radio_of, bpsk}
use Rattle.codes.specs.Symbol.{lesser, symbol_of, gap_of}
use Rattle.codes.specs.declared.Symbol.{Symbol}
use Rattle.codes.proofs.Tests.{by_pick, by_test, not_both}
use Rattle.codes.proofs.Facts.{sound}
use Rattle.codes.proofs.Modes.{row_test}
use Rattle.codes.proofs.Unique.{closeness_order, symbol_numbers}
use Rattle.frame.specs.Frame.{per_octet}
use Rattle.order.specs.declared.Hand.{Hand}
use Rattle.order.specs.Order.{Answer, refused, ends, rules}
use Rattle.reader.specs.Read.{told}
use Rattle.order.specs.Taking.{stopped, shifted, length_after, gap_at, moved, raw_next, polarity_next, advanced, followed}
use Rattle.order.proofs.Rules.{past_first, length_few, preamble_rules, rules_ways}
use Rattle.order.proofs.Steps.{followed_stops, kept_stops}
use Rattle.receiver.specs.declared.Receiver.{Receiver}
use Rattle.receiver.specs.declared.Step.{Step}
use Rattle.receiver.specs.Record.{step, start_of, is_open, ended_well, forged, hand_of, held, took_symbol, push_of, ended_with, finish_of}
use Rattle.receiver.specs.Record.{room_for, holding, takes, take_of}
use Rattle.receiver.proofs.Ways.{passed_known}
use Rattle.demands.specs.Calls.{Taken}
use Rattle.demands.proofs.Among.{among_pass}
use Rattle.demands.proofs.Demand1.{leaves}

-- those of a symbol in hand: go on, done, or refused
abbrev pub of_symbol : List ℕ
of_symbol = DONE ∷ NOCHIP ∷ LOST ∷ PREAMBLE ∷ BADSTART ∷ MORE ∷ []

-- a number with which none is taken
takes_none : {P : Type 0} (x : ℕ) → eqb x MORE ≡ false → eqb x DONE ≡ false → Taken x → P
takes_none x m d = ⊎_elim (λ e. absurd (eqb-false x MORE m e)) (λ e. absurd (eqb-false x DONE d e))

-- with room for every report 3 is none of them
rules_given : (per s raw start n : ℕ) → (ends per 5 s ≡ true → n ≤ 127) → among (rules per 127 s raw start n) of_symbol ≡ true
rules_given per s raw start n q =
    rules_ways per 127 s raw start n P (λ _ _. refl) (λ _ _. refl) (λ e l. absurd (omega (arith, q (eq-eqb (suc s) (6 * per) e))))
    (λ _. by_pick P (eqb (suc s) ((6 + n) * per)) DONE MORE (λ _. refl) (λ _. refl))
  where
    P : ℕ → Type 0
    P z = among z of_symbol ≡ true

-- The raw symbol of a value is, without a chain, that value, and in mode 0 its sum with the last
-- one held, at the first symbol 0; whatever else the hand holds.
pub raw_plain : (r : Radio) → r.chained ≡ false → (h : Hand) (x : Symbol) → x.value < 2 ^ r.bits → raw_next r h x ≡ x.value
raw_plain r c h x l = rw (c, mod-eq_of_lt l)

pub raw_chained : (h : Hand) (x : Symbol) → (h.taken ≡ 0 → ⊥) → raw_next bpsk h x ≡ (h.last + x.value) % 2
raw_chained h x n = rw (ne_eqb h.taken 0 n) (omega arith)

pub raw_first : (h : Hand) (x : Symbol) → h.taken ≡ 0 → raw_next bpsk h x ≡ 0
raw_first h x t = rw t (omega arith)

-- what is worked out of a symbol that is read
module _ (r : Radio) (h : Hand) (x : Symbol) where
  abbrev octet : ℕ
  octet = shifted r h.octet (raw_next r h x)

  abbrev n : ℕ
  n = length_after (per_octet r) h.taken h.length octet

  abbrev found : ℕ
  found = rules (per_octet r) 127 h.taken (raw_next r h x) octet n

  abbrev onto : Hand
  onto = moved h found n x octet (polarity_next r h x)

-- the ways of a symbol in hand: moved on or stopped by the rules, no chip, or lost
module _ (mode : ℕ) (k : known mode ≡ true) (h : Hand) (w : List ℕ) where
  abbrev r : Radio
  r = radio_of mode

  abbrev x : Symbol
  x = symbol_of r w

  followed_ways : (P : Hand → Type 0) → ((found r h x ≡ MORE) ⊎ (found r h x ≡ DONE) → P (onto r h x))
      → ((found r h x ≡ MORE → ⊥) → (found r h x ≡ DONE → ⊥) → P (stopped (found r h x) h)) → P (stopped NOCHIP h) → P (stopped LOST h) → P (followed mode h x)
  unfolding followed advanced
  followed_ways P a b n l =
      rw k
      (by_pick P (eqb x.number DONE) (advanced r h x) (stopped x.number h)
      (λ _. by_pick P (eqb (found r h x) MORE) (onto r h x) _ (λ t. a (inl (eqb-true _ MORE t)))
      (λ m. by_pick P (eqb (found r h x) DONE) (onto r h x) (stopped (found r h x) h) (λ t. a (inr (eqb-true _ DONE t)))
      (λ d. b (eqb-false _ MORE m) (eqb-false _ DONE d))))
      (λ d. symbol_numbers r w (λ y. (y ≡ DONE → ⊥) → P (stopped y h)) (λ _. n) (λ _. l) (λ e. absurd (e refl)) (eqb-false _ DONE d)))

  followed_given : among (followed mode h x).number of_symbol ≡ true
  followed_given =
      let given = rules_given (per_octet r) h.taken (raw_next r h x) (octet r h x) (n r h x)
      (length_few (per_octet r) h.taken h.length (octet r h x)) in
      followed_ways (λ (g : Hand). among g.number of_symbol ≡ true) (λ _. given) (λ _ _. given) refl refl

  -- one that is read is taken by rules 4 to 6
  pub followed_read : x.number ≡ DONE → (followed mode h x).number ≡ found r h x
  unfolding followed advanced
  followed_read d =
      rw (k, eq-eqb x.number DONE d)
      (by_test (eqb (found r h x) MORE) (λ t. rw t) (λ t. rw t (by_test (eqb (found r h x) DONE) (λ u. rw u) (λ u. rw u))))

  -- Where it is taken, the hand is moved on. The polarity stays, but at the first symbol of a
  -- chain.
  followed_onto : Taken (followed mode h x).number → followed mode h x ≡ onto r h x
  followed_onto =
      followed_ways (λ (g : Hand). Taken g.number → g ≡ onto r h x) (λ _ _. refl)
      (λ m d. takes_none (found r h x) (ne_eqb _ MORE m) (ne_eqb _ DONE d)) (takes_none NOCHIP refl refl) (takes_none LOST refl refl)

  followed_keeps : (r.chained ≡ true → h.taken ≡ 0 → ⊥) → (followed mode h x).polarity ≡ h.polarity
  followed_keeps n =
      followed_ways (λ (g : Hand). g.polarity ≡ h.polarity) (λ _. past_first r.chained h.taken h.polarity x.value n) (λ _ _. refl) refl refl

-- At the first symbol of mode 0 the raw bit is 0, and the rules want more: the symbol's value is
-- the polarity.
module _ (h : Hand) (t : h.taken ≡ 0) (w : List ℕ) where
  first_more : found bpsk h (symbol_of bpsk w) ≡ MORE
  first_more =
      let v = symbol_of bpsk w in
      let nought = raw_first h v t in
      preamble_rules 8 h.taken (omega (arith, t)) (raw_next bpsk h v) (octet bpsk h v) (n bpsk h v) ∙ rw (eq-eqb (raw_next bpsk h v) 0 nought)

  followed_first : (followed 0 h (symbol_of bpsk w)).number ≡ PREAMBLE → ⊥
  followed_first =
      followed_ways 0 refl h w (λ (g : Hand). g.number ≡ PREAMBLE → ⊥) (λ _ e. omega (arith, first_more, e)) (λ m _ _. m first_more)
      (λ e. omega (arith, e)) (λ e. omega (arith, e))

  followed_settles : Taken (followed 0 h (symbol_of bpsk w)).number → (followed 0 h (symbol_of bpsk w)).polarity ≡ (symbol_of bpsk w).value
  followed_settles =
      followed_ways 0 refl h w (λ (g : Hand). Taken g.number → g.polarity ≡ (symbol_of bpsk w).value) (λ _ _. rw t) (λ m _ _. absurd (m first_more))
      (takes_none NOCHIP refl refl) (takes_none LOST refl refl)

-- ---- each call

-- a symbol that push takes
pub took_given : (c : Receiver) (part : List ℕ) → forged c ≡ false → c.ended ≡ MORE
    → among (took_symbol c (symbol_of (radio_of c.mode) part)).number of_symbol ≡ true
took_given c part f o = followed_given c.mode (passed_known c f (inl o)) (hand_of c) part

-- what is true of push's ways
pub push_ways : (c : Receiver) (part : List ℕ) (P : Step → Type 0) → (forged c ≡ true → P (step FORGED c)) → P (step ENDED c) → P (step BADPART c)
    → (forged c ≡ false → c.ended ≡ MORE → P (took_symbol c (symbol_of (radio_of c.mode) part))) → P (push_of c part)
unfolding push_of
push_ways c part P f e b t =
    by_pick P (forged c) _ _ f
    (λ g. by_pick P (not (is_open c)) _ _ (λ _. e)
    (λ o. by_pick P (not (eqb (length part) (radio_of c.mode).size)) _ _ (λ _. b) (λ _. t g (eqb-true c.ended MORE (not-false _ o)))))

-- Push gives back one of these numbers.
pub push_numbers : (c : Receiver) (part : List ℕ)
    → among (push_of c part).number (DONE ∷ NOCHIP ∷ LOST ∷ PREAMBLE ∷ BADSTART ∷ ENDED ∷ BADPART ∷ MORE ∷ FORGED ∷ []) ≡ true
push_numbers c part =
    push_ways c part (λ (s : Step). among s.number given ≡ true) (λ _. refl) refl refl
    (λ f o. among_pass (λ x. among x given) of_symbol refl (took_symbol c (symbol_of (radio_of c.mode) part)).number (took_given c part f o))
  where
    given : List ℕ
    given = DONE ∷ NOCHIP ∷ LOST ∷ PREAMBLE ∷ BADSTART ∷ ENDED ∷ BADPART ∷ MORE ∷ FORGED ∷ []

-- the code's gap of a symbol, which would wrap, is its gap
symbol_gap : (mode : ℕ) (w : List ℕ) → gap_at (symbol_of (radio_of mode) w) ≡ gap_of (symbol_of (radio_of mode) w)
unfolding symbol_of
symbol_gap mode w =
    let r = radio_of mode in
    let o = closeness_order r (sound mode) w in
    let s : r.size ≤ 32 = leb-true _ _ (row_test (λ r. leb r.size 32) refl mode) in
    by_pick (λ (x : Symbol). gap_at x ≡ gap_of x) (bad w) _ _ (λ _. refl) (λ _. omega (arith, o.0, o.1, s))

-- Where push takes a symbol, of any record: it is counted, its value is the last one, its distance
-- is added to the count, its gap held where that is smaller; n is the low seven bits of the octet
-- in hand after the last symbol of the length octet, else as it was. (A record's numbers have 32
-- bits.)
module _ (c : Receiver) (part : List ℕ) where
  abbrev pushed : Symbol
  pushed = symbol_of (radio_of c.mode) part

  push_onto : Taken (push_of c part).number → hand_of (push_of c part).receiver ≡ onto (radio_of c.mode) (hand_of c) pushed
  push_onto =
      push_ways c part (λ (s : Step). Taken s.number → hand_of s.receiver ≡ onto (radio_of c.mode) (hand_of c) pushed)
      (λ _. takes_none FORGED refl refl) (takes_none ENDED refl refl) (takes_none BADPART refl refl)
      (λ f o. followed_onto c.mode (passed_known c f (inl o)) (hand_of c) part)

  module _ (t : Taken (push_of c part).number) where
    pub push_taken : (push_of c part).receiver.taken ≡ (c.taken + 1) % 2 ^ 32
    push_taken = ap (λ (h : Hand). h.taken) (push_onto t)

    pub push_last : (push_of c part).receiver.last ≡ pushed.value
    push_last = ap (λ (h : Hand). h.last) (push_onto t)

    pub push_count : (push_of c part).receiver.count ≡ (c.count + pushed.distance) % 2 ^ 32
    push_count = ap (λ (h : Hand). h.count) (push_onto t)

    pub push_gap : (push_of c part).receiver.gap ≡ lesser (gap_of pushed) c.gap
    push_gap = ap (λ (h : Hand). h.gap) (push_onto t) ∙ ap (λ (g : ℕ). lesser g c.gap) (symbol_gap c.mode part)

    pub push_length : (push_of c part).receiver.length
        ≡ pick (eqb (suc c.taken) (6 * per_octet (radio_of c.mode))) ((push_of c part).receiver.octet % 128) c.length
    push_length =
        ap (λ (h : Hand). h.length) (push_onto t)
        ∙ ap (λ (h : Hand). pick (eqb (suc c.taken) (6 * per_octet (radio_of c.mode))) (h.octet % 128) c.length) (sym (push_onto t))

  -- No push changes the mode; and one that takes none counts none.
  pub push_mode : (push_of c part).receiver.mode ≡ c.mode
  push_mode = push_ways c part (λ (s : Step). s.receiver.mode ≡ c.mode) (λ _. refl) refl refl (λ _ _. refl)

  pub push_stays : (Taken (push_of c part).number → ⊥) → (push_of c part).receiver.taken ≡ c.taken
  push_stays =
      push_ways c part (λ (s : Step). (Taken s.number → ⊥) → s.receiver.taken ≡ c.taken) (λ _ _. refl) (λ _. refl) (λ _. refl)
      (λ f o n. ap (λ (h : Hand). h.taken) (followed_stops c.mode (hand_of c) pushed (λ m. n (inl m)) (λ d. n (inr d))))

-- The first symbol of a mode 0 record, whatever else that holds: no part gives 7, and where a
-- symbol is taken the polarity is what it reads as.
module _ (c : Receiver) (m : c.mode ≡ 0) (t : c.taken ≡ 0) (part : List ℕ) where
  pub push_first : (push_of c part).number ≡ PREAMBLE → ⊥
  push_first =
      push_ways c part (λ (s : Step). s.number ≡ PREAMBLE → ⊥) (λ _ e. omega (arith, e)) (λ e. omega (arith, e)) (λ e. omega (arith, e))
      (λ _ _. rw m (followed_first (hand_of c) t part))

  pub push_settles : Taken (push_of c part).number → (push_of c part).receiver.polarity ≡ (symbol_of bpsk part).value
  push_settles =
      push_ways c part (λ (s : Step). Taken s.number → s.receiver.polarity ≡ (symbol_of bpsk part).value)
      (λ _. takes_none FORGED refl refl) (takes_none ENDED refl refl) (takes_none BADPART refl refl)
      (λ _ _. rw m (followed_settles (hand_of c) t part))

-- Any other symbol, and any symbol of another mode, leaves the polarity.
pub push_keeps : (c : Receiver) (part : List ℕ) → ((radio_of c.mode).chained ≡ true → c.taken ≡ 0 → ⊥) → (push_of c part).receiver.polarity ≡ c.polarity
push_keeps c part n =
    push_ways c part (λ (s : Step). s.receiver.polarity ≡ c.polarity) (λ _. refl) refl refl
    (λ f o. followed_keeps c.mode (passed_known c f (inl o)) (hand_of c) part n)

-- a record of mode 0 that a symbol ended with 7 is past its first
pub took_second : (c : Receiver) → c.mode ≡ 0 → (part : List ℕ)
    → let d = (took_symbol c (symbol_of (radio_of c.mode) part)).receiver in
    d.ended ≡ PREAMBLE → 0 < d.taken
took_second c m part e =
    let g = followed c.mode (hand_of c) (symbol_of (radio_of c.mode) part) in
    by_test (eqb c.taken 0)
    (λ t. absurd (followed_first (hand_of c) (eqb-true c.taken 0 t) part (rw m at e)))
    (λ t.
    let s : g.taken ≡ c.taken = ap (λ (h : Hand). h.taken)
    (followed_stops c.mode (hand_of c) (symbol_of (radio_of c.mode) part) (λ z. omega (arith, e, z)) (λ z. omega (arith, e, z))) in
    omega (arith, s, eqb-false c.taken 0 t))

-- 34, 10 and 11 give the record back as it was. Any other number is the one that the record then
-- holds: 13 while it is open, or what ended it.
pub push_tells : (c : Receiver) (part : List ℕ)
    → ((among (push_of c part).number (ENDED ∷ BADPART ∷ FORGED ∷ []) ≡ true) × ((push_of c part).receiver ≡ c))
    ⊎ ((among (push_of c part).number of_symbol ≡ true) × ((push_of c part).receiver.ended ≡ (push_of c part).number))
push_tells c part =
    push_ways c part
    (λ (s : Step). ((among s.number (ENDED ∷ BADPART ∷ FORGED ∷ []) ≡ true) × (s.receiver ≡ c))
    ⊎ ((among s.number of_symbol ≡ true) × (s.receiver.ended ≡ s.number)))
    (λ _. inl (refl, refl)) (inl (refl, refl)) (inl (refl, refl)) (λ f o. inr (took_given c part f o, refl))

-- Start gives 13 for a mode that has a radio and else 1, and the record holds that number: it is
-- open, or has ended so at place 0. It holds the mode, whatever that is, the greatest number of 32
-- bits for the gap, and zeros.
pub start_tells : (mode x : ℕ) → x ≡ pick (known mode) 13 1
    → start_of mode ≡ step x (record {
      mode = mode;
      ended = x;
      taken = 0;
      length = 0;
      count = 0;
      last = 0;
      octet = 0;
      gap = 4294967295;
      polarity = 0;
      octets = replicate 127 0;
    })
unfolding start_of
start_tells mode x e = by_test (known mode) (λ k. rw (e, k)) (λ k. rw (e, k))

-- what is true of finish's ways
pub finish_ways : (c : Receiver) (P : Step → Type 0) → (forged c ≡ true → P (step FORGED c))
    → P (step ENDED c) → P (step RUNOUT (ended_with RUNOUT c)) → P (finish_of c)
unfolding finish_of
finish_ways c P f e r = by_pick P (forged c) _ _ f (λ _. by_pick P (not (is_open c)) _ _ (λ _. e) (λ _. r))

-- Finish gives back one of these.
pub finish_numbers : (c : Receiver) → among (finish_of c).number (RUNOUT ∷ ENDED ∷ FORGED ∷ []) ≡ true
finish_numbers c = finish_ways c (λ (s : Step). among s.number (RUNOUT ∷ ENDED ∷ FORGED ∷ []) ≡ true) (λ _. refl) refl refl

-- what is true of take's ways
pub takes_ways : (c : Receiver) (room : ℕ) (P : Answer → Type 0) → (forged c ≡ true → P (refused FORGED 0)) → P (refused NOTENDED 0)
    → P (refused NOROOM c.taken) → P (holding c)
    → ((c.ended ≡ MORE → ⊥) → (c.ended ≡ DONE → ⊥) → P (refused c.ended c.taken)) → P (takes c room)
unfolding takes room_for
takes_ways c room P f o n d e =
    by_pick P (forged c) _ _ f
    (λ _. by_pick P (is_open c) _ _ (λ _. o)
    (λ m. by_pick P (ended_well c) _ _ (λ _. by_pick P (ltb room _) _ _ (λ _. n) (λ _. d)) (λ w. e (eqb-false c.ended MORE m) (eqb-false c.ended DONE w))))

-- Take gives back one of these, or the number of the refusal that ended the record.
pub take_numbers : (c : Receiver) (buffer : List ℕ)
    → (among (take_of c buffer).answer.number (DONE ∷ NOROOM ∷ NOTENDED ∷ FORGED ∷ []) ≡ true)
    ⊎ (((take_of c buffer).answer.number ≡ c.ended) × (c.ended ≡ MORE → ⊥) × (c.ended ≡ DONE → ⊥))
unfolding told
take_numbers c buffer = takes_ways c (length buffer) P (λ _. inl refl) (inl refl) (inl refl) (inl refl) (λ m d. inr (refl, m, d))
  where
    P : Answer → Type 0
    P a = (among (told a).number (DONE ∷ NOROOM ∷ NOTENDED ∷ FORGED ∷ []) ≡ true)
        ⊎ (((told a).number ≡ c.ended) × (c.ended ≡ MORE → ⊥) × (c.ended ≡ DONE → ⊥))

-- ---- what a refusal leaves

-- A take that isn't done: n, count, gap and polarity 0, report buffer unchanged.
pub take_refused : (c : Receiver) (buffer : List ℕ) → ((take_of c buffer).answer.number ≡ DONE → ⊥)
    → ((take_of c buffer).answer.n ≡ 0) × ((take_of c buffer).answer.count ≡ 0) × ((take_of c buffer).answer.gap ≡ 0)
    × ((take_of c buffer).answer.polarity ≡ 0) × ((take_of c buffer).buffer ≡ buffer)
take_refused c buffer = leaves (takes c (length buffer)) buffer

-- A refusal of push's symbol leaves the record as it was, but for the number that ends it.
pub push_refused : (c : Receiver) (part : List ℕ) → among (push_of c part).number (NOCHIP ∷ LOST ∷ PREAMBLE ∷ BADSTART ∷ []) ≡ true
    → (push_of c part).receiver ≡ ended_with (push_of c part).number c
push_refused c part =
    push_ways c part (λ (s : Step). among s.number refusal ≡ true → s.receiver ≡ ended_with s.number c)
    (λ _ t. not_both false t refl) (λ t. not_both false t refl) (λ t. not_both false t refl) (λ f o t.
    let h = followed c.mode (hand_of c) (symbol_of (radio_of c.mode) part) in
    let m = none h.number MORE t refl in
    let d = none h.number DONE t refl in
    ap (λ (l : List ℕ). held c.mode h l) (kept_stops c.mode h c.octets m d)
    ∙ ap (λ (g : Hand). held c.mode g c.octets) (followed_stops c.mode (hand_of c) (symbol_of (radio_of c.mode) part) m d))
  where
    refusal : List ℕ
    refusal = NOCHIP ∷ LOST ∷ PREAMBLE ∷ BADSTART ∷ []

    none : (x y : ℕ) → among x refusal ≡ true → among y refusal ≡ false → x ≡ y → ⊥
    none x y t f e = not_both (among y refusal) (rw e at t) f
