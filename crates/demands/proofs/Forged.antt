-- Which records are answered 34: of those that are open or ended well just the ones that fail one
-- of the document's four tests, in the words of frames; and none that start gave, carried on by
-- push and finish alone (take never changes it). And what finish and take make of every record, and
-- which number push answers. Assumes nothing.
use mathlib.Core.Path.{◌≡◌, refl, sym, ap, ◌∙◌}
use mathlib.Core.Bool.{true, false, not}
use mathlib.Core.List.{List}
use mathlib.Core.Logic.{◌⊎◌, inl, inr, ◌↔◌}
use Prim.Native.Nat.{ℕ, ◌+◌, ◌*◌, ◌%◌, ◌≤◌, ◌<◌}
use native.Mathlib.Omega.{arith}
use lib.Dec.{eqb, ltb}
use lib.ListN.{length, take, replicate, length-replicate}
use borrow.Author.Tests.{eqb-false, eq-eqb, ne_eqb, ltb-true, ltb-false, leb-true, le-leb, not-true}
use Rattle.codes.specs.Numbers.{DONE, RUNOUT, ENDED, NOTENDED, MORE, FORGED}
use Rattle.codes.specs.Chips.{pick, distance, bad}
use Rattle.codes.specs.Radio.{Radio, known, radio_of, word}
use Rattle.codes.specs.Symbol.{symbol_of}
use Rattle.codes.specs.declared.Symbol.{Symbol}
use Rattle.codes.proofs.Facts.{sound}
use Rattle.codes.proofs.Unique.{some_words, nochip_of, lost_of}
use Rattle.codes.proofs.Tests.{by_test, not_both}
use Rattle.frame.specs.Frame.{per_octet, plain, symbols}
use Rattle.frame.proofs.Count.{symbols_long}
use Rattle.order.specs.Order.{Answer, done, rules}
use Rattle.order.specs.Taking.{stopped, shifted, length_after, raw_next}
use Rattle.order.proofs.Steps.{follow_refused, kept_stops}
use Rattle.reader.specs.Read.{told, left, answered}
use Rattle.receiver.specs.declared.Receiver.{Receiver}
use Rattle.receiver.specs.declared.Step.{Step}
use Rattle.receiver.specs.Record.{step, start_of, total, forged, hand_of, held, with_hand, took_symbol, push_of, ended_with, finish_of, take_of}
use Rattle.receiver.proofs.Ways.{number_of_symbols, forged_no_radio, forged_long, forged_count, last_test}
use Rattle.receiver.proofs.Ways.{forged_open, forged_ended, forged_refused, passed_known}
use Rattle.receiver.proofs.Ways.{push_forged, push_ended, finish_forged, finish_ended, finish_open, takes_forged, takes_open}
use Rattle.receiver.proofs.Ways.{takes_refused, takes_short, takes_done}
use Rattle.demands.specs.Words.{tells}
use Rattle.demands.specs.Calls.{Call, pushing, finishing, taking, called, after, Idle}
use Rattle.demands.specs.Calls.{Faulty, no_radio, too_long, too_many_repaired, misfits, FaultyOpen, FaultyWell}
use Rattle.demands.proofs.Among.{among_pass}
use Rattle.demands.proofs.Given.{of_symbol, followed_read, push_ways, took_given, finish_ways, takes_ways}
use Rattle.demands.proofs.Made.{holds_no, passes, made}

-- ---- 34 is the number of a forged record, whatever is called

called_forged : (c : Receiver) → forged c ≡ true → (x : Call) → (called c x).number ≡ FORGED
unfolding called told
called_forged c t (pushing part) = sym (ap (λ (s : Step). s.number) (push_forged c part t))
called_forged c t finishing = sym (ap (λ (s : Step). s.number) (finish_forged c t))
called_forged c t (taking buffer) = sym (ap (λ (a : Answer). (told a).number) (takes_forged c (length buffer) t))

-- and of no other, unless it holds that number
called_passed : (c : Receiver) → forged c ≡ false → (c.ended ≡ FORGED → ⊥) → (x : Call) → (called c x).number ≡ FORGED → ⊥
unfolding called told
called_passed c f n (pushing part) =
    push_ways c part (λ (s : Step). s.number ≡ FORGED → ⊥) (λ t e. not_both (forged c) t f) (λ e. omega (arith, e)) (λ e. omega (arith, e))
    (λ f o.
    let x = (took_symbol c (symbol_of (radio_of c.mode) part)).number in
    eqb-false x FORGED (not-true _ (among_pass (λ y. not (eqb y FORGED)) of_symbol refl x (took_given c part f o))))
called_passed c f n finishing =
    finish_ways c (λ (s : Step). s.number ≡ FORGED → ⊥) (λ t e. not_both (forged c) t f) (λ e. omega (arith, e)) (λ e. omega (arith, e))
called_passed c f n (taking buffer) =
    takes_ways c (length buffer) (λ (a : Answer). (told a).number ≡ FORGED → ⊥) (λ t e. not_both (forged c) t f)
    (λ e. omega (arith, e)) (λ e. omega (arith, e)) (λ e. omega (arith, e)) (λ m d. n)

-- ---- the tests of a record that is open or ended well, in the words of frames

module _ (c : Receiver) (g : (c.ended ≡ MORE) ⊎ (c.ended ≡ DONE)) (misfit : ℕ → Type 0) where
  -- the symbols of the frame of a report of the length held
  frame_total : (report : List ℕ) → length report ≡ c.length → length (symbols (radio_of c.mode) report) ≡ total c
  frame_total report l = symbols_long (radio_of c.mode) plain report ∙ ap (λ (n : ℕ). (6 + n) * per_octet (radio_of c.mode)) l

  -- where the other tests pass, the test of the number of symbols decides
  module _ (decides : forged c ≡ number_of_symbols c (per_octet (radio_of c.mode)) → (forged c ≡ true) ↔ misfit (total c)) where
    last : known c.mode ≡ true → c.length ≤ 127 → c.count ≤ (radio_of c.mode).limit * c.taken → (forged c ≡ true) ↔ misfit (total c)
    last k s b = decides (last_test c g k s (radio_of c.mode).limit refl b (per_octet (radio_of c.mode)) refl)

    forged_faulty : forged c ≡ true → Faulty misfit c
    forged_faulty t =
        by_test (known c.mode)
        (λ k. by_test (ltb 127 c.length) (λ l. too_long (ltb-true _ _ l))
        (λ l. by_test (ltb ((radio_of c.mode).limit * c.taken) c.count) (λ b. too_many_repaired (ltb-true _ _ b))
        (λ b. misfits (λ report h. rw (frame_total report h) ((last k (ltb-false _ _ l) (ltb-false _ _ b)).0 t)))))
        (λ k. no_radio k)

    faulty_forged : Faulty misfit c → forged c ≡ true
    faulty_forged u =
        by_test (known c.mode)
        (λ k. by_test (ltb 127 c.length) (λ l. sym (forged_long c g k (ltb-true _ _ l)))
        (λ l. by_test (ltb ((radio_of c.mode).limit * c.taken) c.count)
        (λ b. sym (forged_count c g k (ltb-false _ _ l) (radio_of c.mode).limit refl (ltb-true _ _ b)))
        (λ b. go k (ltb-false _ _ l) (ltb-false _ _ b) u)))
        (λ k. sym (forged_no_radio c g k))
      where
        go : known c.mode ≡ true → c.length ≤ 127 → c.count ≤ (radio_of c.mode).limit * c.taken → Faulty misfit c → forged c ≡ true
        go k s b (no_radio n) = not_both (known c.mode) k n
        go k s b (too_long l) = absurd (omega arith)
        go k s b (too_many_repaired m) = absurd (omega arith)
        go k s b (misfits t) =
            let report : List ℕ = replicate c.length 0 in
            let l : length report ≡ c.length = length-replicate c.length 0 in
            (last k s b).1 (rw (frame_total report l) at (t report l))

    tested : (forged c ≡ true) ↔ Faulty misfit c
    tested = (forged_faulty, faulty_forged)

open_tested : (c : Receiver) → c.ended ≡ MORE → (forged c ≡ true) ↔ FaultyOpen c
open_tested c o =
    tested c (inl o) _
    (λ t.
    let e = forged_open c (per_octet (radio_of c.mode)) t o in
    (λ f. leb-true _ _ (e ∙ f), λ h. sym e ∙ le-leb _ _ h))

well_tested : (c : Receiver) → c.ended ≡ DONE → (forged c ≡ true) ↔ FaultyWell c
well_tested c d =
    tested c (inr d) _
    (λ t.
    let e = forged_ended c (per_octet (radio_of c.mode)) t (λ m. omega (arith, d, m)) in
    (λ f. eqb-false _ _ (not-true _ (e ∙ f)), λ h. sym e ∙ ap not (ne_eqb _ _ h)))

-- one that doesn't fail them passes
passed : (c : Receiver) (F : Type 0) → (forged c ≡ true) ↔ F → (F → ⊥) → forged c ≡ false
passed c F t n = by_test (forged c) (λ f. absurd (n (t.0 f))) (λ f. f)

-- ---- what the calls make of every record

module _ (c : Receiver) where
  -- 34 and nothing else of one that fails the tests
  forged_idle : forged c ≡ true → Idle c FORGED FORGED 0
  unfolding told left
  forged_idle t =
      record {
        pushed = λ part. sym (push_forged c part t);
        finished = sym (finish_forged c t);
        taken = λ buffer. ap (λ (a : Answer). answered a buffer) (sym (takes_forged c (length buffer) t));
      }

  answers_forged : (F : Type 0) → (forged c ≡ true) ↔ F → (c.ended ≡ FORGED → ⊥) → (x : Call) → ((called c x).number ≡ FORGED) ↔ F
  answers_forged F t n x = (
    λ e. by_test (forged c) t.0 (λ f. absurd (called_passed c f n x e)),
    λ u. called_forged c (t.1 u) x,
  )

  -- An open record that fails a test is given back as it was, with 34; and it alone is answered so.
  module _ (o : c.ended ≡ MORE) where
    pub open_forged : (x : Call) → ((called c x).number ≡ FORGED) ↔ FaultyOpen c
    open_forged = answers_forged (FaultyOpen c) (open_tested c o) (λ n. omega (arith, o, n))

    pub open_faulty : FaultyOpen c → Idle c FORGED FORGED 0
    open_faulty u = forged_idle ((open_tested c o).1 u)

    -- One that doesn't: finish ends it with 4, all else as it was, and take tells 12 at place 0.
    pub open_sound : (FaultyOpen c → ⊥) → (finish_of c ≡ step RUNOUT (ended_with RUNOUT c)) × ((buffer : List ℕ) → take_of c buffer ≡ tells NOTENDED 0 buffer)
    unfolding told left
    open_sound n =
        let f = passed c (FaultyOpen c) (open_tested c o) n in
        (sym (finish_open c f o), λ buffer. ap (λ (a : Answer). answered a buffer) (sym (takes_open c (length buffer) f o)))

    -- Push to it, whatever else it holds: a part that isn't exactly one symbol long gives it back
    -- as it was, with 11.
    pub open_part : (FaultyOpen c → ⊥) → (part : List ℕ) → (length part ≡ (radio_of c.mode).size → ⊥) → push_of c part ≡ step 11 c
    unfolding push_of
    open_part n part l =
        rw (passed c (FaultyOpen c) (open_tested c o) n, eq-eqb c.ended MORE o, ne_eqb (length part) (radio_of c.mode).size l)

    -- One that is: a byte above 1 is 5, and chips farther than the limit from every word are 6, the
    -- record as it was but for that; of chips that are read rules 4 to 6 give the number, over what
    -- the record holds.
    module _ (n : FaultyOpen c → ⊥) (part : List ℕ) (l : length part ≡ (radio_of c.mode).size) where
      abbrev r : Radio
      r = radio_of c.mode

      f : forged c ≡ false
      f = passed c (FaultyOpen c) (open_tested c o) n

      symbol_pushed : push_of c part ≡ took_symbol c (symbol_of r part)
      unfolding push_of
      symbol_pushed = rw (f, eq-eqb c.ended MORE o, eq-eqb (length part) r.size l)

      refused_with : (x : ℕ) → (symbol_of r part).number ≡ x → eqb x MORE ≡ false → eqb x DONE ≡ false → push_of c part ≡ step x (ended_with x c)
      refused_with x e m d =
          symbol_pushed
          ∙ ap (with_hand c)
          (sym (follow_refused c.mode (hand_of c) (symbol_of r part) (passed_known c f (inl o)) (λ z. eqb-false x DONE d (sym e ∙ z)))
          ∙ ap (λ (z : ℕ). stopped z (hand_of c)) e)
          ∙ ap (λ (os : List ℕ). step x (held c.mode (stopped x (hand_of c)) os))
          (kept_stops c.mode (stopped x (hand_of c)) c.octets (eqb-false x MORE m) (eqb-false x DONE d))

      pub open_no_chip : bad part ≡ true → push_of c part ≡ step 5 (ended_with 5 c)
      open_no_chip b = refused_with 5 (ap (λ (x : Symbol). x.number) (nochip_of r part b)) refl refl

      pub open_lost : bad part ≡ false → ((v : ℕ) → v < length r.words → r.limit < distance part (word r v)) → push_of c part ≡ step 6 (ended_with 6 c)
      open_lost b far =
          refused_with 6 (ap (λ (x : Symbol). x.number) (lost_of r part (some_words r (sound c.mode)) (record { chip = b; far = far }))) refl refl

      pub open_read : (symbol_of r part).number ≡ 0 → (raw octet : ℕ) → raw ≡ raw_next r (hand_of c) (symbol_of r part) → octet ≡ shifted r c.octet raw
          → (push_of c part).number ≡ rules (per_octet r) 127 c.taken raw octet (length_after (per_octet r) c.taken c.length octet)
      open_read e raw octet a b =
          ap (λ (s : Step). s.number) symbol_pushed ∙ followed_read c.mode (passed_known c f (inl o)) (hand_of c) part e ∙ rw (b, a)

  -- A record that ended well and fails a test likewise.
  module _ (d : c.ended ≡ DONE) where
    pub well_forged : (x : Call) → ((called c x).number ≡ FORGED) ↔ FaultyWell c
    well_forged = answers_forged (FaultyWell c) (well_tested c d) (λ n. omega (arith, d, n))

    pub well_faulty : FaultyWell c → Idle c FORGED FORGED 0
    well_faulty u = forged_idle ((well_tested c d).1 u)

    -- One that doesn't: push and finish give it back as it was, with 10.
    pub well_sound : (FaultyWell c → ⊥) → ((part : List ℕ) → push_of c part ≡ step ENDED c) × (finish_of c ≡ step ENDED c)
    well_sound n =
        let f = passed c (FaultyWell c) (well_tested c d) n in
        let m : c.ended ≡ MORE → ⊥ = λ e. omega (arith, d, e) in
        (λ part. sym (push_ended c part f m), sym (finish_ended c f m))

    -- And take gives what it holds, where there is room for its octets: count and gap as they are,
    -- the polarity modulo 2 in a radio with a chain, else 0.
    pub well_taken : (FaultyWell c → ⊥) → length c.octets ≡ 127 → (buffer : List ℕ) → c.length ≤ length buffer
        → take_of c buffer ≡ answered
        (done c.taken (take c.length c.octets) c.count c.gap (pick (radio_of c.mode).chained (c.polarity % 2) 0)) buffer
    well_taken n l buffer h =
        ap (λ (a : Answer). answered a buffer) (sym (takes_done c (length buffer) (passed c (FaultyWell c) (well_tested c d) n) d l h))

    -- Into a buffer with less it is 3, at its number of symbols, with nothing stored.
    pub well_short : (FaultyWell c → ⊥) → length c.octets ≡ 127 → (buffer : List ℕ) → length buffer < c.length → take_of c buffer ≡ tells 3 c.taken buffer
    unfolding told left
    well_short n l buffer h =
        ap (λ (a : Answer). answered a buffer) (sym (takes_short c (length buffer) (passed c (FaultyWell c) (well_tested c d) n) d l h))

  -- A record that a refusal ended is never tested: push and finish give it back with 10, and take
  -- repeats its number and place.
  pub refused_idle : (c.ended ≡ MORE → ⊥) → (c.ended ≡ DONE → ⊥) → Idle c ENDED c.ended c.taken
  unfolding told left
  refused_idle m d =
      let f = sym (forged_refused c m d) in
      record {
        pushed = λ part. sym (push_ended c part f m);
        finished = sym (finish_ended c f m);
        taken = λ buffer. ap (λ (a : Answer). answered a buffer) (sym (takes_refused c (length buffer) f m d));
      }

-- ---- records that calls make

-- Whatever was called before, no call on a record that start gave is answered 34.
pub never_forged : (mode : ℕ) (xs : List Call) (x : Call) → (called (after (start_of mode).receiver xs) x).number ≡ FORGED → ⊥
never_forged mode xs =
    let c = after (start_of mode).receiver xs in
    let h = (made mode xs).honest in
    called_passed c (passes c h) (holds_no FORGED refl refl refl c h)
