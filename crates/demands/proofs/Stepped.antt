-- The stepping receiver is the reader: a buffer's whole symbols pushed in order until the record
-- ends, finished if it doesn't, and taken into 127 bytes, come to what the reader answers with a
-- report buffer of 127 bytes; calls that answered 10, 11 or 12 in between make no difference. For
-- every mode number. Which number each of these calls answers. So demand 3 is so of take, too, and
-- the reading order of push and finish. Assumes nothing.
use mathlib.Core.Path.{◌≡◌, refl, sym, ap, ◌∙◌, subst}
use mathlib.Core.Bool.{true, false, not}
use mathlib.Core.List.{List, [], ◌∷◌, ◌++◌}
use mathlib.Core.Logic.{◌↔◌, inr, ⊎_elim}
use Prim.Native.Nat.{ℕ, zero, suc, ◌+◌, ◌-◌, ◌*◌, ◌^◌, ◌≤◌, ◌<◌}
use native.Mathlib.Omega.{arith}
use lib.Dec.{eqb}
use lib.ListN.{length, get_or, take, drop, replicate, drop_of_length-le, length-append, length-replicate}
use lib.Seq.{drop-cons, get_or-append_seam}
use borrow.Author.Tests.{eq-eqb, ne_eqb, eqb-true, eqb-false, le-ltb, not-true}
use Rattle.codes.specs.Numbers.{DONE, RUNOUT, MORE}
use Rattle.codes.specs.Radio.{known, radio_of}
use Rattle.codes.specs.Symbol.{symbol_of}
use Rattle.codes.proofs.Tests.{by_pick, by_test}
use Rattle.codes.proofs.Facts.{sound}
use Rattle.codes.proofs.Modes.{each_row}
use Rattle.frame.specs.Frame.{per_octet}
use Rattle.order.specs.Order.{Answer, refused, done, whole, reading_from, reading}
use Rattle.reader.specs.Read.{told, answer_at, answered, read_of}
use Rattle.reader.proofs.Sofar.{handed_refused, handed_done}
use Rattle.order.proofs.Raw.{size_pos}
use Rattle.order.proofs.Windows.{whole_sized, rest_out}
use Rattle.receiver.specs.declared.Receiver.{Receiver}
use Rattle.receiver.specs.declared.Step.{Step}
use Rattle.receiver.specs.Record.{start_of, forged, hand_of, took_symbol, push_of, finish_of, room_for, take_of}
use Rattle.demands.specs.Words.{Report, polarity_in, frame_gap, NearOne, success}
use Rattle.demands.specs.Refusals.{Refuses}
use Rattle.demands.specs.Calls.{Call, pushing, called, after, numbers, stray, counted, in_order, turns_of, numbers_of}
use Rattle.receiver.proofs.Ways.{finish_open}
use Rattle.receiver.proofs.Stepping.{Going, Gone, start_going, start_gone, honest, going_open, finish_gone, push_going}
use Rattle.demands.proofs.Demand3.{answers_done, answer_room}
use Rattle.demands.proofs.Reader.{reads_report}
use Rattle.demands.proofs.Among.{among_pass}
use Rattle.demands.proofs.Refused.{refused_order}
use Rattle.demands.proofs.Given.{of_symbol, took_given, push_taken, push_stays}
use Rattle.demands.proofs.Stray.{no_difference}

-- every one of these calls answers something else than 10, 11 and 12
abbrev Counts : Receiver → List (List ℕ) → Type 0
Counts c ws = counted c (in_order c ws) ≡ in_order c ws

-- a record that has ended: nothing more is called
module _ (c : Receiver) (m : c.ended ≡ MORE → ⊥) where
  counts_ended : (ws : List (List ℕ)) → Counts c ws
  unfolding in_order counted
  counts_ended [] = rw (ne_eqb c.ended MORE m)
  counts_ended (w ∷ ws) = rw (ne_eqb c.ended MORE m)

  numbers_ended : (ws : List (List ℕ)) → numbers c (in_order c ws) ≡ []
  unfolding in_order numbers
  numbers_ended [] = rw (ne_eqb c.ended MORE m)
  numbers_ended (w ∷ ws) = rw (ne_eqb c.ended MORE m)

  order_ended : (ws : List (List ℕ)) → after c (in_order c ws) ≡ c
  unfolding in_order after
  order_ended [] = rw (ne_eqb c.ended MORE m)
  order_ended (w ∷ ws) = rw (ne_eqb c.ended MORE m)

-- an open one
module _ (c : Receiver) (o : c.ended ≡ MORE) (f : forged c ≡ false) (ws : List (List ℕ)) (s : ℕ) where
  -- the next window is pushed
  module _ (l : s < length ws) where
    abbrev next : Receiver
    next = (push_of c (get_or ws s [])).receiver

    order_next : after c (in_order c (drop s ws)) ≡ after next (in_order next (drop (suc s) ws))
    unfolding in_order after called
    order_next = rw (drop-cons ws s [] l, eq-eqb c.ended MORE o)

    numbers_next : numbers c (in_order c (drop s ws)) ≡ (push_of c (get_or ws s [])).number ∷ numbers next (in_order next (drop (suc s) ws))
    unfolding in_order numbers called
    numbers_next = rw (drop-cons ws s [] l, eq-eqb c.ended MORE o)

    -- its number is the one that the record then holds
    push_number : length (get_or ws s []) ≡ (radio_of c.mode).size → (push_of c (get_or ws s [])).number ≡ (push_of c (get_or ws s [])).receiver.ended
    unfolding push_of
    push_number e = rw (f, eq-eqb c.ended MORE o, eq-eqb (length (get_or ws s [])) (radio_of c.mode).size e)

    push_counts : length (get_or ws s []) ≡ (radio_of c.mode).size → stray (push_of c (get_or ws s [])).number ≡ false
    unfolding push_of
    push_counts e =
        rw (f, eq-eqb c.ended MORE o, eq-eqb (length (get_or ws s [])) (radio_of c.mode).size e)
        (not-true _ (among_pass (λ x. not (stray x)) of_symbol refl
        (took_symbol c (symbol_of (radio_of c.mode) (get_or ws s []))).number (took_given c (get_or ws s []) f o)))

    counts_next : length (get_or ws s []) ≡ (radio_of c.mode).size → Counts next (drop (suc s) ws) → Counts c (drop s ws)
    unfolding in_order counted called
    counts_next e q = rw (drop-cons ws s [] l, eq-eqb c.ended MORE o, push_counts e) (ap (λ (xs : List Call). pushing (get_or ws s []) ∷ xs) q)

  -- or it is finished
  module _ (e : length ws ≡ s) where
    order_out : after c (in_order c (drop s ws)) ≡ (finish_of c).receiver
    unfolding in_order after called
    order_out = rw (drop_of_length-le ws {i = s} (omega arith), eq-eqb c.ended MORE o)

    numbers_out : numbers c (in_order c (drop s ws)) ≡ RUNOUT ∷ []
    unfolding in_order numbers called
    numbers_out =
        rw (drop_of_length-le ws {i = s} (omega arith), eq-eqb c.ended MORE o) (ap (λ (st : Step). st.number ∷ []) (sym (finish_open c f o)))

    finish_counts : stray (finish_of c).number ≡ false
    unfolding finish_of
    finish_counts = rw (f, eq-eqb c.ended MORE o)

    counts_out : Counts c (drop s ws)
    unfolding in_order counted called
    counts_out = rw (drop_of_length-le ws {i = s} (omega arith), eq-eqb c.ended MORE o, finish_counts)

-- numbers that are 13 but for the last: how many they are, and the last, tell them
last_same : (m n x y : ℕ) → replicate m MORE ++ x ∷ [] ≡ replicate n MORE ++ y ∷ [] → (m ≡ n) × (x ≡ y)
last_same m n x y e =
    let l : m ≡ n = omega (
      arith,
      ap length e,
      length-append (replicate m MORE) (x ∷ []),
      length-append (replicate n MORE) (y ∷ []),
      length-replicate m MORE,
      length-replicate n MORE,
    ) in
    (l, sym (end m x) ∙ ap (λ (xs : List ℕ). get_or xs m 0) e ∙ ap (λ (i : ℕ). get_or (replicate n MORE ++ y ∷ []) i 0) l ∙ end n y)
  where
    end : (i z : ℕ) → get_or (replicate i MORE ++ z ∷ []) i 0 ≡ z
    end i z = ap (λ (j : ℕ). get_or (replicate i MORE ++ z ∷ []) j 0) (sym (length-replicate i MORE)) ∙ get_or-append_seam (replicate i MORE) z [] 0

start_taken : (mode : ℕ) → (start_of mode).receiver.taken ≡ 0
unfolding start_of
start_taken mode = by_pick (λ (s : Step). s.receiver.taken ≡ 0) (known mode) _ _ (λ _. refl) (λ _. refl)

module _ (mode : ℕ) (k : known mode ≡ true) (ws : List (List ℕ)) (sized : (s : ℕ) → s < length ws → length (get_or ws s []) ≡ (radio_of mode).size) where
  abbrev answer : Answer
  answer = reading_from (radio_of mode) 127 [] ws

  -- the numbers that are left to answer, from some window on
  abbrev Answering : Receiver → ℕ → Type 0
  Answering c s = (s ≤ turns_of answer) × (numbers c (in_order c (drop s ws)) ≡ replicate (turns_of answer - s) MORE ++ (told answer).number ∷ [])

  -- from there on, the others pushed in order and finished
  abbrev From : Receiver → ℕ → Type 0
  From c s = Gone answer (after c (in_order c (drop s ws))) × Counts c (drop s ws) × Answering c s

  -- the last number, at the symbol whose number is the answer's turns
  last_number : (c : Receiver) (s x : ℕ) → turns_of answer ≡ s → (told answer).number ≡ x → numbers c (in_order c (drop s ws)) ≡ x ∷ [] → Answering c s
  last_number c s x t n e =
      let z : turns_of answer - s ≡ 0 = omega arith in
      (omega arith, e ∙ sym (rw (z, n)))

  -- and one before it
  more_number : (c g : Receiver) (s : ℕ) → numbers c (in_order c (drop s ws)) ≡ MORE ∷ numbers g (in_order g (drop (suc s) ws)) → Answering g (suc s)
      → Answering c s
  more_number c g s e a =
      let z : turns_of answer - s ≡ suc (turns_of answer - suc s) = omega (arith, a.0) in
      (omega (arith, a.0), e ∙ rw z (ap (λ (xs : List ℕ). MORE ∷ xs) a.1))

  module _ (c : Receiver) (G : Going mode ws c) where
    -- no window is left: finish answers 4
    ends_out : length ws ≡ c.taken → From c c.taken
    unfolding told
    ends_out e =
        let o = going_open mode k ws c G in
        let f = honest mode k ws c G in
        let a : answer ≡ refused RUNOUT c.taken = G.sofar.tail ∙ rest_out (radio_of mode) ws 127 c.taken e in (
          subst (Gone answer) (sym (order_out c o f ws c.taken e)) (finish_gone mode k ws c G e),
          counts_out c o f ws c.taken e,
          last_number c c.taken RUNOUT (ap turns_of a) (ap (λ (b : Answer). (told b).number) a) (numbers_out c o f ws c.taken e),
        )

    -- the next symbol is pushed
    module _ (l : c.taken < length ws) where
      abbrev o : c.ended ≡ MORE
      o = going_open mode k ws c G

      abbrev f : forged c ≡ false
      f = honest mode k ws c G

      abbrev w : List ℕ
      w = get_or ws c.taken []

      abbrev g : Receiver
      g = (push_of c w).receiver

      abbrev left : List (List ℕ)
      left = drop (suc c.taken) ws

      own_size : length w ≡ (radio_of c.mode).size
      own_size = rw G.own (sized c.taken l)

      told_next : (x : ℕ) → g.ended ≡ x → numbers c (in_order c (drop c.taken ws)) ≡ x ∷ numbers g (in_order g left)
      told_next x e = numbers_next c o f ws c.taken l ∙ ap (λ (y : ℕ). y ∷ numbers g (in_order g left)) (push_number c o f ws c.taken l own_size ∙ e)

      -- a record's symbols are few
      few : c.taken < 2 ^ 31
      few =
          each_row (λ r. c.taken < (6 + c.length) * per_octet r → c.taken < 2 ^ 31) (λ h. omega (arith, h, G.sofar.goes.few))
          (λ h. omega (arith, h, G.sofar.goes.few)) (λ h. omega (arith, h, G.sofar.goes.few)) mode G.sofar.goes.under

      -- it has ended the record, with success behind it or a refusal at it
      module _ (t : g.ended ≡ MORE → ⊥) (gone : Gone answer g) where
        last_told : (x : ℕ) → g.ended ≡ x → numbers c (in_order c (drop c.taken ws)) ≡ x ∷ []
        last_told x e = told_next x e ∙ ap (λ (xs : List ℕ). x ∷ xs) (numbers_ended g t left)

        answering : Answering c c.taken
        unfolding told
        answering =
            let n = push_number c o f ws c.taken l own_size in
            by_test (eqb g.ended DONE)
            (λ d.
            let e = eqb-true g.ended DONE d in
            let a : answer ≡ done g.taken (take g.length g.octets) g.count g.gap g.polarity =
            gone.is ∙ handed_done (hand_of g) g.octets e in
            last_number c c.taken DONE (ap turns_of a ∙ omega (arith, few, push_taken c w (inr (n ∙ e))))
            (ap (λ (b : Answer). (told b).number) a) (last_told DONE e))
            (λ d.
            let e = eqb-false g.ended DONE d in
            let a : answer ≡ refused g.ended g.taken = gone.is ∙ handed_refused (hand_of g) g.octets t e in
            last_number c c.taken g.ended
            (ap turns_of a ∙ push_stays c w (⊎_elim (λ m. t (sym n ∙ m)) (λ z. e (sym n ∙ z))))
            (ap (λ (b : Answer). (told b).number) a) (last_told g.ended refl))

        ends_here : From c c.taken
        ends_here = (
          subst (Gone answer) (sym (order_next c o f ws c.taken l ∙ order_ended g t left)) gone,
          counts_next c o f ws c.taken l own_size (counts_ended g t left),
          answering,
        )

      -- or more is wanted
      goes_next : g.ended ≡ MORE → From g (suc c.taken) → From c c.taken
      goes_next m next = (
        subst (Gone answer) (sym (order_next c o f ws c.taken l)) next.0,
        counts_next c o f ws c.taken l own_size next.1,
        more_number c g c.taken (told_next MORE m) next.2,
      )

  goes_on : (n : ℕ) (c : Receiver) → Going mode ws c → n + c.taken ≡ length ws → From c c.taken
  goes_on zero c G e = ends_out c G (omega arith)
  goes_on (suc n) c G e =
      let l : c.taken < length ws = omega arith in
      let next = (push_of c (get_or ws c.taken [])).receiver in
      let way = push_going mode k ws c G l (sized c.taken l) next refl in
      by_test (eqb next.ended MORE)
      (λ m.
      let t = way.0 (eqb-true next.ended MORE m) in
      goes_next c G l (eqb-true next.ended MORE m) (subst (From next) t.0 (goes_on n next t.1 (omega (arith, t.0)))))
      (λ m.
      let t = eqb-false next.ended MORE m in
      ends_here c G l t (way.1 t))

  all_over : From (start_of mode).receiver 0
  all_over = subst (From (start_of mode).receiver) (start_taken mode)
      (goes_on (length ws) (start_of mode).receiver (start_going mode k ws) (omega (arith, start_taken mode)))

-- at every mode number, over the whole symbols of a buffer
module _ (mode : ℕ) (chips : List ℕ) where
  abbrev begun : Receiver
  begun = (start_of mode).receiver

  each_sized : (s : ℕ) → s < length (whole (radio_of mode) chips) → length (get_or (whole (radio_of mode) chips) s []) ≡ (radio_of mode).size
  each_sized = whole_sized (radio_of mode) chips (size_pos (radio_of mode) (sound mode))

  in_order_lem : (k : known mode ≡ true) → From mode k (whole (radio_of mode) chips) each_sized begun 0
  in_order_lem k = all_over mode k (whole (radio_of mode) chips) each_sized

  steps_answer : Gone (answer_at mode 127 chips) (after begun (in_order begun (whole (radio_of mode) chips))) × Counts begun (whole (radio_of mode) chips)
  unfolding answer_at reading
  steps_answer =
      by_test (known mode)
      (λ k. rw k ((in_order_lem k).0, (in_order_lem k).1))
      (λ k.
      let g = start_gone mode k in
      (rw (k, order_ended begun g.more (whole (radio_of mode) chips)) g, counts_ended begun g.more (whole (radio_of mode) chips)))

  -- no report of a reading with room for 127 octets is longer
  room_enough : room_for 127 (answer_at mode 127 chips) ≡ answer_at mode 127 chips
  unfolding answer_at room_for
  room_enough = by_test (known mode) (λ k. rw k (go (reading (radio_of mode) 127 chips) refl)) (λ k. rw k)
    where
      go : (a : Answer) → reading (radio_of mode) 127 chips ≡ a → room_for 127 a ≡ a
      go (refused x place) e = refl
      go (done place report count gap polarity) e =
          let a = answers_done (radio_of mode) (sound mode) 127 chips report count place gap polarity e in
          rw (le-ltb 127 (length report) (answer_room (radio_of mode) (sound mode) 127 chips report count a))

  -- None of the calls in order answers 10, 11 or 12: so what `steps_read` supposes of a list of
  -- calls is so of them, and of them with such calls put in anywhere (`stray_between`).
  pub in_order_counts : counted begun (in_order begun (whole (radio_of mode) chips)) ≡ in_order begun (whole (radio_of mode) chips)
  in_order_counts = steps_answer.1

  -- They answer 13 for each symbol before the one that ends the reading, and then its number: the
  -- reading's, with room for 127 octets.
  pub in_order_numbers : known mode ≡ true → numbers begun (in_order begun (whole (radio_of mode) chips)) ≡ numbers_of (reading (radio_of mode) 127 chips)
  unfolding reading
  in_order_numbers k =
      let a = reading (radio_of mode) 127 chips in
      let e : turns_of a - 0 ≡ turns_of a = omega arith in
      (in_order_lem k).2.1 ∙ ap (λ (n : ℕ). replicate n MORE ++ (told a).number ∷ []) e

  -- So push, or where chips run out finish, refuses with a number at a symbol just where the
  -- symbols before it read on and that is wrong with it.
  pub in_order_refused : known mode ≡ true → (x s : ℕ) → (x ≡ DONE → ⊥)
      → (numbers begun (in_order begun (whole (radio_of mode) chips)) ≡ replicate s 13 ++ x ∷ []) ↔ Refuses (radio_of mode) 127 chips x s
  unfolding told
  in_order_refused k x s n =
      let q = refused_order (radio_of mode) (sound mode) 127 chips x s in (
        λ e. q.0 (go (reading (radio_of mode) 127 chips) (last_same _ s _ x (sym (in_order_numbers k) ∙ e))),
        λ R. in_order_numbers k ∙ ap numbers_of (q.1 R),
      )
    where
      go : (a : Answer) → (turns_of a ≡ s) × ((told a).number ≡ x) → a ≡ refused x s
      go (refused y place) e = rw (e.0, e.1)
      go (done place report count gap polarity) e = absurd (n (sym e.1))

  -- The symbols in order, taken into any buffer: what the reader answers with room for 127 octets,
  -- where this one has room for it.
  pub in_order_takes : (buffer : List ℕ)
      → take_of (after begun (in_order begun (whole (radio_of mode) chips))) buffer ≡ answered (room_for (length buffer) (answer_at mode 127 chips)) buffer
  in_order_takes buffer = ap (λ (a : Answer). answered a buffer) (steps_answer.0.same (length buffer))

  module _ (buffer : List ℕ) (l : length buffer ≡ 127) where
    -- The symbols in order: take answers what the reader answers.
    pub in_order_reads : take_of (after begun (in_order begun (whole (radio_of mode) chips))) buffer ≡ read_of mode chips buffer
    in_order_reads = in_order_takes buffer ∙ rw l (ap (λ (a : Answer). answered a buffer) room_enough)

    -- And whatever calls that answered 10, 11 or 12 came between.
    pub steps_read : (xs : List Call) → counted begun xs ≡ in_order begun (whole (radio_of mode) chips)
        → take_of (after begun xs) buffer ≡ read_of mode chips buffer
    steps_read xs e =
        ap (λ (c : Receiver). take_of c buffer) (sym (no_difference begun xs) ∙ ap (after begun) e) ∙ in_order_reads

    -- So take tells a report and a count just where the chips are near one of the report's frames,
    -- and their gap and polarity with them.
    pub steps_report : known mode ≡ true → (xs : List Call) → counted begun xs ≡ in_order begun (whole (radio_of mode) chips)
        → (report : List ℕ) (count : ℕ) → length report ≤ 127
        → (take_of (after begun xs) buffer ≡ success mode buffer report count (frame_gap (radio_of mode) chips report) (polarity_in (radio_of mode) chips))
        ↔ (Report report × NearOne (radio_of mode) chips report count)
    steps_report k xs e report count h =
        let s = steps_read xs e in
        let q = reads_report mode k chips buffer report count (rw l h) in
        (λ o. q.0 (sym s ∙ o), λ n. s ∙ q.1 n)
