-- The checked profile, over the plain one, for any mode number and any chips. Its reader answers as
-- the plain one does, but for a report that doesn't pass, which it refuses with the number of its
-- first test, at the frame's number of symbols and with nothing stored. So it is done exactly when
-- the plain reader is, with a report that passes; what it stores is never nothing but zeros; and
-- what the checked writer wrote it reads, FCS included, and that frame with the reserved bit set,
-- too. A refusal of either leaves every byte. And the tests asked of what take gave answer the
-- checked reader's number. Assumes nothing.
use mathlib.Core.Path.{◌≡◌, refl, sym, ap, ◌∙◌}
use mathlib.Core.Logic.{◌↔◌}
use mathlib.Core.Bool.{true, false}
use mathlib.Core.List.{List, [], ◌∷◌, ◌++◌}
use Prim.Native.Nat.{ℕ, ◌+◌, ◌-◌, ◌≤◌, ◌<◌}
use native.Mathlib.Omega.{arith}
use lib.Dec.{eqb, ltb}
use lib.ListN.{length, get_or, take, drop, replicate}
use lib.Seq.{take_at, take-take}
use borrow.Author.Tests.{eq-eqb, ne_eqb, lt-ltb, le-ltb, eqb-true, eqb-false}
use Rattle.codes.specs.Numbers.{DONE, BADMODE, TOOLONG, NOROOM, RUNOUT, NOCHIP, LOST, PREAMBLE, BADSTART, TOOFEW, BADCHECK, ALLZERO}
use Rattle.codes.specs.Chips.{among}
use Rattle.codes.specs.Radio.{known, radio_of}
use Rattle.codes.proofs.Tests.{by_pick, by_test}
use Rattle.codes.proofs.Facts.{sound}
use Rattle.frame.specs.declared.Written.{Written}
use Rattle.frame.specs.Outcome.{Outcome}
use Rattle.frame.specs.Frame.{Form, symbols, frame, frame_with}
use Rattle.frame.specs.Write.{unwritten, written}
use Rattle.frame.proofs.Below.{Below, at_below, below_at}
use Rattle.reader.specs.declared.Reading.{Reading}
use Rattle.order.specs.Order.{Answer, refused, done, whole}
use Rattle.reader.specs.Read.{told, left, answer_at, answered, read_of}
use Rattle.reader.proofs.Fair.{Told, answer_told}
use Rattle.receiver.specs.Record.{start_of, take_of}
use Rattle.fcs.specs.Fcs.{fcs_octets, with_fcs}
use Rattle.fcs.proofs.Remainder.{with_long, with_below}
use Rattle.checked.specs.Profile.{all_zero, body, check_of, checked_answer, read_checked_of, written_checked}
use Rattle.checked.proofs.Tests.{short_check}
use Rattle.checked.proofs.Passing.{check_wrong, check_zeros, passes_check, check_passes, check_numbers}
use Rattle.checked.proofs.Passing.{zeros_are, are_zeros, not_zeros, body_not_zeros, with_body}
use Rattle.demands.specs.Words.{Report, forms, OneOf, apart_in, success, tells}
use Rattle.demands.specs.Refusals.{Refuses}
use Rattle.demands.specs.Calls.{Call, after, counted, in_order}
use Rattle.demands.specs.Profile.{Passes}
use Rattle.demands.proofs.Demand1.{leaves, read_bad_mode, read_numbers, write_refused, write_numbers}
use Rattle.demands.proofs.Demand2.{reads_frames, read_back}
use Rattle.demands.proofs.Demand3.{answer_room, demand_3}
use Rattle.demands.proofs.Path.{same_parts}
use Rattle.demands.proofs.Among.{among_pass}
use Rattle.demands.proofs.Stepped.{steps_read}
use Rattle.demands.proofs.Refused.{wrong_number}
use Rattle.demands.proofs.Reader.{told_done, success_done, reads_refused}

-- ---- the reader, over the plain one

-- an answer that isn't done
stays : (a : Answer) (buffer : List ℕ) → ((told a).number ≡ DONE → ⊥) → answered (checked_answer a) buffer ≡ answered a buffer
unfolding checked_answer told
stays (refused x place) buffer n = refl
stays (done place report count gap polarity) buffer n = absurd (n refl)

-- what the plain reader reads are octets
read_octets : (mode : ℕ) (chips buffer report : List ℕ) (count gap polarity : ℕ)
    → read_of mode chips buffer ≡ success mode buffer report count gap polarity → Below 256 report
read_octets mode chips buffer report count gap polarity o =
    by_test (known mode)
    (λ k.
    let a = (success_done mode k chips buffer report count gap polarity o).0 in
    let h = answer_room (radio_of mode) (sound mode) (length buffer) chips report count a in
    at_below 256 report ((demand_3 (radio_of mode) (sound mode) (length buffer) chips report count h).0 a).0.octets)
    (λ f.
    let e = sym (read_bad_mode mode chips buffer f) ∙ o in
    absurd (eqb-false BADMODE DONE refl (ap (λ (r : Outcome Reading). r.answer.number) e)))

module _ (mode : ℕ) (chips buffer : List ℕ) where
  -- A refusal of the plain reader stays as it is.
  pub checked_refusal : ((read_of mode chips buffer).answer.number ≡ DONE → ⊥) → read_checked_of mode chips buffer ≡ read_of mode chips buffer
  checked_refusal = stays (answer_at mode (length buffer) chips) buffer

  -- So where the reading order refuses, this profile refuses with the same number at that symbol.
  pub checked_order : known mode ≡ true → (x s : ℕ) → Refuses (radio_of mode) (length buffer) chips x s → read_checked_of mode chips buffer ≡ tells x s buffer
  checked_order k x s R =
      let n = wrong_number (radio_of mode) (length buffer) chips R.values x R.wrong in
      let o = (reads_refused mode k chips buffer x s n).1 R in
      checked_refusal (λ d. n (sym (ap (λ (r : Outcome Reading). r.answer.number) o) ∙ d)) ∙ o

  module _ (report : List ℕ) (count gap polarity : ℕ) (o : read_of mode chips buffer ≡ success mode buffer report count gap polarity) where
    is_done : answer_at mode (length buffer) chips ≡ done (length (symbols (radio_of mode) report)) report count gap polarity
    is_done = told_done mode buffer report count gap polarity (answer_at mode (length buffer) chips) (answer_told mode (length buffer) chips) o

    -- A report that it reads is refused by the first test that it doesn't pass ..
    pub checked_refused : (check_of report ≡ DONE → ⊥) → read_checked_of mode chips buffer ≡ tells (check_of report) (length (symbols (radio_of mode) report)) buffer
    unfolding checked_answer told left
    checked_refused n = rw (is_done, ne_eqb (check_of report) DONE n)

    -- .. and given where it passes them all.
    pub checked_passed : check_of report ≡ DONE → read_checked_of mode chips buffer ≡ success mode buffer report count gap polarity
    unfolding checked_answer told left
    checked_passed e = rw (is_done, eq-eqb (check_of report) DONE e)

    abbrev Refused : ℕ → Type 0
    Refused x = read_checked_of mode chips buffer ≡ tells x (length (symbols (radio_of mode) report)) buffer

    refused_with : (x : ℕ) → check_of report ≡ x → eqb x DONE ≡ false → Refused x
    refused_with x e n =
        checked_refused (λ z. eqb-false x DONE n (sym e ∙ z)) ∙ ap (λ (y : ℕ). tells y (length (symbols (radio_of mode) report)) buffer) e

    -- Fewer than three octets are 14, whatever they are.
    pub checked_few : length report < 3 → Refused TOOFEW
    checked_few h = refused_with TOOFEW (short_check report h) refl

    -- Three or more that don't end in their FCS are 15.
    pub checked_wrong : 3 ≤ length report → (report ≡ with_fcs (body report) → ⊥) → Refused BADCHECK
    checked_wrong h n = refused_with BADCHECK (check_wrong report (read_octets mode chips buffer report count gap polarity o) h n) refl

    -- And three or more zeros are 16.
    pub checked_zeros : 3 ≤ length report → report ≡ replicate (length report) 0 → Refused ALLZERO
    checked_zeros h e = refused_with ALLZERO (check_zeros report h e) refl

-- a reading that is done in this profile was done in the plain one, with a report that passes the
-- tests
told_checked : (mode : ℕ) (buffer report : List ℕ) (count gap polarity : ℕ) (a : Answer) → Told a
    → answered (checked_answer a) buffer ≡ success mode buffer report count gap polarity
    → (answered a buffer ≡ success mode buffer report count gap polarity) × (check_of report ≡ DONE)
unfolding checked_answer told
told_checked mode buffer report count gap polarity (refused x place) f e = absurd (f (ap (λ (o : Outcome Reading). o.answer.number) e))
told_checked mode buffer report count gap polarity (done place other c g p) f e =
    by_test (eqb (check_of other) DONE)
    (λ t.
    let q : answered (done place other c g p) buffer ≡ success mode buffer report count gap polarity = rw t at e in
    let same = (same_parts _ _ c count g gap p polarity other report (told_done mode buffer report count gap polarity (done place other c g p) tt q)).1 in
    (q, ap check_of (sym same) ∙ eqb-true (check_of other) DONE t))
    (λ t.
    let q : answered (refused (check_of other) place) buffer ≡ success mode buffer report count gap polarity = rw t at e in
    absurd (eqb-false (check_of other) DONE t (ap (λ (o : Outcome Reading). o.answer.number) q)))

-- what such a reading stored: a report that passes
abbrev Stored : ℕ → List ℕ → Type 0
Stored n buffer = (report : List ℕ) × (check_of report ≡ DONE) × (length report ≡ n) × (take n buffer ≡ report)

stored : (a : Answer) → Told a → (buffer : List ℕ) → (told (checked_answer a)).number ≡ DONE
    → Stored (told (checked_answer a)).n (left (checked_answer a) buffer)
unfolding checked_answer told left
stored (refused x place) f buffer = λ e. absurd (f e)
stored (done place report count gap polarity) f buffer =
    by_test (eqb (check_of report) DONE)
    (λ t. rw t (λ e. (report, eqb-true (check_of report) DONE t, refl, take_at report (drop (length report) buffer) (length report) refl)))
    (λ g. rw g (λ e. absurd (eqb-false (check_of report) DONE g e)))

-- Octets pass the tests exactly when they are such.
pub check_done : (octets : List ℕ) → Below 256 octets → (check_of octets ≡ DONE) ↔ Passes octets
check_done octets p = (
  λ e. let c = passes_check octets p e in record { long = omega (arith, c.0); ends = c.1; some = not_zeros octets e },
  λ q. check_passes octets q.long q.ends q.some,
)

-- Done exactly when the plain reader is, with a report that passes.
pub checked_done : (mode : ℕ) (chips buffer report : List ℕ) (count gap polarity : ℕ)
    → (read_checked_of mode chips buffer ≡ success mode buffer report count gap polarity)
    ↔ ((read_of mode chips buffer ≡ success mode buffer report count gap polarity) × Passes report)
checked_done mode chips buffer report count gap polarity = (
  λ o.
      let p = told_checked mode buffer report count gap polarity (answer_at mode (length buffer) chips) (answer_told mode (length buffer) chips) o in
      (p.0, (check_done report (read_octets mode chips buffer report count gap polarity p.0)).0 p.1),
  λ q. checked_passed mode chips buffer report count gap polarity q.0
      ((check_done report (read_octets mode chips buffer report count gap polarity q.0)).1 q.1),
)

-- What a reading that is done in this profile stored is not nothing but zeros, whatever the mode
-- and the chips were; and neither is what stands there before the two octets of the FCS.
module _ (mode : ℕ) (chips buffer : List ℕ) (e : (read_checked_of mode chips buffer).answer.number ≡ DONE) where
  abbrev n : ℕ
  n = (read_checked_of mode chips buffer).answer.n

  abbrev held : List ℕ
  held = (read_checked_of mode chips buffer).buffer

  got : Stored n held
  got = stored (answer_at mode (length buffer) chips) (answer_told mode (length buffer) chips) buffer e

  pub never_zeros : take n held ≡ replicate n 0 → ⊥
  never_zeros z = not_zeros got.0 got.1 (sym got.3 ∙ z ∙ ap (λ (i : ℕ). replicate i 0) (sym got.2))

  pub never_zeros_before : take (n - 2) held ≡ replicate (n - 2) 0 → ⊥
  never_zeros_before z =
      let front : take (n - 2) (take n held) ≡ take (n - 2) held = take-take (n - 2) n held (omega arith) in
      body_not_zeros got.0 got.1
      (ap (λ (i : ℕ). take (i - 2) got.0) got.2 ∙ ap (take (n - 2)) (sym got.3) ∙ front ∙ z
      ∙ ap (λ (i : ℕ). replicate (i - 2) 0) (sym got.2))

-- ---- the writer, and what it wrote

-- what is true of the writer's ways
checked_ways : (mode : ℕ) (report buffer : List ℕ) (P : Outcome Written → Type 0) → P (unwritten BADMODE buffer) → P (unwritten TOOFEW buffer)
    → P (unwritten TOOLONG buffer) → P (unwritten ALLZERO buffer) → P (written mode (with_fcs report) buffer) → P (written_checked mode report buffer)
unfolding written_checked
checked_ways mode report buffer P m f l z w =
    by_pick P (known mode) _ _
    (λ _. by_pick P (eqb (length report) 0) _ _ (λ _. f)
    (λ _. by_pick P (ltb 125 (length report)) _ _ (λ _. l) (λ _. by_pick P (all_zero report) _ _ (λ _. z) (λ _. w))))
    (λ _. m)

-- The tests of a writing, in their order: a mode that has no radio is 1, whatever the report; an
-- empty report is 14; one above 125 octets 2, zeros too; zeros 16, whatever room there is. What is
-- left is written with its FCS.
pub checked_bad_mode : (mode : ℕ) (report buffer : List ℕ) → known mode ≡ false → written_checked mode report buffer ≡ unwritten BADMODE buffer
unfolding written_checked
checked_bad_mode mode report buffer k = rw k

module _ (mode : ℕ) (k : known mode ≡ true) (buffer : List ℕ) where
  pub write_empty : written_checked mode [] buffer ≡ unwritten TOOFEW buffer
  unfolding written_checked
  write_empty = rw k

  module _ (report : List ℕ) where
    pub write_long : 125 < length report → written_checked mode report buffer ≡ unwritten TOOLONG buffer
    unfolding written_checked
    write_long h = rw (k, ne_eqb (length report) 0 (λ z. omega (arith, z)), lt-ltb 125 (length report) h)

    module _ (one : 1 ≤ length report) (short : length report ≤ 125) where
      pub write_zeros : report ≡ replicate (length report) 0 → written_checked mode report buffer ≡ unwritten ALLZERO buffer
      unfolding written_checked
      write_zeros e =
          rw (k, ne_eqb (length report) 0 (λ z. omega (arith, z)), le-ltb 125 (length report) short, ap all_zero e ∙ are_zeros (length report))

      pub write_whole : (report ≡ replicate (length report) 0 → ⊥) → written_checked mode report buffer ≡ written mode (with_fcs report) buffer
      unfolding written_checked
      write_whole some =
          rw (
            k,
            ne_eqb (length report) 0 (λ z. omega (arith, z)),
            le-ltb 125 (length report) short,
            by_test (all_zero report) (λ t. absurd (some (zeros_are report t))) (λ f. f),
          )

-- A refused writing: chip count 0, buffer unchanged.
pub checked_write_refused : (mode : ℕ) (report buffer : List ℕ) → ((written_checked mode report buffer).answer.number ≡ DONE → ⊥)
    → ((written_checked mode report buffer).answer.chips ≡ 0) × ((written_checked mode report buffer).buffer ≡ buffer)
checked_write_refused mode report buffer =
    checked_ways mode report buffer (λ o. (o.answer.number ≡ DONE → ⊥) → (o.answer.chips ≡ 0) × (o.buffer ≡ buffer))
    (λ _. (refl, refl)) (λ _. (refl, refl)) (λ _. (refl, refl)) (λ _. (refl, refl)) (write_refused mode (with_fcs report) buffer)

-- The writer gives back one of these numbers.
pub checked_write_numbers : (mode : ℕ) (report buffer : List ℕ)
    → among (written_checked mode report buffer).answer.number (DONE ∷ BADMODE ∷ TOOLONG ∷ NOROOM ∷ TOOFEW ∷ ALLZERO ∷ []) ≡ true
checked_write_numbers mode report buffer =
    checked_ways mode report buffer (λ o. among o.answer.number numbers ≡ true) refl refl refl refl
    (among_pass (λ x. among x numbers) (DONE ∷ BADMODE ∷ TOOLONG ∷ NOROOM ∷ []) refl (written mode (with_fcs report) buffer).answer.number
    (write_numbers mode (with_fcs report) buffer))
  where
    numbers : List ℕ
    numbers = DONE ∷ BADMODE ∷ TOOLONG ∷ NOROOM ∷ TOOFEW ∷ ALLZERO ∷ []

-- A refused reading: n, count, gap and polarity 0, report buffer unchanged.
pub checked_read_refused : (mode : ℕ) (chips buffer : List ℕ) → ((read_checked_of mode chips buffer).answer.number ≡ DONE → ⊥)
    → ((read_checked_of mode chips buffer).answer.n ≡ 0) × ((read_checked_of mode chips buffer).answer.count ≡ 0)
    × ((read_checked_of mode chips buffer).answer.gap ≡ 0) × ((read_checked_of mode chips buffer).answer.polarity ≡ 0)
    × ((read_checked_of mode chips buffer).buffer ≡ buffer)
checked_read_refused mode chips buffer = leaves (checked_answer (answer_at mode (length buffer) chips)) buffer

-- The reader gives back one of these numbers.
pub checked_read_numbers : (mode : ℕ) (chips buffer : List ℕ)
    → among (read_checked_of mode chips buffer).answer.number
    (DONE ∷ BADMODE ∷ NOROOM ∷ RUNOUT ∷ NOCHIP ∷ LOST ∷ PREAMBLE ∷ BADSTART ∷ TOOFEW ∷ BADCHECK ∷ ALLZERO ∷ []) ≡ true
unfolding told checked_answer
checked_read_numbers mode chips buffer = go (answer_at mode (length buffer) chips) (read_numbers mode chips buffer)
  where
    numbers : List ℕ
    numbers = DONE ∷ BADMODE ∷ NOROOM ∷ RUNOUT ∷ NOCHIP ∷ LOST ∷ PREAMBLE ∷ BADSTART ∷ TOOFEW ∷ BADCHECK ∷ ALLZERO ∷ []

    plain : List ℕ
    plain = DONE ∷ BADMODE ∷ NOROOM ∷ RUNOUT ∷ NOCHIP ∷ LOST ∷ PREAMBLE ∷ BADSTART ∷ []

    go : (a : Answer) → among (told a).number plain ≡ true → among (told (checked_answer a)).number numbers ≡ true
    go (refused x place) f = among_pass (λ y. among y numbers) plain refl x f
    go (done place report count gap polarity) f =
        by_pick (λ (a : Answer). among (told a).number numbers ≡ true) (eqb (check_of report) DONE) _ _ (λ _. refl)
        (λ _. among_pass (λ y. among y numbers) (DONE ∷ TOOFEW ∷ BADCHECK ∷ ALLZERO ∷ []) refl (check_of report) (check_numbers report))

-- the first of zeros are zeros
zeros_front : (xs ys : List ℕ) → xs ++ ys ≡ replicate (length (xs ++ ys)) 0 → xs ≡ replicate (length xs) 0
zeros_front [] ys e = refl
zeros_front (x ∷ xs) ys e =
    let h : x ≡ 0 = ap (λ (l : List ℕ). get_or l 0 0) e in
    rw h (ap (λ (l : List ℕ). 0 ∷ l) (zeros_front xs ys (ap (drop 1) e)))

-- a report of at most 125 octets, with its FCS, is one
pub with_report : (report : List ℕ) → Below 256 report → length report ≤ 125 → Report (with_fcs report)
with_report report p short =
    record { short = omega (arith, with_long report); octets = below_at 256 (with_fcs report) (with_below report p) }

-- With room for both, what the checked writer wrote the checked reader reads, FCS included: of
-- every report of 1 to 125 octets that aren't all 0.
module _ (mode : ℕ) (k : known mode ≡ true) (report : List ℕ) (octets : Below 256 report) (one : 1 ≤ length report) (short : length report ≤ 125)
    (some : report ≡ replicate (length report) 0 → ⊥) where
  -- with its FCS it passes
  with_passes : Passes (with_fcs report)
  with_passes =
      record {
        long = omega (arith, with_long report);
        ends = ap with_fcs (sym (with_body report));
        some = λ e. some (zeros_front report (fcs_octets report) e);
      }

  -- Each frame of it with its FCS, followed by anything, is read, with that frame's polarity.
  pub checked_reads_frames : (form : Form) → OneOf (forms (radio_of mode)) form → (more buffer : List ℕ) → length report + 2 ≤ length buffer
      → read_checked_of mode (frame_with (radio_of mode) form (with_fcs report) ++ more) buffer
      ≡ success mode buffer (with_fcs report) 0 (apart_in mode) form.polarity
  checked_reads_frames form m more buffer l =
      (checked_done mode (frame_with (radio_of mode) form (with_fcs report) ++ more) buffer (with_fcs report) 0 (apart_in mode) form.polarity).1
      (reads_frames mode k (with_fcs report) (with_report report octets short) form m more buffer (omega (arith, with_long report)), with_passes)

  pub checked_read_back : (chips buffer : List ℕ) → length (frame (radio_of mode) (with_fcs report)) ≤ length chips → length report + 2 ≤ length buffer
      → read_checked_of mode (written_checked mode report chips).buffer buffer ≡ success mode buffer (with_fcs report) 0 (apart_in mode) 0
  checked_read_back chips buffer h l =
      rw (write_whole mode k chips report one short some)
      ((checked_done mode (written mode (with_fcs report) chips).buffer buffer (with_fcs report) 0 (apart_in mode) 0).1
      (read_back mode k (with_fcs report) chips buffer (with_report report octets short) h (omega (arith, with_long report)), with_passes))

-- ---- asked after take

-- an answer that is done
asked : (a : Answer) → Told a → (buffer : List ℕ) → (told a).number ≡ DONE
    → (told (checked_answer a)).number ≡ check_of (take (told a).n (left a buffer))
unfolding checked_answer told left
asked (refused x place) f buffer e = absurd (f e)
asked (done place report count gap polarity) f buffer e =
    let same : take (length report) (report ++ drop (length report) buffer) ≡ report = take_at report (drop (length report) buffer) (length report) refl in
    by_test (eqb (check_of report) DONE) (λ t. rw (t, same) (sym (eqb-true (check_of report) DONE t))) (λ g. rw (g, same))

-- What the tests say of a report that the plain reader stored is the checked reader's number.
pub check_after_read : (mode : ℕ) (chips buffer : List ℕ) → (read_of mode chips buffer).answer.number ≡ DONE
    → (read_checked_of mode chips buffer).answer.number ≡ check_of (take (read_of mode chips buffer).answer.n (read_of mode chips buffer).buffer)
check_after_read mode chips buffer = asked (answer_at mode (length buffer) chips) (answer_told mode (length buffer) chips) buffer

-- And so is what they say of a report that take gave, after the buffer's symbols in order, whatever
-- calls that answered 10, 11 or 12 came between.
pub check_after_take : (mode : ℕ) (chips buffer : List ℕ) → length buffer ≡ 127 → (xs : List Call)
    → counted (start_of mode).receiver xs ≡ in_order (start_of mode).receiver (whole (radio_of mode) chips)
    → (take_of (after (start_of mode).receiver xs) buffer).answer.number ≡ DONE
    → (read_checked_of mode chips buffer).answer.number
    ≡ check_of (take (take_of (after (start_of mode).receiver xs) buffer).answer.n (take_of (after (start_of mode).receiver xs) buffer).buffer)
check_after_take mode chips buffer l xs e d =
    let s = steps_read mode chips buffer l xs e in
    check_after_read mode chips buffer (ap (λ (o : Outcome Reading). o.answer.number) (sym s) ∙ d)
    ∙ ap (λ (o : Outcome Reading). check_of (take o.answer.n o.buffer)) (sym s)
