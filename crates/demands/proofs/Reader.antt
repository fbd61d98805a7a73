-- Demand 3 of the reader's whole outcome, answer and report buffer, in a mode that has a radio:
-- what is shown of the reading is so of the reader; its gap is the least over the frame's windows,
-- and how small it can be; its polarity is that of the frame which the chips are near; putting a
-- wrong chip right lowers its count by one, and not its gap; no frame that it accepts holds a flat
-- symbol; a reader that gives number 0 has read a report; a reader that gives another refuses by
-- the reading order; and a report is read alike into any buffer with room, and is 3 without.
-- Assumes nothing.
use mathlib.Core.Path.{◌≡◌, refl, sym, ap, ◌∙◌}
use mathlib.Core.Logic.{◌↔◌}
use mathlib.Core.Bool.{true}
use mathlib.Core.List.{List, ◌++◌}
use Prim.Native.Nat.{ℕ, suc, ◌-◌, ◌*◌, ◌≤◌, ◌<◌}
use native.Mathlib.Omega.{arith}
use lib.ListN.{length, get_or, set, take, drop, replicate}
use lib.Seq.{take_at}
use Rattle.codes.specs.Numbers.{DONE, NOROOM}
use Rattle.codes.specs.Radio.{known, radio_of}
use Rattle.codes.specs.Symbol.{nearest, next_nearest}
use Rattle.codes.proofs.Facts.{sound, unflat}
use Rattle.frame.specs.Outcome.{Outcome}
use Rattle.frame.specs.Frame.{per_octet, Form, symbols, frame_with}
use Rattle.reader.specs.declared.Reading.{Reading}
use Rattle.order.specs.Order.{Answer, refused, done, window, reading}
use Rattle.reader.specs.Read.{told, left, answer_at, answered, read_of}
use Rattle.demands.specs.Words.{Report, forms, frames, OneOf, polarity_in, frame_gap, apart_in, Answers, Near, NearOne, success, tells}
use Rattle.demands.specs.Refusals.{Refuses}
use Rattle.reader.proofs.Fair.{Told, answer_told, Fair, answer_fair, done_unfair}
use Rattle.demands.proofs.Demand3.{answer_gap, answer_polarity, answers_done, answer_room, answer_frame, demand_3, no_room, near_form}
use Rattle.demands.proofs.Forms.{sent_as}
use Rattle.demands.proofs.Frames.{some_symbols}
use Rattle.demands.proofs.Gaps.{gap_le, gap_at_lem}
use Rattle.demands.proofs.HowClose.{near_gap, spaced}
use Rattle.demands.proofs.PutRight.{put_right}
use Rattle.demands.proofs.NoFlat.{no_flat}
use Rattle.demands.proofs.Refused.{refused_order}

-- an answer told so is this report's
pub told_done : (mode : ℕ) (buffer report : List ℕ) (count gap polarity : ℕ) (a : Answer) → Told a
    → answered a buffer ≡ success mode buffer report count gap polarity → a ≡ done (length (symbols (radio_of mode) report)) report count gap polarity
unfolding told left
told_done mode buffer report count gap polarity (refused x place) f e = absurd (f (ap (λ (o : Outcome Reading). o.answer.number) e))
told_done mode buffer report count gap polarity (done place other c g p) f e =
    let l : length other ≡ length report = ap (λ (o : Outcome Reading). o.answer.n) e in
    let b : other ++ drop (length other) buffer ≡ report ++ drop (length report) buffer = ap (λ (o : Outcome Reading). o.buffer) e in
    let same : other ≡ report =
    sym (take_at other (drop (length other) buffer) (length report) l)
    ∙ ap (take (length report)) b ∙ take_at report (drop (length report) buffer) (length report) refl in
    rw (
      ap (λ (o : Outcome Reading). o.answer.place) e,
      ap (λ (o : Outcome Reading). o.answer.count) e,
      ap (λ (o : Outcome Reading). o.answer.gap) e,
      ap (λ (o : Outcome Reading). o.answer.polarity) e,
      same,
    )

module _ (mode : ℕ) (k : known mode ≡ true) (chips buffer report : List ℕ) (count : ℕ) where
  abbrev gap : ℕ
  gap = frame_gap (radio_of mode) chips report

  abbrev polarity : ℕ
  polarity = polarity_in (radio_of mode) chips

  -- The reader's outcome is this report's and count's, with whatever gap and polarity, only when
  -- the reading answers them; and then the gap is the least over the frame's windows, and the
  -- polarity that of the chips.
  pub success_done : (g p : ℕ) → read_of mode chips buffer ≡ success mode buffer report count g p
      → Answers (radio_of mode) (length buffer) chips report count × (g ≡ gap) × (p ≡ polarity)
  unfolding answer_at told left
  success_done g p o =
      let e : read_of mode chips buffer ≡ answered (reading (radio_of mode) (length buffer) chips) buffer = rw k in
      let d =
      told_done mode buffer report count g p (reading (radio_of mode) (length buffer) chips) (rw k at (answer_told mode (length buffer) chips)) (sym e ∙ o) in (
        answers_done (radio_of mode) (sound mode) _ chips report count _ g p d,
        answer_gap (radio_of mode) (sound mode) _ chips report count _ g p d,
        answer_polarity (radio_of mode) (sound mode) _ chips report count _ g p d,
      )

  -- It is so, with that gap and that polarity, exactly when the reading answers them.
  pub success_answers : (read_of mode chips buffer ≡ success mode buffer report count gap polarity) ↔ Answers (radio_of mode) (length buffer) chips report count
  unfolding answer_at told left
  success_answers =
      let e : read_of mode chips buffer ≡ answered (reading (radio_of mode) (length buffer) chips) buffer = rw k in
      (λ o. (success_done gap polarity o).0, λ q. e ∙ ap (λ (b : Answer). answered b buffer) q)

  -- With room, it is so exactly when the chips are near one of the report's frames with that count.
  pub reads_report : length report ≤ length buffer → (read_of mode chips buffer ≡ success mode buffer report count gap polarity)
      ↔ (Report report × NearOne (radio_of mode) chips report count)
  reads_report h =
      let d = demand_3 (radio_of mode) (sound mode) (length buffer) chips report count h in
      (λ o. d.0 (success_answers.0 o), λ n. success_answers.1 (d.1 n))

  -- With too little room it is then 3, on the last symbol of the length octet, with nothing stored.
  pub reads_no_room : length buffer < length report → Report report → NearOne (radio_of mode) chips report count
      → read_of mode chips buffer ≡ tells NOROOM (6 * per_octet (radio_of mode) - 1) buffer
  unfolding answer_at told left
  reads_no_room h p n =
      rw (k, no_room (radio_of mode) (sound mode) (length buffer) chips report count h p n)

-- A report that the reader answers.
module _ (mode : ℕ) (k : known mode ≡ true) (chips buffer report : List ℕ) (count gap polarity : ℕ)
    (o : read_of mode chips buffer ≡ success mode buffer report count gap polarity) where
  answers : Answers (radio_of mode) (length buffer) chips report count
  answers = (success_done mode k chips buffer report count gap polarity o).0

  -- Its gap is the least over the windows of the frame's symbols ..
  pub reads_gap : gap ≡ frame_gap (radio_of mode) chips report
  reads_gap = (success_done mode k chips buffer report count gap polarity o).1

  -- .. so no symbol of the frame has a smaller one, and one has just it ..
  pub reads_gap_of : ((s : ℕ) → s < length (symbols (radio_of mode) report)
      → gap ≤ next_nearest (radio_of mode) (window (radio_of mode) chips s) - nearest (radio_of mode) (window (radio_of mode) chips s))
      × ((s : ℕ) × (s < length (symbols (radio_of mode) report))
      × (next_nearest (radio_of mode) (window (radio_of mode) chips s) - nearest (radio_of mode) (window (radio_of mode) chips s) ≡ gap))
  reads_gap_of =
      let r = radio_of mode in
      let n = length (symbols r report) in
      let t = gap_at_lem r chips n (some_symbols r (sound mode) report) in
      (λ s h. rw reads_gap (gap_le r chips n s h), (t.0, t.1, t.2 ∙ sym reads_gap))

  -- .. and at least the least distance of two words less twice the limit.
  pub reads_gap_least : apart_in mode - 2 * (radio_of mode).limit ≤ gap
  reads_gap_least =
      let n = answer_frame (radio_of mode) (sound mode) (length buffer) chips report count answers in
      rw reads_gap
      (near_gap (radio_of mode) (sound mode) report _ (sent_as (radio_of mode) report _ n.0) chips count n.1 (apart_in mode)
      (λ v h. omega (arith, spaced mode v h)))

  -- Its polarity is that of the frame which the chips are near: of whichever form a frame of the
  -- report near them is, of that one's.
  pub reads_polarity : (form : Form) → OneOf (forms (radio_of mode)) form → (c : ℕ) → Near (radio_of mode) chips (frame_with (radio_of mode) form report) c
      → polarity ≡ form.polarity
  reads_polarity form m c n =
      let l = answer_room (radio_of mode) (sound mode) (length buffer) chips report count answers in
      let p = ((demand_3 (radio_of mode) (sound mode) (length buffer) chips report count l).0 answers).0 in
      (success_done mode k chips buffer report count gap polarity o).2
      ∙ ap (λ (f : Form). f.polarity) (near_form (radio_of mode) (sound mode) chips report c p form m n)

  -- One wrong chip of the frame that it was read off put right: the same report and polarity, a
  -- count one less, and no smaller a gap.
  pub reads_put_right : (frame : List ℕ) → OneOf (frames (radio_of mode) report) frame → Near (radio_of mode) chips frame count
      → (i : ℕ) → i < length frame → (get_or chips i 0 ≡ get_or frame i 0 → ⊥)
      → (c g : ℕ) × (count ≡ suc c) × (gap ≤ g) × (read_of mode (set chips i (get_or frame i 0)) buffer ≡ success mode buffer report c g polarity)
  reads_put_right frame m near i h w =
      let n = put_right (radio_of mode) (sound mode) (length buffer) chips report count answers frame m near i h w in
      let others = set chips i (get_or frame i 0) in
      let e : polarity_in (radio_of mode) others ≡ polarity = n.4 ∙ sym (success_done mode k chips buffer report count gap polarity o).2 in (
        n.0,
        frame_gap (radio_of mode) others report,
        n.1,
        rw reads_gap n.3,
        (success_answers mode k others buffer report n.0).1 n.2 ∙ ap (success mode buffer report n.0 (frame_gap (radio_of mode) others report)) e,
      )

  -- No symbol of its frame is all 0 or all 1.
  pub reads_no_flat : (s : ℕ) → s < length (symbols (radio_of mode) report) → (c : ℕ) → c ≤ 1
      → window (radio_of mode) chips s ≡ replicate (radio_of mode).size c → ⊥
  reads_no_flat = no_flat (radio_of mode) (sound mode) (unflat mode) (length buffer) chips report count answers

-- A reader that gives number 0 has read a report, which had room.
module _ (mode : ℕ) (k : known mode ≡ true) (chips buffer : List ℕ) where
  abbrev Success : Type 0
  Success = (report : List ℕ) × (count gap polarity : ℕ) × (length report ≤ length buffer)
      × (read_of mode chips buffer ≡ success mode buffer report count gap polarity)

  pub reads_done : (read_of mode chips buffer).answer.number ≡ DONE → Success
  unfolding answer_at told
  reads_done e = go (reading (radio_of mode) (length buffer) chips) refl (answer_fair (radio_of mode) (length buffer) chips) (rw k at e)
    where
      go : (a : Answer) → reading (radio_of mode) (length buffer) chips ≡ a → Fair a → (told a).number ≡ DONE → Success
      go (refused x place) q f n = absurd (done_unfair x n f)
      go (done place report count gap polarity) q f n =
          let a = answers_done (radio_of mode) (sound mode) (length buffer) chips report count place gap polarity q in
          let room = answer_room (radio_of mode) (sound mode) (length buffer) chips report count a in
          (report, count, _, _, room, (success_answers mode k chips buffer report count).1 a)

-- The reader refuses with a number at a symbol, and leaves all else as listed, just where the
-- symbols before it read on and that is wrong with it.
pub reads_refused : (mode : ℕ) → known mode ≡ true → (chips buffer : List ℕ) (x s : ℕ) → (x ≡ DONE → ⊥)
    → (read_of mode chips buffer ≡ tells x s buffer) ↔ Refuses (radio_of mode) (length buffer) chips x s
unfolding answer_at told left
reads_refused mode k chips buffer x s n =
    let q = refused_order (radio_of mode) (sound mode) (length buffer) chips x s in
    (λ o. q.0 (go (reading (radio_of mode) (length buffer) chips) (rw k at o)), λ R. rw (k, q.1 R))
  where
    go : (a : Answer) → answered a buffer ≡ tells x s buffer → a ≡ refused x s
    go (refused y place) e = rw (ap (λ (o : Outcome Reading). o.answer.number) e, ap (λ (o : Outcome Reading). o.answer.place) e)
    go (done place report count gap polarity) e = absurd (n (sym (ap (λ (o : Outcome Reading). o.answer.number) e)))

-- A report read into one buffer with room is read into any other with room, with the same answer.
pub other_buffer : (mode : ℕ) → known mode ≡ true → (chips b c report : List ℕ) (count gap polarity : ℕ) → length report ≤ length b
    → length report ≤ length c → read_of mode chips b ≡ success mode b report count gap polarity → read_of mode chips c ≡ success mode c report count gap polarity
other_buffer mode k chips b c report count gap polarity h l e =
    let d = success_done mode k chips b report count gap polarity e in
    rw (d.1, d.2) ((reads_report mode k chips c report count l).1 ((reads_report mode k chips b report count h).0 (rw (d.1, d.2) at e)))
