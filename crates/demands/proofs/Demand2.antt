-- Demand 2. With room, each frame of a report of at most 127 octets, followed by anything, reads
-- back as that report with count 0, for every sound radio. And in a mode that has a radio: what the
-- writer wrote, the reader reads, with the least distance of two words as its gap, and so it reads
-- each of the report's frames, with that frame's polarity. And frames of a report that were sent in
-- two ways are two. Assumes nothing.
use mathlib.Core.Path.{◌≡◌, refl, sym, ap, ap₂, ◌∙◌, subst}
use mathlib.Core.Bool.{true, false}
use mathlib.Core.List.{List, ◌++◌}
use Prim.Native.Nat.{ℕ, ◌≤◌, ◌<◌}
use native.Mathlib.Omega.{arith}
use lib.ListN.{length, drop, length-append}
use lib.Seq.{take-length, take-append_seam}
use borrow.Author.Tests.{le-ltb}
use Rattle.codes.specs.Chips.{bad}
use Rattle.codes.specs.Radio.{Radio, Sound, known, radio_of}
use Rattle.codes.proofs.Facts.{sound}
use Rattle.frame.specs.declared.Written.{Written}
use Rattle.frame.specs.Outcome.{Outcome, outcome}
use Rattle.frame.specs.Frame.{Form, plain, frame, frame_with}
use Rattle.frame.specs.Write.{written}
use Rattle.frame.proofs.Count.{bpsk_chips, oqpsk_chips, lowband_chips}
use Rattle.order.specs.Order.{window}
use Rattle.reader.specs.Read.{read_of}
use Rattle.demands.specs.Words.{Report, forms, frames, OneOf, apart_in, Answers, Near, success}
use Rattle.demands.proofs.Demand1.{write_no_room}
use Rattle.demands.proofs.Demand3.{demand_3, near_form}
use Rattle.demands.proofs.Repair.{distance_self}
use Rattle.demands.proofs.Forms.{in_forms, plain_proper, one_of}
use Rattle.demands.proofs.Frames.{frame_good, near_same, member_good}
use Rattle.demands.proofs.HowClose.{written_gap, spaced}
use Rattle.demands.proofs.Reader.{reads_report}

-- a frame is near itself
near_self : (r : Radio) (sent : List ℕ) → bad sent ≡ false → Near r sent sent 0
near_self r sent good =
    record {
      long = omega arith;
      chip = rw take-length good;
      near = λ s h. omega (arith, distance_self (window r sent s));
      sum = rw (take-length sent) (sym (distance_self sent));
    }

-- and so is one followed by anything
near_more : (r : Radio) (sent more : List ℕ) → bad sent ≡ false → Near r (sent ++ more) sent 0
near_more r sent more good =
    near_same r sent (sent ++ more) sent 0 (omega (arith, length-append sent more)) (take-length sent ∙ sym (take-append_seam sent more))
    (near_self r sent good)

-- With room, each of a report's frames followed by anything is answered with that report and
-- count 0.
pub demand_2 : (r : Radio) → Sound r → (room : ℕ) (report sent more : List ℕ) → Report report → OneOf (frames r report) sent → length report ≤ room
    → Answers r room (sent ++ more) report 0
demand_2 r S room report sent more p m h =
    (demand_3 r S room (sent ++ more) report 0 h).1 (p, record { frame = sent; member = m; near = near_more r sent more (member_good r S report sent m) })

-- And so of the reader, whatever form the frame was sent in: with that form's polarity.
pub reads_frames : (mode : ℕ) → known mode ≡ true → (report : List ℕ) → Report report → (form : Form) → OneOf (forms (radio_of mode)) form
    → (more buffer : List ℕ) → length report ≤ length buffer
    → read_of mode (frame_with (radio_of mode) form report ++ more) buffer ≡ success mode buffer report 0 (apart_in mode) form.polarity
reads_frames mode k report p form m more buffer l =
    let r = radio_of mode in
    let sent = frame_with r form report in
    let near = near_more r sent more (frame_good r (sound mode) form report) in
    (reads_report mode k (sent ++ more) buffer report 0 l).1 (p, record { frame = sent; member = one_of r report form m; near = near })
    ∙ ap₂ (success mode buffer report 0)
    (written_gap r (sound mode) report sent (form, m, refl) (apart_in mode) (spaced mode) more)
    (ap (λ (f : Form). f.polarity) (near_form r (sound mode) (sent ++ more) report 0 p form m near))

-- Frames of a report that were sent in two ways are not the same one: chips that are the one have
-- its bit and its polarity.
pub two_frames : (r : Radio) → Sound r → (report : List ℕ) → Report report → (f g : Form) → OneOf (forms r) f → OneOf (forms r) g
    → frame_with r f report ≡ frame_with r g report → f ≡ g
two_frames r S report p f g k l e =
    let n = near_self r (frame_with r f report) (frame_good r S f report) in
    sym (near_form r S (frame_with r f report) report 0 p f k n)
    ∙ near_form r S (frame_with r f report) report 0 p g l (subst (λ (h : List ℕ). Near r (frame_with r f report) h 0) e n)

-- The writer, of a report of at most 127 octets into a buffer that its frame fits: the number of
-- its chips, the frame at the front, and the later bytes as they were.
pub written_frame : (mode : ℕ) → known mode ≡ true → (report chips : List ℕ) → length report ≤ 127 → length (frame (radio_of mode) report) ≤ length chips
    → written mode report chips
    ≡ outcome (record { number = 0; chips = length (frame (radio_of mode) report) })
    (frame (radio_of mode) report ++ drop (length (frame (radio_of mode) report)) chips)
unfolding written
written_frame mode k report chips l h =
    rw (k, le-ltb 127 (length report) l, le-ltb (length chips) (length (frame (radio_of mode) report)) h)

-- The longest report in numerals: 15,960, 8,512 and 4,256 chips in modes 0, 1 and 2, and into a
-- buffer that is shorter 3.
module _ (report chips : List ℕ) (e : length report ≡ 127) where
  abbrev Longest : ℕ → ℕ → Type 0
  Longest mode m =
      (m ≤ length chips → (written mode report chips).answer ≡ record { number = 0; chips = m })
      × (length chips < m → written mode report chips ≡ outcome (record { number = 3; chips = 0 }) chips)

  longest : (mode : ℕ) → known mode ≡ true → (m : ℕ) → length (frame (radio_of mode) report) ≡ m → Longest mode m
  longest mode k m l = (
    λ h. ap (λ (o : Outcome Written). o.answer) (written_frame mode k report chips (omega (arith, e)) (omega (arith, l)))
        ∙ ap (λ (n : ℕ). record { number = 0; chips = n }) l,
    λ h. write_no_room mode k report chips (omega (arith, e)) (omega (arith, l)),
  )

  pub written_longest : Longest 0 15960 × Longest 1 8512 × Longest 2 4256
  written_longest = (
    longest 0 refl 15960 (bpsk_chips plain report ∙ omega (arith, e)),
    longest 1 refl 8512 (oqpsk_chips plain report ∙ omega (arith, e)),
    longest 2 refl 4256 (lowband_chips plain report ∙ omega (arith, e)),
  )

-- With room for both, what the writer wrote the reader reads.
pub read_back : (mode : ℕ) → known mode ≡ true → (report chips buffer : List ℕ) → Report report → length (frame (radio_of mode) report) ≤ length chips
    → length report ≤ length buffer
    → read_of mode (written mode report chips).buffer buffer ≡ success mode buffer report 0 (apart_in mode) 0
read_back mode k report chips buffer p h l =
    let f = frame (radio_of mode) report in
    ap (λ (o : Outcome Written). read_of mode o.buffer buffer) (written_frame mode k report chips p.short h)
    ∙ reads_frames mode k report p plain (in_forms (radio_of mode) plain (plain_proper (radio_of mode))) (drop (length f) chips) buffer l
