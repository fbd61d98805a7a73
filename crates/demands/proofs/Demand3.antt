-- Demand 3. With room, the reading answers a report and a count exactly when the buffer begins
-- with 0/1 chips that differ from one of that report's frames in at most the limit of places of
-- each symbol, and the count is the distance of the whole prefix from that whole frame. For every
-- sound radio, both directions; that it is a report (at most 127 numbers below 256) is concluded in
-- one and supposed in the other. That frame is the one which symbol 0 and the length octet's
-- symbols read as, the polarity is that frame's, and the chips are near no other. Besides: the
-- count is the sum of the differences in the symbols' windows, the gap is the least over these, the
-- place of an answer is the number of the frame's symbols, an answered report has room, and without
-- room it is 3. Assumes nothing.
use mathlib.Core.Path.{◌≡◌, sym, ap, ap₂, ◌∙◌, subst}
use mathlib.Core.Logic.{◌↔◌}
use mathlib.Core.List.{List, []}
use Prim.Native.Nat.{ℕ, ◌-◌, ◌*◌, ◌≤◌, ◌<◌}
use lib.ListN.{length, take}
use Rattle.codes.specs.Numbers.{NOROOM}
use Rattle.codes.specs.Radio.{Radio, Sound}
use Rattle.frame.specs.Frame.{per_octet, Form, symbols, frame_with}
use Rattle.frame.proofs.Count.{symbols_same}
use Rattle.order.specs.Order.{refused, done, whole, smallest_gap, reading_from, reading}
use Rattle.order.proofs.Windows.{seen}
use Rattle.demands.specs.Words.{Report, forms, frames, OneOf, form_in, frame_read, polarity_in, frame_gap, Answers, Near, NearOne, differences}
use Rattle.demands.proofs.Frames.{sum_of_windows}
use Rattle.demands.proofs.Forms.{proper, in_forms, one_of, Sent, sent_as}
use Rattle.demands.proofs.Ended.{reading_heard}
use Rattle.demands.proofs.Answered.{form_read, windows_answer, windows_short}
use Rattle.demands.proofs.Close.{stands_near, stands_gap, near_stands}

module _ (r : Radio) (S : Sound r) (room : ℕ) (chips report : List ℕ) (count : ℕ) where
  pub answer_place : (place gap polarity : ℕ) → reading r room chips ≡ done place report count gap polarity → place ≡ length (symbols r report)
  unfolding reading
  answer_place place gap polarity e = (reading_heard r S room (whole r chips) place count gap polarity report e).at

  -- The gap of an answer is the least, over the windows of the frame's symbols, of the next-nearest
  -- word's distance less the nearest's.
  pub answer_gap : (place gap polarity : ℕ) → reading r room chips ≡ done place report count gap polarity → gap ≡ frame_gap r chips report
  unfolding reading
  answer_gap place gap polarity e =
      let H = reading_heard r S room (whole r chips) place count gap polarity report e in
      H.closest ∙ ap (λ (k : ℕ). smallest_gap (take k (seen r (whole r chips)))) H.at ∙ stands_gap r S chips (form_in r (whole r chips)) report count H.row

  -- Its polarity is that of the chips.
  pub answer_polarity : (place gap polarity : ℕ) → reading r room chips ≡ done place report count gap polarity → polarity ≡ polarity_in r chips
  unfolding reading
  answer_polarity place gap polarity e = (reading_heard r S room (whole r chips) place count gap polarity report e).start

  -- so the reading answers a report and a count, whatever its place, gap and polarity are
  pub answers_done : (place gap polarity : ℕ) → reading r room chips ≡ done place report count gap polarity → Answers r room chips report count
  answers_done place gap polarity e =
      e ∙ ap₂ (λ p g. done p report count g polarity) (answer_place place gap polarity e) (answer_gap place gap polarity e)
      ∙ ap (done (length (symbols r report)) report count (frame_gap r chips report)) (answer_polarity place gap polarity e)

  pub answer_room : Answers r room chips report count → length report ≤ room
  unfolding reading
  answer_room a = (reading_heard r S room (whole r chips) _ count _ _ report a).fits

  -- nearness to one of the frames, in the words of its form
  as_frame : (N : NearOne r chips report count) (form : Form) → N.frame ≡ frame_with r form report → Near r chips (frame_with r form report) count
  as_frame N form e = subst (λ (f : List ℕ). Near r chips f count) e N.near

  -- They were sent in one of the radio's forms ..
  pub answer_form : Answers r room chips report count → OneOf (forms r) (form_in r (whole r chips))
  unfolding reading
  answer_form a = in_forms r (form_in r (whole r chips)) (reading_heard r S room (whole r chips) (length (symbols r report)) count _ _ report a).form

  -- .. and the chips are near that one of the report's frames which they read as.
  pub answer_frame : Answers r room chips report count → OneOf (frames r report) (frame_read r chips report) × Near r chips (frame_read r chips report) count
  unfolding reading
  answer_frame a =
      let form = form_in r (whole r chips) in
      let H = reading_heard r S room (whole r chips) (length (symbols r report)) count _ _ report a in
      (one_of r report form (answer_form a), stands_near r S chips form report count H.row)

  pub demand_3 : length report ≤ room → Answers r room chips report count ↔ (Report report × NearOne r chips report count)
  unfolding reading
  demand_3 h = (
    λ a. let n = answer_frame a in (
      (reading_heard r S room (whole r chips) _ count _ _ report a).proper,
      record { frame = frame_read r chips report; member = n.0; near = n.1 },
    ),
    λ n. go n.0 n.1 (sent_as r report n.1.frame n.1.member),
  )
    where
      go : Report report → (N : NearOne r chips report count) → Sent r report N.frame → Answers r room chips report count
      go p N (form, m, e) =
          let T = near_stands r S chips form report count (as_frame N form e) in
          let F = proper r form m in
          windows_answer r S (whole r chips) form F report p count T room h
          ∙ ap₂ (done (length (symbols r report)) report count) (stands_gap r S chips form report count T)
          (ap (λ (f : Form). f.polarity) (sym (form_read r S (whole r chips) form F report p count T)))

  -- With too little room such chips are refused with 3, on the last symbol of the length octet.
  pub no_room : room < length report → Report report → NearOne r chips report count → reading r room chips ≡ refused NOROOM (6 * per_octet r - 1)
  unfolding reading
  no_room h p n = go (sent_as r report n.frame n.member)
    where
      go : Sent r report n.frame → reading_from r room [] (whole r chips) ≡ refused NOROOM (6 * per_octet r - 1)
      go (form, m, e) =
          windows_short r S (whole r chips) form (proper r form m) report p count (near_stands r S chips form report count (as_frame n form e)) room h

  -- the count of an answer is the sum over the symbols' windows
  pub count_of_windows : Answers r room chips report count → count ≡ differences r chips (frame_read r chips report) (length (symbols r report))
  count_of_windows a =
      let n = (answer_frame a).1 in
      let form = form_in r (whole r chips) in
      n.sum ∙ sum_of_windows r S form report chips n.long ∙ ap (differences r chips (frame_read r chips report)) (symbols_same r form report)

-- Chips near a frame of a report have its reserved bit and its polarity.
pub near_form : (r : Radio) → Sound r → (chips report : List ℕ) (count : ℕ) → Report report → (form : Form) → OneOf (forms r) form
    → Near r chips (frame_with r form report) count → form_in r (whole r chips) ≡ form
near_form r S chips report count p form m n = form_read r S (whole r chips) form (proper r form m) report p count (near_stands r S chips form report count n)

-- So their polarity is that frame's ..
pub near_polarity : (r : Radio) → Sound r → (chips report frame : List ℕ) (count : ℕ) → Report report → (m : OneOf (frames r report) frame)
    → Near r chips frame count → polarity_in r chips ≡ (sent_as r report frame m).0.polarity
near_polarity r S chips report frame count p m n =
    let f = sent_as r report frame m in
    ap (λ (form : Form). form.polarity) (near_form r S chips report count p f.0 f.1 (subst (λ (g : List ℕ). Near r chips g count) f.2 n))

-- .. and it is the one that they read as.
pub near_read : (r : Radio) → Sound r → (chips report frame : List ℕ) (count : ℕ) → Report report → OneOf (frames r report) frame → Near r chips frame count
    → frame ≡ frame_read r chips report
near_read r S chips report frame count p m n = go (sent_as r report frame m)
  where
    go : Sent r report frame → frame ≡ frame_read r chips report
    go (form, m, e) =
        e ∙ ap (λ (f : Form). frame_with r f report) (sym (near_form r S chips report count p form m (subst (λ (f : List ℕ). Near r chips f count) e n)))
