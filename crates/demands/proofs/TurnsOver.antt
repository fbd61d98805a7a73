-- What the polarity and the reserved bit do to the chips of a chained radio whose two words are
-- each other's inverse, as mode 0's are. Sent the other way round, every chip of a frame is
-- inverted. With the bit set, the frame is the same before the bit's symbol, number 47, and from
-- there on each chip is inverted, since the chain has turned over. So a report's frames are four in
-- mode 0, and two in the others. Assumes nothing.
use mathlib.Core.Path.{◌≡◌, refl, sym, ap, ap₂, ◌∙◌}
use mathlib.Core.Bool.{true}
use mathlib.Core.List.{List, [], ◌∷◌, ◌++◌, append_assoc, map-append}
use Prim.Native.Nat.{ℕ, zero, suc, ◌+◌, ◌-◌, ◌*◌, ◌/◌, ◌%◌, ◌^◌, ◌≤◌}
use native.Mathlib.Omega.{arith}
use lib.ListN.{length, take, drop, length-append}
use lib.Seq.{take_at, drop_at}
use Rattle.codes.specs.Radio.{Radio, Sound, word, bpsk, oqpsk, lowband, bpsk_words}
use Rattle.codes.proofs.Facts.{sound_bpsk}
use Rattle.frame.specs.Frame.{start_octet, octets_with, per_octet, digits, raw_of, raws, sent, encode, formed, symbols_with, chips_of, frame, frame_with}
use Rattle.frame.specs.Putting.{last_sent}
use Rattle.frame.proofs.Below.{Below, below_append}
use Rattle.frame.proofs.Chain.{encode_long}
use Rattle.frame.proofs.Count.{digits_long, digits_below, raws_long, raws_below, encode_below, chips_long}
use Rattle.frame.proofs.Parts.{raws_append}
use Rattle.frame.proofs.Turns.{encode_append, chips_append}
use Rattle.demands.specs.Words.{frames, inverse, Opposite}
use Rattle.demands.proofs.Spread.{digits_add, digits_low}

-- the bits of a length octet: n's seven, then the reserved one
length_bits : (n bit : ℕ) → n ≤ 127 → bit ≤ 1 → digits 8 2 (n + 128 * bit) ≡ digits 7 2 n ++ bit ∷ []
unfolding digits
length_bits n bit h l =
    let x = n + 128 * bit in
    let low : x % 2 ^ 7 ≡ n % 2 ^ 7 = omega arith in
    let high : x / 2 ^ 7 ≡ bit = omega arith in
    let top : x / 2 ^ 7 % 2 ≡ bit = ap (λ (q : ℕ). q % 2) high ∙ omega arith in
    digits_add 7 1 x
    ∙ rw top (ap (λ (l : List ℕ). l ++ bit ∷ []) (sym (digits_low 7 x) ∙ ap (digits 7 2) low ∙ digits_low 7 n))

module _ (r : Radio) (S : Sound r) (c : r.chained ≡ true) (o : Opposite r) where
  single : r.bits ≡ 1
  single = S.single c

  two : 2 ^ r.bits ≡ 2
  two = rw single

  -- after the other value the other one is sent
  sent_inverse : (last b : ℕ) → last ≤ 1 → b ≤ 1 → sent r (1 - last) b ≡ 1 - sent r last b
  sent_inverse last b h l = rw c (omega arith)

  sent_low : (last b : ℕ) → sent r last b ≤ 1
  sent_low last b = rw c (omega arith)

  -- a chain that starts from the other value goes on with the other values
  encode_inverse : (last : ℕ) → last ≤ 1 → (bs : List ℕ) → Below 2 bs → encode r (1 - last) bs ≡ inverse (encode r last bs)
  unfolding encode
  encode_inverse last h [] p = refl
  encode_inverse last h (b ∷ bs) p =
      rw (sent_inverse last b h (omega (arith, p.0)))
      (ap (λ (vs : List ℕ). (1 - sent r last b) ∷ vs) (encode_inverse (sent r last b) (sent_low last b) bs p.1))

  -- and so do its chips
  chips_inverse : (vs : List ℕ) → Below 2 vs → chips_of r (inverse vs) ≡ inverse (chips_of r vs)
  unfolding chips_of
  chips_inverse [] p = refl
  chips_inverse (v ∷ vs) p =
      rw (o v (omega (arith, p.0)), chips_inverse vs p.1) (sym (map-append (λ (x : ℕ). 1 - x) (word r v) (chips_of r vs)))

  -- so a frame whose chain starts from 1 is inverse in every chip to the one whose chain starts
  -- from 0
  pub inverse_frame : (bit : ℕ) (report : List ℕ) → frame_with r (formed bit 1) report ≡ inverse (frame_with r (formed bit 0) report)
  unfolding frame_with symbols_with
  inverse_frame bit report =
      let bs = raws r (octets_with bit report) in
      let b : Below 2 bs = rw two at (raws_below r (octets_with bit report)) in
      ap (chips_of r) (encode_inverse 0 (omega arith) bs b)
      ∙ chips_inverse (encode r 0 bs) (rw two at (encode_below r S 0 bs (raws_below r (octets_with bit report))))

  module _ (polarity : ℕ) (report : List ℕ) (short : length report ≤ 127) where
    -- the raw symbols before the bit, and those after it
    abbrev front : List ℕ
    front = raws r (0 ∷ 0 ∷ 0 ∷ 0 ∷ start_octet ∷ []) ++ digits 7 2 (length report)

    abbrev back : List ℕ
    back = raws r report

    all : (bit : ℕ) → bit ≤ 1 → raws r (octets_with bit report) ≡ front ++ bit ∷ back
    unfolding raws
    all bit l =
        let five = raws r (0 ∷ 0 ∷ 0 ∷ 0 ∷ start_octet ∷ []) in
        let octet : raw_of r (length report + 128 * bit) ≡ digits 7 2 (length report) ++ bit ∷ [] = rw single (length_bits (length report) bit short l) in
        raws_append r (0 ∷ 0 ∷ 0 ∷ 0 ∷ start_octet ∷ []) ((length report + 128 * bit) ∷ report)
        ∙ rw octet (ap (λ (l : List ℕ). five ++ l) (append_assoc (digits 7 2 (length report)) (bit ∷ []) back)
        ∙ sym (append_assoc five (digits 7 2 (length report)) (bit ∷ back)))

    front_below : Below (2 ^ r.bits) front
    front_below =
        below_append (2 ^ r.bits) (raws r (0 ∷ 0 ∷ 0 ∷ 0 ∷ start_octet ∷ [])) (digits 7 2 (length report))
        (raws_below r (0 ∷ 0 ∷ 0 ∷ 0 ∷ start_octet ∷ [])) (rw two (digits_below 7 2 (length report) (omega arith)))

    front_long : length (chips_of r (encode r polarity front)) ≡ 47 * r.size
    front_long =
        chips_long r S (encode r polarity front) (encode_below r S polarity front front_below)
        ∙ ap (λ (n : ℕ). n * r.size) (encode_long r polarity front ∙ forty_seven)
      where
        forty_seven : length front ≡ 47
        forty_seven =
            let e = raws_long r (0 ∷ 0 ∷ 0 ∷ 0 ∷ start_octet ∷ []) in
            let per : per_octet r ≡ 8 = rw single in
            length-append (raws r (0 ∷ 0 ∷ 0 ∷ 0 ∷ start_octet ∷ [])) (digits 7 2 (length report))
            ∙ omega (arith, rw per at e, digits_long 7 2 (length report))

    -- the value before the bit's symbol
    abbrev last : ℕ
    last = last_sent r polarity front

    halves : (bit : ℕ) → bit ≤ 1 → frame_with r (formed bit polarity) report ≡ chips_of r (encode r polarity front) ++ chips_of r (encode r last (bit ∷ back))
    unfolding frame_with symbols_with
    halves bit l =
        rw (all bit l, encode_append r polarity front (bit ∷ back)) (chips_append r (encode r polarity front) (encode r last (bit ∷ back)))

    before : (bit : ℕ) → bit ≤ 1 → take (47 * r.size) (frame_with r (formed bit polarity) report) ≡ chips_of r (encode r polarity front)
    before bit l = rw (halves bit l) (take_at (chips_of r (encode r polarity front)) (chips_of r (encode r last (bit ∷ back))) (47 * r.size) front_long)

    after : (bit : ℕ) → bit ≤ 1 → drop (47 * r.size) (frame_with r (formed bit polarity) report) ≡ chips_of r (encode r last (bit ∷ back))
    after bit l = rw (halves bit l) (drop_at (chips_of r (encode r polarity front)) (chips_of r (encode r last (bit ∷ back))) (47 * r.size) front_long)

    back_below : Below 2 back
    back_below = rw two at (raws_below r report)

    -- with the bit set the chain goes on from the other value
    turned : encode r last (1 ∷ back) ≡ inverse (encode r last (0 ∷ back))
    unfolding encode
    turned =
        let e : sent r last 1 ≡ 1 - sent r last 0 = rw c (omega arith) in
        rw e (ap (λ (vs : List ℕ). (1 - sent r last 0) ∷ vs) (encode_inverse (sent r last 0) (sent_low last 0) back back_below))

    turned_below : Below 2 (encode r last (0 ∷ back))
    turned_below = rw two at (encode_below r S last (0 ∷ back) (rw two (omega arith), raws_below r report))

    pub turns_over : (take (47 * r.size) (frame_with r (formed 1 polarity) report) ≡ take (47 * r.size) (frame_with r (formed 0 polarity) report))
        × (drop (47 * r.size) (frame_with r (formed 1 polarity) report) ≡ inverse (drop (47 * r.size) (frame_with r (formed 0 polarity) report)))
    turns_over = (
      before 1 (omega arith) ∙ sym (before 0 (omega arith)),
      after 1 (omega arith) ∙ ap (chips_of r) turned ∙ chips_inverse (encode r last (0 ∷ back)) turned_below ∙ ap inverse (sym (after 0 (omega arith))),
    )

pub bpsk_opposite : Opposite bpsk
unfolding bpsk_words
bpsk_opposite zero h = refl
bpsk_opposite (suc zero) h = refl
bpsk_opposite (suc (suc v)) h = absurd (omega arith)

-- In mode 0 the two frames of a report in one polarity are the same up to chip 705, where symbol 47
-- begins, and differ in every chip from there on.
pub bpsk_turns_over : (polarity : ℕ) (report : List ℕ) → length report ≤ 127
    → (take 705 (frame_with bpsk (formed 1 polarity) report) ≡ take 705 (frame_with bpsk (formed 0 polarity) report))
    × (drop 705 (frame_with bpsk (formed 1 polarity) report) ≡ inverse (drop 705 (frame_with bpsk (formed 0 polarity) report)))
bpsk_turns_over = turns_over bpsk sound_bpsk refl bpsk_opposite

-- And a report has four frames in mode 0: the one that is written, that with the reserved bit set,
-- and the inverse of either in every chip. In the other modes it has two.
pub bpsk_frames : (report : List ℕ)
    → frames bpsk report
    ≡ frame bpsk report ∷ frame_with bpsk (formed 1 0) report ∷ inverse (frame bpsk report) ∷ inverse (frame_with bpsk (formed 1 0) report) ∷ []
bpsk_frames report =
    let i = inverse_frame bpsk sound_bpsk refl bpsk_opposite in
    ap₂ (λ (f g : List ℕ). frame bpsk report ∷ frame_with bpsk (formed 1 0) report ∷ f ∷ g ∷ []) (i 0 report) (i 1 report)

pub oqpsk_frames : (report : List ℕ) → frames oqpsk report ≡ frame oqpsk report ∷ frame_with oqpsk (formed 1 0) report ∷ []
oqpsk_frames report = refl

pub lowband_frames : (report : List ℕ) → frames lowband report ≡ frame lowband report ∷ frame_with lowband (formed 1 0) report ∷ []
lowband_frames report = refl
