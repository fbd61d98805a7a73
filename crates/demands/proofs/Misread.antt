-- A frame of a report with its FCS, the one that the checked writer wrote or any other of its
-- frames, of which one symbol of the report or of its FCS is read as another value, is refused with
-- 15. What is then read is the frame of another report, as long as the one sent: the raw symbols
-- differ at that symbol and, in a chained radio, at the next, so the bits differ within one run of
-- 16, and the FCS of the other is wrong. For any sound radio. Assumes nothing.
use mathlib.Core.Path.{◌≡◌, refl, sym, ap, ap₂, ◌∙◌}
use mathlib.Core.Bool.{true}
use mathlib.Core.List.{List, [], ◌∷◌, ◌++◌}
use Prim.Native.Nat.{ℕ, zero, suc, ◌+◌, ◌-◌, ◌*◌, ◌^◌, ◌≤◌, ◌<◌}
use native.Mathlib.Nat.{one-mul, mul_assoc, mul-le-mul_right}
use native.Mathlib.Omega.{arith}
use lib.ListN.{length, get_or, set, take, length-set}
use lib.Seq.{take-set-le, get_or-set_same, get_or-append-add}
use borrow.Author.Tests.{eqb-false}
use Rattle.codes.specs.Numbers.{DONE, BADCHECK}
use Rattle.codes.specs.Radio.{Radio, Sound, known, radio_of}
use Rattle.codes.proofs.Facts.{sound}
use Rattle.frame.specs.Frame.{start_octet, octets_with, per_octet, raws, encode, Form, symbols, symbols_with}
use Rattle.frame.proofs.Below.{Below, below_at, below_set}
use Rattle.frame.proofs.Count.{raws_below, symbols_long, symbols_same, symbols_below}
use Rattle.order.specs.Received.{decode, octet_at, octets_from}
use Rattle.order.specs.Order.{whole, reading}
use Rattle.order.proofs.Raw.{per_positive, bits_pos, decode_long, decode_below, octets_long}
use Rattle.fcs.specs.Fcs.{bits, with_fcs}
use Rattle.fcs.proofs.Remainder.{with_long}
use Rattle.checked.specs.Profile.{check_of, read_checked_of}
use Rattle.checked.proofs.Caught.{run_caught}
use Rattle.fcs.proofs.Bits.{bits_append, bits_long}
use Rattle.demands.specs.Words.{Report, forms, OneOf, tells}
use Rattle.demands.specs.Refusals.{ReadAs}
use Rattle.demands.proofs.Back.{decode_take, decode_encode, encode_decode}
use Rattle.demands.proofs.Octet.{raws_octets, octets_below, octet_take}
use Rattle.demands.proofs.Framed.{again}
use Rattle.demands.proofs.Forms.{Proper, proper}
use Rattle.demands.proofs.Spread.{bits_of, bits_raws, within_two}
use Rattle.demands.proofs.Read.{read_stands}
use Rattle.demands.proofs.Answered.{windows_answer}
use Rattle.demands.proofs.Demand3.{answers_done}
use Rattle.demands.proofs.Reader.{success_answers}
use Rattle.demands.proofs.Checked.{with_report, checked_refused}

-- with one value another, the raw symbols are others there and at the next place at most
raw_elsewhere : (r : Radio) (last : ℕ) (vs : List ℕ) (s v j : ℕ) → (j ≡ s → ⊥) → (j ≡ suc s → ⊥)
    → get_or (decode r last (set vs s v)) j 0 ≡ get_or (decode r last vs) j 0
unfolding decode
raw_elsewhere r last [] s v j n m = refl
raw_elsewhere r last (u ∷ vs) zero v zero n m = absurd (n refl)
raw_elsewhere r last (u ∷ vs) zero v (suc zero) n m = absurd (m refl)
raw_elsewhere r last (u ∷ []) zero v (suc (suc j)) n m = refl
raw_elsewhere r last (u ∷ w ∷ vs) zero v (suc (suc j)) n m = refl
raw_elsewhere r last (u ∷ vs) (suc s) v zero n m = refl
raw_elsewhere r last (u ∷ vs) (suc s) v (suc j) n m = raw_elsewhere r u vs s v j (λ e. n (ap suc e)) (λ e. m (ap suc e))

-- One of a report's frames, and its symbols but for one after the length octet, which is
-- another value.
module _ (r : Radio) (S : Sound r) (form : Form) (F : Proper r form) (report : List ℕ) (P : Report report)
    (s v : ℕ) (h : 6 * per_octet r ≤ s) (below : v < 2 ^ r.bits) where
  abbrev vs : List ℕ
  vs = symbols_with r form report

  abbrev all : List ℕ
  all = raws r (octets_with form.bit report)

  -- the values read, and the raw symbols that they make
  abbrev others : List ℕ
  others = set vs s v

  abbrev bs : List ℕ
  bs = decode r form.polarity others

  others_below : Below (2 ^ r.bits) others
  others_below = below_set (2 ^ r.bits) vs s v (symbols_below r S form report) below

  bs_below : Below (2 ^ r.bits) bs
  bs_below = decode_below r S form.polarity others others_below

  raw_again : decode r form.polarity vs ≡ all
  unfolding symbols_with
  raw_again = decode_encode r S form.polarity all (raws_below r (octets_with form.bit report))

  bs_long : length bs ≡ (6 + length report) * per_octet r
  bs_long = decode_long r form.polarity others ∙ length-set vs s v ∙ symbols_long r form report

  -- the report in them
  abbrev other : List ℕ
  other = octets_from r 6 (length report) bs

  -- the first six octets are the frame's
  front : (k : ℕ) → k < 6 → octet_at r k bs ≡ octet_at r k all
  front k l =
      let j = 6 * per_octet r in
      let q : suc k * per_octet r ≤ j = mul-le-mul_right (per_octet r) l in
      let e : take j bs ≡ take j all =
      decode_take r form.polarity j others ∙ ap (decode r form.polarity) (take-set-le j vs s v h)
      ∙ sym (decode_take r form.polarity j vs) ∙ ap (take j) raw_again in
      sym (octet_take r k j bs q) ∙ ap (octet_at r k) e ∙ octet_take r k j all q

  pub other_long : length other ≡ length report
  other_long = octets_long r 6 (length report) bs

  other_octets : octets_from r 0 (6 + length report) bs ≡ octets_with form.bit other
  unfolding octets_from
  other_octets =
      let e : 6 + length report ≡ suc (suc (suc (suc (suc (suc (length report)))))) = omega arith in
      let sent = again r S form.bit F.low report P in
      rw (
        e,
        front 0 (omega arith) ∙ ap (λ (xs : List ℕ). get_or xs 0 0) sent,
        front 1 (omega arith) ∙ ap (λ (xs : List ℕ). get_or xs 1 0) sent,
        front 2 (omega arith) ∙ ap (λ (xs : List ℕ). get_or xs 2 0) sent,
        front 3 (omega arith) ∙ ap (λ (xs : List ℕ). get_or xs 3 0) sent,
        front 4 (omega arith) ∙ ap (λ (xs : List ℕ). get_or xs 4 0) sent,
        front 5 (omega arith) ∙ ap (λ (xs : List ℕ). get_or xs 5 0) sent,
        other_long,
      )

  other_raws : raws r (octets_with form.bit other) ≡ bs
  other_raws = ap (raws r) (sym other_octets) ∙ raws_octets r S (6 + length report) bs bs_below bs_long

  pub other_symbols : symbols_with r form other ≡ others
  unfolding symbols_with
  other_symbols = ap (encode r form.polarity) other_raws ∙ encode_decode r S form.polarity others others_below

  pub other_below : Below 256 other
  other_below = octets_below r S 6 (length report) bs bs_below

  -- the raw symbols differ at s and s + 1 at most
  differ_two : (j : ℕ) → (j ≡ s → ⊥) → (j ≡ suc s → ⊥) → get_or (raws r (octets_with form.bit report)) j 0 ≡ get_or (raws r (octets_with form.bit other)) j 0
  differ_two j n m = rw other_raws (sym (raw_elsewhere r form.polarity vs s v j n m ∙ rw raw_again))

  bits_few : r.bits ≤ 8
  bits_few = omega (arith, S.divides, mul-le-mul_right r.bits (per_positive r S), one-mul r.bits)

  -- symbol s is one of the report's, whose bits come after 48 others
  sent_after : 48 ≤ s * r.bits
  sent_after = omega (arith, mul-le-mul_right r.bits h, mul_assoc 6 (per_octet r) r.bits, ap (λ (n : ℕ). 6 * n) S.divides)

  report_bit : (xs : List ℕ) (i : ℕ) → get_or (bits_of r.bits (raws r (octets_with form.bit xs))) (48 + i) 0 ≡ get_or (bits xs) i 0
  report_bit xs i =
      let six : List ℕ = 0 ∷ 0 ∷ 0 ∷ 0 ∷ start_octet ∷ (length xs + 128 * form.bit) ∷ [] in
      ap (λ (l : List ℕ). get_or l (48 + i) 0) (sym (bits_raws r S (octets_with form.bit xs)) ∙ bits_append six xs)
      ∙ ap (λ (n : ℕ). get_or (bits six ++ bits xs) (n + i) 0) (sym (bits_long six))
      ∙ get_or-append-add (bits six) (bits xs) i 0

  -- so the report's bits differ within a run of 16
  pub bits_within : (i : ℕ) → (get_or (bits report) i 0 ≡ get_or (bits other) i 0 → ⊥) → (s * r.bits - 48 ≤ i) × (i < s * r.bits - 48 + 16)
  bits_within i n =
      let w =
      within_two r.bits (bits_pos r S) bits_few (raws r (octets_with form.bit report)) (raws r (octets_with form.bit other)) s differ_two (48 + i)
      (λ e. n (shifted e)) in
      (omega (arith, w.0, w.1, sent_after), omega (arith, w.0, w.1, sent_after))
    where
      shifted : get_or (bits_of r.bits (raws r (octets_with form.bit report))) (48 + i) 0
          ≡ get_or (bits_of r.bits (raws r (octets_with form.bit other))) (48 + i) 0
          → get_or (bits report) i 0 ≡ get_or (bits other) i 0
      shifted e = sym (report_bit report i) ∙ e ∙ report_bit other i

-- A checked frame of which one symbol, of the report or of its FCS, is read as another value.
module _ (mode : ℕ) (k : known mode ≡ true) (form : Form) (m : OneOf (forms (radio_of mode)) form)
    (report : List ℕ) (o : Below 256 report) (one : 1 ≤ length report) (short : length report ≤ 125)
    (s v : ℕ) (h : 6 * per_octet (radio_of mode) ≤ s) (l : s < length (symbols_with (radio_of mode) form (with_fcs report)))
    (n : v ≡ get_or (symbols_with (radio_of mode) form (with_fcs report)) s 0 → ⊥)
    (chips : List ℕ) (A : ReadAs (radio_of mode) chips (set (symbols_with (radio_of mode) form (with_fcs report)) s v)) where
  abbrev r : Radio
  r = radio_of mode

  abbrev sent : List ℕ
  sent = with_fcs report

  P : Report sent
  P = with_report report o short

  F : Proper r form
  F = proper r form m

  v_known : v < 2 ^ r.bits
  v_known =
      let e : get_or (set (symbols_with r form sent) s v) s 0 ≡ v = get_or-set_same (symbols_with r form sent) s v 0 l in
      let q = A.known s (omega (arith, l, length-set (symbols_with r form sent) s v)) in
      rw (e, (sound mode).many) at q

  abbrev got : List ℕ
  got = other r (sound mode) form F sent P s v h v_known

  long : length got ≡ length report + 2
  long = other_long r (sound mode) form F sent P s v h v_known ∙ with_long report

  -- it is another report
  another : sent ≡ got → ⊥
  another e =
      n
      (sym
      (ap (λ (xs : List ℕ). get_or xs s 0) (ap (symbols_with r form) e ∙ other_symbols r (sound mode) form F sent P s v h v_known)
      ∙ get_or-set_same (symbols_with r form sent) s v 0 l))

  got_wrong : check_of got ≡ BADCHECK
  got_wrong =
      run_caught report got o (other_below r (sound mode) form F sent P s v h v_known) long one another (s * r.bits - 48)
      (bits_within r (sound mode) form F sent P s v h v_known)

  -- It is 15, at the frame's number of symbols, with nothing stored.
  pub one_misread : (buffer : List ℕ) → length report + 2 ≤ length buffer
      → read_checked_of mode chips buffer ≡ tells BADCHECK (length (symbols (radio_of mode) (with_fcs report))) buffer
  unfolding reading
  one_misread buffer room =
      let S = sound mode in
      let vs = set (symbols_with r form sent) s v in
      let q = other_symbols r S form F sent P s v h v_known in
      let R : Report got =
      record { short = omega (arith, long, short); octets = below_at 256 got (other_below r S form F sent P s v h v_known) } in
      let T = rw (← q) at (read_stands r S chips vs A) in
      let a = windows_answer r S (whole r chips) form F got R _ T (length buffer) (omega (arith, long, room)) in
      let out = (success_answers mode k chips buffer got _).1 (answers_done r S (length buffer) chips got _ _ _ _ a) in
      checked_refused mode chips buffer got _ _ _ out (λ z. eqb-false BADCHECK DONE refl (sym got_wrong ∙ z))
      ∙ ap₂ (λ x place. tells x place buffer) got_wrong
      (sym (symbols_same r form got) ∙ ap length q ∙ length-set (symbols_with r form sent) s v ∙ symbols_same r form sent)
