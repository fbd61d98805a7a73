-- The three ways of the checked reader, over plain values: what the plain reader gave back and left
-- in the octets aside, checked. Assumes nothing.
use mathlib.Core.Path.{◌≡◌, refl, sym, ap, ◌∙◌}
use mathlib.Core.List.{List, ◌++◌}
use Prim.Native.Nat.{ℕ, ◌≤◌, min}
use native.Mathlib.Nat.{min-le_left, min-le_right}
use native.Mathlib.Omega.{arith}
use lib.ListN.{length, take, drop, length-append, length-drop}
use lib.Seq.{take_at, take-append-le, length-take-le}
use borrow.Author.Tests.{eq-eqb, ne_eqb}
use Rattle.codes.specs.Numbers.{DONE}
use Rattle.frame.specs.Outcome.{Outcome, outcome}
use Rattle.reader.specs.declared.Reading.{Reading}
use Rattle.order.specs.Order.{Answer, refused, done}
use Rattle.reader.specs.Read.{reported, told, left, answer_at, answered, read_of}
use Rattle.reader.specs.Telling.{stored_in}
use Rattle.reader.proofs.Fair.{Told, answer_told}
use Rattle.reader.proofs.Told.{stored_done}
use Rattle.checked.specs.Profile.{check_of, checked_answer, read_checked_of}
use Rattle.checked.proofs.Room.{same_room}

-- what a report leaves at the front of the octets aside
front : (report aside : List ℕ) → take (length report) (report ++ drop (length report) aside) ≡ report
front report aside = take_at report (drop (length report) aside) (length report) refl

-- The plain reader answered so, with the octets aside; they were as many before.
module _ (buffer aside : List ℕ) (r : Reading) (exit : List ℕ) where
  -- its report fits them
  fits : (a : Answer) → outcome r exit ≡ answered a aside → length exit ≡ length aside → r.n ≤ length aside
  unfolding told left
  fits (refused x place) p l = omega (arith, ap (λ (o : Outcome Reading). o.answer.n) p)
  fits (done place report count gap polarity) p l =
      let e : r.n ≡ length report = ap (λ (o : Outcome Reading). o.answer.n) p in
      let b : exit ≡ report ++ drop (length report) aside = ap (λ (o : Outcome Reading). o.buffer) p in
      omega (arith, e, ap length b, length-append report (drop (length report) aside))

  -- its refusal stays
  stays : (a : Answer) → outcome r exit ≡ answered a aside → (r.number ≡ DONE → ⊥) → outcome r buffer ≡ answered (checked_answer a) buffer
  unfolding told left checked_answer
  stays (refused x place) p n = ap (λ (o : Outcome Reading). outcome o.answer buffer) p
  stays (done place report count gap polarity) p n = absurd (n (ap (λ (o : Outcome Reading). o.answer.number) p))

  module _ (octets : List ℕ) (o : take r.n octets ≡ take r.n exit) (d : r.number ≡ DONE) where
    abbrev number : ℕ
    number = check_of (take r.n octets)

    -- the report that was read
    read_report : (place count gap polarity : ℕ) (report : List ℕ) → outcome r exit ≡ answered (done place report count gap polarity) aside
        → take r.n octets ≡ report
    unfolding left told
    read_report place count gap polarity report p =
        let e : r.n ≡ length report = ap (λ (o : Outcome Reading). o.answer.n) p in
        o ∙ rw (e, ap (λ (o : Outcome Reading). o.buffer) p) (front report aside)

    -- a report that doesn't pass is refused where it was read
    refuses : (a : Answer) → Told a → outcome r exit ≡ answered a aside → (number ≡ DONE → ⊥)
        → (t : Reading) → t ≡ told (refused number r.place) → outcome t buffer ≡ answered (checked_answer a) buffer
    unfolding told left checked_answer
    refuses (refused x place) f p n t e = absurd (f (sym (ap (λ (o : Outcome Reading). o.answer.number) p) ∙ d))
    refuses (done place report count gap polarity) f p n t e =
        let c : number ≡ check_of report = ap check_of (read_report place count gap polarity report p) in
        let q : r.place ≡ place = ap (λ (o : Outcome Reading). o.answer.place) p in
        rw (ne_eqb (check_of report) DONE (λ z. n (c ∙ z)), e, q, c)

    -- one that passes is stored
    stores : (a : Answer) → Told a → outcome r exit ≡ answered a aside → number ≡ DONE → length octets ≡ 127 → r.n ≤ 127 → r.n ≤ length buffer
        → outcome r (stored_in r.n octets buffer) ≡ answered (checked_answer a) buffer
    unfolding told left checked_answer
    stores (refused x place) f p z l m b = absurd (f (sym (ap (λ (o : Outcome Reading). o.answer.number) p) ∙ d))
    stores (done place report count gap polarity) f p z l m b =
        let rep = read_report place count gap polarity report p in
        let c : check_of report ≡ DONE = sym (ap check_of rep) ∙ z in
        let e : r.n ≡ length report = ap (λ (o : Outcome Reading). o.answer.n) p in
        let s = stored_in r.n octets buffer in
        ap (λ (o : Outcome Reading). outcome o.answer s) p
        ∙ ap (λ (n : ℕ). outcome (reported place n count gap polarity) s) (sym e)
        ∙ stored_done place r.n count gap polarity octets buffer m l b
        ∙ rw (rep, eq-eqb (check_of report) DONE c)

-- as many of the octets aside as there is room for
pub lent : (buffer aside : List ℕ) → 127 ≡ length aside → (room : ℕ) → room ≡ min (length buffer) 127 → room ≡ length (take room aside)
lent buffer aside whole room least = sym (length-take-le room aside (omega (arith, least, whole, min-le_right (length buffer) 127)))

-- The plain reader, lent those.
module _ (mode : ℕ) (chips buffer aside : List ℕ) (whole : 127 ≡ length aside) (room : ℕ) (least : room ≡ min (length buffer) 127)
    (r : Reading) (exit : List ℕ) (e : outcome r exit ≡ read_of mode chips (take room aside)) (kept : length exit ≡ length (take room aside)) where
  abbrev a : Answer
  a = answer_at mode (length buffer) chips

  long : room ≡ length (take room aside)
  long = lent buffer aside whole room least

  -- it answers what it would with the report buffer's room
  plain : outcome r exit ≡ answered a (take room aside)
  plain =
      e ∙ ap (λ (n : ℕ). answered (answer_at mode n chips) (take room aside)) (sym long ∙ least)
      ∙ ap (λ (b : Answer). answered b (take room aside)) (same_room mode (length buffer) chips)

  -- the octets aside after it
  abbrev octets : List ℕ
  octets = exit ++ drop room aside

  n_room : r.n ≤ room
  n_room = omega (arith, fits buffer (take room aside) r exit a plain kept, long)

  octets_long : length octets ≡ 127
  octets_long = omega (arith, length-append exit (drop room aside), length-drop room aside, kept, long, whole, least, min-le_right (length buffer) 127)

  pub n_fits : r.n ≤ length octets
  n_fits = omega (arith, octets_long, n_room, least, min-le_right (length buffer) 127)

  pub as_plain : (r.number ≡ DONE → ⊥) → outcome r buffer ≡ read_checked_of mode chips buffer
  as_plain = stays buffer (take room aside) r exit a plain

  module _ (d : r.number ≡ DONE) where
    abbrev checked : ℕ
    checked = check_of (take r.n octets)

    same_front : take r.n octets ≡ take r.n exit
    same_front = take-append-le r.n exit (drop room aside) (omega (arith, n_room, kept, long))

    pub not_passed : (checked ≡ DONE → ⊥) → (t : Reading) → t ≡ told (refused checked r.place) → outcome t buffer ≡ read_checked_of mode chips buffer
    not_passed = refuses buffer (take room aside) r exit octets same_front d a (answer_told mode (length buffer) chips) plain

    pub passed : checked ≡ DONE → (out : List ℕ) → out ≡ stored_in r.n octets buffer → outcome r out ≡ read_checked_of mode chips buffer
    passed z out s =
        ap (outcome r) s
        ∙ stores buffer (take room aside) r exit octets same_front d a (answer_told mode (length buffer) chips) plain z octets_long
        (omega (arith, n_fits, octets_long)) (omega (arith, n_room, least, min-le_left (length buffer) 127))
