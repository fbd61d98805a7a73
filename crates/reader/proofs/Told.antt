-- The reader's two ways, no radio, or what the scan found, told and stored; and the ways of
-- `store`. Over plain values. Assumes nothing.
use mathlib.Core.Path.{◌≡◌, sym, ap, ap₂, ◌∙◌}
use mathlib.Core.Bool.{true, false}
use mathlib.Core.List.{List, ◌++◌}
use Prim.Native.Nat.{ℕ, ◌≤◌, ◌<◌}
use native.Mathlib.Omega.{arith}
use lib.ListN.{length, take, drop}
use lib.Seq.{paste, length-take-le}
use lib.Dec.{eqb}
use borrow.Author.Tests.{lt-ltb, le-ltb, eqb-true}
use Rattle.codes.specs.Numbers.{DONE, BADMODE, MORE}
use Rattle.codes.specs.Radio.{known, radio_of}
use Rattle.codes.proofs.Tests.{by_test}
use Rattle.frame.specs.Outcome.{outcome}
use Rattle.frame.proofs.Over.{over_paste, over_front}
use Rattle.order.specs.declared.Hand.{Hand}
use Rattle.reader.specs.declared.Reading.{Reading}
use Rattle.order.specs.Order.{Answer, refused, done, reading}
use Rattle.reader.specs.Read.{reported, told, left, answer_at, answered, read_of}
use Rattle.reader.specs.Telling.{stored_in, told_by, handed, Tells}

-- the ways of `store`
module _ (n : ℕ) (octets buffer : List ℕ) where
  pub store_many : 127 < n → buffer ≡ stored_in n octets buffer
  unfolding stored_in
  store_many h = rw (lt-ltb 127 n h)

  module _ (m : n ≤ 127) where
    pub store_short : length buffer < n → buffer ≡ stored_in n octets buffer
    unfolding stored_in
    store_short h = rw (le-ltb 127 n m, lt-ltb (length buffer) n h)

    pub store_first : n ≤ length buffer → paste buffer 0 octets n ≡ stored_in n octets buffer
    unfolding stored_in
    store_first h = rw (le-ltb 127 n m, le-ltb (length buffer) n h)

-- the first n octets stored: they, and the bytes behind them
pub stored : (n : ℕ) (octets buffer : List ℕ) → n ≤ 127 → length octets ≡ 127 → n ≤ length buffer
    → stored_in n octets buffer ≡ take n octets ++ drop (length (take n octets)) buffer
stored n octets buffer f l b =
    sym (store_first n octets buffer f b) ∙ over_paste buffer 0 octets n (omega arith) ∙ over_front buffer (take n octets)

-- a refusal stores nothing
pub stored_none : (octets buffer : List ℕ) → length octets ≡ 127 → stored_in 0 octets buffer ≡ buffer
stored_none octets buffer l = stored 0 octets buffer (omega arith) l (omega arith)

-- and a report is stored whole
pub stored_done : (place n count gap polarity : ℕ) (octets buffer : List ℕ) → n ≤ 127 → length octets ≡ 127 → n ≤ length buffer
    → outcome (reported place n count gap polarity) (stored_in n octets buffer) ≡ answered (done place (take n octets) count gap polarity) buffer
unfolding told left
stored_done place n count gap polarity octets buffer f l b =
    ap₂ outcome (rw (length-take-le n octets (omega arith))) (stored n octets buffer f l b)

-- what a hand tells, and the reading order's answer with the octets gathered: a refusal, or done
handed_ways : (h : Hand) (octets : List ℕ) (P : Reading → Answer → Type 0) → ((x s : ℕ) → P (told (refused x s)) (refused x s))
    → (h.number ≡ DONE → P (reported h.taken h.length h.count h.gap h.polarity)
    (done h.taken (take h.length octets) h.count h.gap h.polarity))
    → P (told_by h) (handed h octets)
unfolding told_by handed
handed_ways h octets P n d =
    by_test (eqb h.number MORE)
    (λ a. rw a (n _ _))
    (λ a. by_test (eqb h.number DONE) (λ b. rw (a, b) (d (eqb-true h.number DONE b))) (λ b. rw (a, b) (n _ _)))

module _ (mode : ℕ) (chips buffer : List ℕ) where
  pub tells_no_radio : known mode ≡ false → (answer : Reading) → answer ≡ told (refused BADMODE 0) → outcome answer buffer ≡ read_of mode chips buffer
  unfolding answer_at told left
  tells_no_radio k answer e = rw (e, k)

  pub tells : known mode ≡ true → (octets : List ℕ) (h : Hand) → Tells (radio_of mode) (length buffer) (reading (radio_of mode) (length buffer) chips) octets h
      → (answer : Reading) → answer ≡ told_by h → (out : List ℕ) → out ≡ stored_in answer.n octets buffer → outcome answer out ≡ read_of mode chips buffer
  unfolding answer_at told left
  tells k octets h T answer e out s =
      rw (s, e, k, T.is)
      (handed_ways h octets (λ t a. outcome t (stored_in t.n octets buffer) ≡ answered a buffer)
      (λ x p. ap (outcome (told (refused x p))) (stored_none octets buffer T.long))
      (λ d. stored_done h.taken h.length h.count h.gap h.polarity octets buffer (T.well d).few T.long (T.well d).fits))
