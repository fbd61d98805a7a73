-- Not to be believed: what the code carries from symbol to symbol, a record of numbers. That the
-- numbers are those of the symbols before is shown in proofs/Carried.antt, that following them is
-- the reading order in proofs/Turns.antt. It is total: whatever the numbers are, they are reduced
-- or wrap, and no sum overflows. The stepping receiver's push names `followed` and `kept_at`: of a
-- forged record that passes its test they are all that is said.
use Rattle.std.specs.Prelude.{◌≡◌, Bool, false, ℕ, ◌+◌, ◌-◌, ◌*◌, ◌/◌, ◌%◌, ◌^◌, ◌≤◌, List, set, eqb, leb, ltb}
use Rattle.codes.specs.Numbers.{DONE, BADMODE, NOROOM, MORE}
use Rattle.codes.specs.Chips.{pick}
use Rattle.codes.specs.Radio.{Radio, known, radio_of}
use Rattle.codes.specs.Symbol.{lesser, NOGAP}
use Rattle.codes.specs.declared.Symbol.{Symbol}
use Rattle.frame.specs.Frame.{per_octet}
use Rattle.order.specs.declared.Hand.{Hand}
use Rattle.order.specs.Received.{chain_start}
use Rattle.order.specs.Order.{both, ends, rules}

-- before the first symbol
abbrev pub begun : Hand
begun = record { number = MORE; taken = 0; length = 0; count = 0; last = 0; octet = 0; gap = NOGAP; polarity = 0 }

-- ended with a number, all else as it was
abbrev pub stopped : ℕ → Hand → Hand
stopped x h =
    record {
      number = x;
      taken = h.taken;
      length = h.length;
      count = h.count;
      last = h.last;
      octet = h.octet;
      gap = h.gap;
      polarity = h.polarity;
    }

-- With a chain the first symbol settles the polarity, from which the chain starts: at that symbol
-- its value stands for what is held.
abbrev pub at_first : Bool → ℕ → ℕ → ℕ → ℕ
at_first chained s held v = pick (both chained (eqb s 0)) v held

-- the raw symbol of a value, after a last one; of the numbers of a radio's row, and of a radio
abbrev pub raw_by : Bool → ℕ → ℕ → ℕ → ℕ
raw_by chained values last v = pick chained ((last % values + v % values) % 2) (v % values)

abbrev pub raw_from : Radio → ℕ → ℕ → ℕ
raw_from r last v = raw_by r.chained (2 ^ r.bits) last v

-- the octet in hand: a raw symbol enters at the top, and what was there moves down
abbrev pub shifted_by : ℕ → ℕ → ℕ → ℕ
shifted_by values octet raw = octet % 256 / values + raw * (256 / values)

abbrev pub shifted : Radio → ℕ → ℕ → ℕ
shifted r octet raw = shifted_by (2 ^ r.bits) octet raw

-- n, which the last symbol of the length octet brings: its low seven bits
abbrev pub length_after : ℕ → ℕ → ℕ → ℕ → ℕ
length_after per s n octet = pick (ends per 5 s) (octet % 128) n

-- a symbol's gap, of numbers of 32 bits that wrap
abbrev pub gap_at : Symbol → ℕ
gap_at x = (x.next + 2 ^ 32 - x.distance % 2 ^ 32) % 2 ^ 32

-- the symbol x more, with a number, n, the octet in hand and the polarity
abbrev pub moved : Hand → ℕ → ℕ → Symbol → ℕ → ℕ → Hand
moved h number n x octet polarity =
    record {
      number = number;
      taken = (h.taken + 1) % 2 ^ 32;
      length = n;
      count = (h.count + x.distance) % 2 ^ 32;
      last = x.value;
      octet = octet;
      gap = lesser (gap_at x) h.gap;
      polarity = polarity;
    }

-- the first where the number is no refusal, 13 or 0, else the second
abbrev pub onward : {A : Type 0} → ℕ → A → A → A
onward x a b = pick (eqb x MORE) a (pick (eqb x DONE) a b)

-- moved or stopped, by the rules with room for every report
abbrev pub by_rules : ℕ → Hand → ℕ → ℕ → ℕ → Symbol → ℕ → Hand
by_rules per h raw octet n x polarity =
    onward (rules per 127 h.taken raw octet n) (moved h (rules per 127 h.taken raw octet n) n x octet polarity)
    (stopped (rules per 127 h.taken raw octet n) h)

-- the same, over the raw symbol alone
abbrev pub by_raw : Radio → Hand → ℕ → Symbol → ℕ → Hand
by_raw r h raw x polarity =
    by_rules (per_octet r) h raw (shifted r h.octet raw)
    (length_after (per_octet r) h.taken h.length (shifted r h.octet raw)) x polarity

-- the raw symbol of one more, and the polarity with it
abbrev pub raw_next : Radio → Hand → Symbol → ℕ
raw_next r h x = raw_from r (at_first r.chained h.taken h.last x.value) x.value

abbrev pub polarity_next : Radio → Hand → Symbol → ℕ
polarity_next r h x = at_first r.chained h.taken h.polarity x.value

-- a symbol taken
unfoldable pub advanced : Radio → Hand → Symbol → Hand
advanced r h x = by_raw r h (raw_next r h x) x (polarity_next r h x)

-- what follows a match
unfoldable pub followed : ℕ → Hand → Symbol → Hand
followed mode h x =
    pick (known mode)
    (pick (eqb x.number DONE) (advanced (radio_of mode) h x) (stopped x.number h))
    (stopped BADMODE h)

-- a report buffer shorter than n
abbrev pub roomed : ℕ → Hand → Hand → Hand
roomed room h next = pick (ltb room next.length) (stopped NOROOM h) next

-- within an octet, there is room for what n says
abbrev pub Roomy : ℕ → ℕ → Hand → Type 0
Roomy mode room h = (h.taken % per_octet (radio_of mode) ≡ 0 → ⊥) → h.length ≤ room

-- so many symbols are whole octets
unfoldable pub whole_at : ℕ → Hand → Bool
whole_at mode h = pick (known mode) (eqb (h.taken % per_octet (radio_of mode)) 0) false

-- the octets of the report, with the one in hand where it is whole and one of them
abbrev pub kept_in : ℕ → Hand → List ℕ → List ℕ
kept_in per h octets =
    pick (leb (7 * per) h.taken)
    (pick (eqb (h.taken % per) 0) (pick (ltb (h.taken / per - 7) 127) (set octets (h.taken / per - 7) (h.octet % 256)) octets) octets)
    octets

-- after a refusal, which took no symbol, none is kept
unfoldable pub kept_at : ℕ → Hand → List ℕ → List ℕ
kept_at mode h octets = pick (known mode) (onward h.number (kept_in (per_octet (radio_of mode)) h octets) octets) octets

-- all symbols of the hand's frame are taken, its report has room, no more chips were repaired than
-- the limit times the symbols taken, and its polarity is one that the radio has
pub record Complete (r : Radio) (room : ℕ) (h : Hand) : Type 0 where
  pub total : h.taken ≡ (6 + h.length) * per_octet r
  pub fits : h.length ≤ room
  pub few : h.length ≤ 127
  pub low : h.count ≤ r.limit * h.taken
  pub start : chain_start r (h.polarity % 2) ≡ h.polarity
