-- The stepping receiver (document 01, "The stepping receiver"): start, push, finish and take, of
-- every record that there can be. A record has what the reader carries from symbol to symbol
-- (`Hand`) and the octets of the report. How a symbol changes those numbers is the reader's own
-- step (`followed`, `kept_at`): of every record that these calls make it is shown to be the reading
-- order; of another one that passes the test there is nothing else to say.
use Rattle.std.specs.Prelude.{ℕ, ◌+◌, ◌*◌, ◌%◌, Bool, true, not, List, length, take, replicate, eqb, ltb}
use Rattle.codes.specs.Numbers.{DONE, BADMODE, NOROOM, RUNOUT, ENDED, BADPART, NOTENDED, MORE, FORGED}
use Rattle.codes.specs.Chips.{pick}
use Rattle.codes.specs.Radio.{known, radio_of}
use Rattle.codes.specs.Symbol.{symbol_of, NOGAP}
use Rattle.codes.specs.declared.Symbol.{Symbol}
use Rattle.frame.specs.Outcome.{Outcome}
use Rattle.frame.specs.Frame.{per_octet}
use Rattle.order.specs.declared.Hand.{Hand}
use Rattle.reader.specs.declared.Reading.{Reading}
use Rattle.order.specs.Received.{chain_start}
use Rattle.order.specs.Order.{Answer, refused, done, both}
use Rattle.reader.specs.Read.{answered}
use Rattle.order.specs.Taking.{followed, kept_at}
use Rattle.receiver.specs.declared.Receiver.{Receiver}
use Rattle.receiver.specs.declared.Step.{Step}

-- a number, and the record that comes back
abbrev pub step : ℕ → Receiver → Step
step x c = record { number = x; receiver = c }

-- ---- start

-- before the first symbol: all 0 but the mode, the number and the smallest gap, for which stands
-- a number above every gap
abbrev pub fresh : ℕ → ℕ → Receiver
fresh mode x =
    record {
      mode = mode;
      ended = x;
      taken = 0;
      length = 0;
      count = 0;
      last = 0;
      octet = 0;
      gap = NOGAP;
      polarity = 0;
      octets = replicate 127 0;
    }

-- Start gives a record for a mode and 13. A bad mode gives a record already ended with 1, place 0.
unfoldable pub start_of : ℕ → Step
start_of mode = pick (known mode) (step MORE (fresh mode MORE)) (step BADMODE (fresh mode BADMODE))

-- ---- the test of the record

-- one test or another
abbrev pub either : Bool → Bool → Bool
either a b = pick a true b

abbrev pub is_open : Receiver → Bool
is_open c = eqb c.ended MORE

abbrev pub ended_well : Receiver → Bool
ended_well c = eqb c.ended DONE

-- The total is that for the length held, which is 0 until the length octet is read.
abbrev pub total : Receiver → ℕ
total c = (6 + c.length) * per_octet (radio_of c.mode)

-- One that is open or ended well is answered 34 if its mode is above 2, its length is above 127,
-- its count is above the accepted distance times the symbols taken, or the number of symbols taken
-- isn't below the frame's total (open) or isn't equal to it (ended well).
unfoldable pub forged : Receiver → Bool
forged c =
    both (either (is_open c) (ended_well c))
    (either (not (known c.mode))
    (either (ltb 127 c.length)
    (either (ltb ((radio_of c.mode).limit * c.taken) c.count)
    (pick (is_open c) (not (ltb c.taken (total c))) (not (eqb c.taken (total c)))))))

-- ---- push

-- the numbers that the reader carries too
abbrev pub hand_of : Receiver → Hand
hand_of c =
    record { number = c.ended; taken = c.taken; length = c.length; count = c.count; last = c.last; octet = c.octet; gap = c.gap; polarity = c.polarity }

-- the record of a mode with these numbers and octets
abbrev pub held : ℕ → Hand → List ℕ → Receiver
held mode h octets =
    record {
      mode = mode;
      ended = h.number;
      taken = h.taken;
      length = h.length;
      count = h.count;
      last = h.last;
      octet = h.octet;
      gap = h.gap;
      polarity = h.polarity;
      octets = octets;
    }

-- the record after the hand h, with the octet that it completes
abbrev pub with_hand : Receiver → Hand → Step
with_hand c h = step h.number (held c.mode h (kept_at c.mode h c.octets))

-- The symbol is taken by the reading order. 13 means go on. Anything else ends the record, and a
-- refusal leaves its other fields as they were.
abbrev pub took_symbol : Receiver → Symbol → Step
took_symbol c x = with_hand c (followed c.mode (hand_of c) x)

-- Push tests the record before all else, then 10, then 11; all give the record back as it was.
unfoldable pub push_of : Receiver → List ℕ → Step
push_of c part =
    pick (forged c) (step FORGED c)
    (pick (not (is_open c)) (step ENDED c)
    (pick (not (eqb (length part) (radio_of c.mode).size)) (step BADPART c)
    (took_symbol c (symbol_of (radio_of c.mode) part))))

-- ---- finish

-- the record ended with a number, all else as it was
abbrev pub ended_with : ℕ → Receiver → Receiver
ended_with x c =
    record {
      mode = c.mode;
      ended = x;
      taken = c.taken;
      length = c.length;
      count = c.count;
      last = c.last;
      octet = c.octet;
      gap = c.gap;
      polarity = c.polarity;
      octets = c.octets;
    }

-- Finish ends an open record with 4, at the number of the next symbol; on an ended one it answers
-- 10 and the record stays the same.
unfoldable pub finish_of : Receiver → Step
finish_of c =
    pick (forged c) (step FORGED c) (pick (not (is_open c)) (step ENDED c) (step RUNOUT (ended_with RUNOUT c)))

-- ---- take

-- 3 where the lent buffer is shorter than n, with the frame's place; otherwise 0 with place, n,
-- count, gap, polarity and the report.
unfoldable pub room_for : ℕ → Answer → Answer
room_for room (refused x place) = refused x place
room_for room (done place report count gap polarity) =
    pick (ltb room (length report)) (refused NOROOM place) (done place report count gap polarity)

-- the polarity as it is told: of what is held 0 or 1 in a radio with a chain, else 0
abbrev pub told_polarity : Receiver → ℕ
told_polarity c = chain_start (radio_of c.mode) (c.polarity % 2)

-- what a record that ended well holds
abbrev pub holding : Receiver → Answer
holding c = done c.taken (take c.length c.octets) c.count c.gap (told_polarity c)

-- Take, on an open record: 12, with place, n and count 0. On one ended by a refusal: that number
-- and place, n and count 0. On one ended well: the report, where there is room, with the gap as it
-- is held. Gap and polarity of all else are 0.
unfoldable pub takes : Receiver → ℕ → Answer
takes c room =
    pick (forged c) (refused FORGED 0)
    (pick (is_open c) (refused NOTENDED 0)
    (pick (ended_well c) (room_for room (holding c))
    (refused c.ended c.taken)))

-- what take gives back, and the lent buffer at exit, unchanged on anything but done
abbrev pub take_of : Receiver → List ℕ → Outcome Reading
take_of c buffer = answered (takes c (length buffer)) buffer
