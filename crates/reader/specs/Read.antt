-- The reader (document 01, "Numbers given back").
use Rattle.std.specs.Prelude.{ℕ, List, ◌++◌, length, drop}
use Rattle.codes.specs.Numbers.{DONE, BADMODE}
use Rattle.codes.specs.Chips.{pick}
use Rattle.codes.specs.Radio.{known, radio_of}
use Rattle.frame.specs.Outcome.{Outcome, outcome}
use Rattle.reader.specs.declared.Reading.{Reading}
use Rattle.order.specs.Order.{Answer, refused, done, reading}

-- what is given back of a report of n octets
abbrev pub reported : ℕ → ℕ → ℕ → ℕ → ℕ → Reading
reported place n count gap polarity =
    record { number = DONE; place = place; n = n; count = count; gap = gap; polarity = polarity }

-- Done: place is the number of symbols in the frame, n is the length, the count is the number of
-- chips repaired, the gap is the smallest of the frame's symbols, the polarity is the frame's.
-- Refused: place as in the reading order, n, count, gap and polarity 0.
unfoldable pub told : Answer → Reading
told (refused x place) = record { number = x; place = place; n = 0; count = 0; gap = 0; polarity = 0 }
told (done place report count gap polarity) = reported place (length report) count gap polarity

-- Done: the first n bytes of the report buffer are the report, later ones keep their values.
-- Refused: report buffer unchanged.
unfoldable pub left : Answer → List ℕ → List ℕ
left (refused x place) buffer = buffer
left (done place report count gap polarity) buffer = report ++ drop (length report) buffer

-- The reader tests 1 before any symbol, place 0.
unfoldable pub answer_at : ℕ → ℕ → List ℕ → Answer
answer_at mode room chips = pick (known mode) (reading (radio_of mode) room chips) (refused BADMODE 0)

-- what an answer comes to: what is given back, and the report buffer at exit
abbrev pub answered : Answer → List ℕ → Outcome Reading
answered a buffer = outcome (told a) (left a buffer)

-- the reader, whose room is the report buffer's length
abbrev pub read_of : ℕ → List ℕ → List ℕ → Outcome Reading
read_of mode chips buffer = answered (answer_at mode (length buffer) chips) buffer
