-- The profile's rules as document 02 tells them, of single reports and frames and in its numerals,
-- by computation: with another numeral in definition, code and theorems alike everything would
-- still be proved. Assumes nothing.
use mathlib.Core.Path.{◌≡◌, refl}
use mathlib.Core.List.{List, [], ◌∷◌}
use Prim.Native.Nat.{ℕ}
use lib.ListN.{replicate}
use Rattle.codes.specs.Chips.{distance, bad}
use Rattle.codes.specs.Radio.{lowband, lowband_word, lowband_words, turned_words, turns, turned, odd_inverted}
use Rattle.codes.specs.Symbol.{least, first, nearest, nearest_word, nearest_but, symbol_of}
use Rattle.frame.specs.Outcome.{Outcome, outcome}
use Rattle.frame.specs.Frame.{digits, raws, encode, formed, symbols_with, chips_of, frame_with}
use Rattle.frame.specs.Write.{written}
use Rattle.reader.specs.declared.Reading.{Reading}
use Rattle.order.specs.Received.{decode, value_of, octets_from}
use Rattle.order.specs.Order.{windows, rules, repaired, smallest_gap, concluded, taking, reading_from, reading}
use Rattle.reader.specs.Read.{told, left, answer_at}
use Rattle.fcs.specs.Fcs.{entered, register_after, bits, fcs_of}
use Rattle.checked.specs.Profile.{all_zero, check_of, checked_answer, read_checked_of, written_checked}

-- The tests of a report: none, one and two octets are 14, whatever they are; three zeros are 16; a
-- published acknowledgement passes, and with its FCS exchanged it is 15; octets that aren't all 0
-- pass with an FCS of 0.
pub check_sheet : (check_of [] ≡ 14) × (check_of (0 ∷ []) ≡ 14) × (check_of (0 ∷ 0 ∷ []) ≡ 14) × (check_of (1 ∷ 2 ∷ []) ≡ 14) × (check_of (0 ∷ 0 ∷ 0 ∷ []) ≡ 16)
    × (check_of (0x02 ∷ 0x00 ∷ 0x6A ∷ 0xE4 ∷ 0x79 ∷ []) ≡ 0) × (check_of (0x02 ∷ 0x00 ∷ 0x6A ∷ 0x79 ∷ 0xE4 ∷ []) ≡ 15)
    × (check_of (0x01 ∷ 0x89 ∷ 0x11 ∷ 0 ∷ 0 ∷ []) ≡ 0)
unfolding check_of all_zero fcs_of register_after entered bits digits value_of
check_sheet = (refl, refl, refl, refl, refl, refl, refl, refl)

-- the number of a writing into no room
abbrev number_of : ℕ → List ℕ → ℕ
number_of mode report = (written_checked mode report []).answer.number

-- The tests of a writing: 1, empty 14, above 125 octets 2, all zero 16, then 3.
pub write_sheet : (number_of 3 [] ≡ 1) × (number_of 2 [] ≡ 14) × (number_of 2 (replicate 126 0) ≡ 2) × (number_of 2 (replicate 125 0) ≡ 16)
    × (number_of 2 (0 ∷ []) ≡ 16) × (number_of 2 (1 ∷ []) ≡ 3) × (number_of 2 (replicate 125 1) ≡ 3)
unfolding written_checked written all_zero fcs_of register_after entered bits digits raws encode symbols_with chips_of frame_with
    lowband_word lowband_words turned_words turns turned odd_inverted
write_sheet = (refl, refl, refl, refl, refl, refl, refl)

-- a refusal, the buffer as it was
abbrev refusal : ℕ → ℕ → List ℕ → Outcome Reading
refusal x place buffer = outcome (record { number = x; place = place; n = 0; count = 0; gap = 0; polarity = 0 }) buffer

-- frames of mode 2, with the reserved bit as given, read into a buffer
abbrev read_with : ℕ → List ℕ → List ℕ → Outcome Reading
read_with bit report buffer = read_checked_of 2 (frame_with lowband (formed bit 0) report) buffer

abbrev read_into : List ℕ → List ℕ → Outcome Reading
read_into report buffer = read_with 0 report buffer

-- The tests of a reading, at the number of symbols in the frame: two octets are 14; a wrong FCS is
-- 15; three zeros are 16, but the plain reader's 3 comes first. Done, the FCS is counted and
-- stored, and the byte after it stays.
pub read_sheet : (read_into (0 ∷ 0 ∷ []) (7 ∷ 7 ∷ []) ≡ refusal 14 16 (7 ∷ 7 ∷ []))
    × (read_into (0x02 ∷ 0x00 ∷ 0x6A ∷ 0xE4 ∷ 0x78 ∷ []) (7 ∷ 7 ∷ 7 ∷ 7 ∷ 7 ∷ []) ≡ refusal 15 22 (7 ∷ 7 ∷ 7 ∷ 7 ∷ 7 ∷ []))
    × (read_into (0 ∷ 0 ∷ 0 ∷ []) (7 ∷ 7 ∷ 7 ∷ []) ≡ refusal 16 18 (7 ∷ 7 ∷ 7 ∷ []))
    × (read_into (0 ∷ 0 ∷ 0 ∷ []) (7 ∷ 7 ∷ []) ≡ refusal 3 11 (7 ∷ 7 ∷ []))
    × (read_into (0x02 ∷ 0x00 ∷ 0x6A ∷ 0xE4 ∷ 0x79 ∷ []) (7 ∷ 7 ∷ 7 ∷ 7 ∷ 7 ∷ 9 ∷ [])
    ≡ outcome (record { number = 0; place = 22; n = 5; count = 0; gap = 6; polarity = 0 }) (0x02 ∷ 0x00 ∷ 0x6A ∷ 0xE4 ∷ 0x79 ∷ 9 ∷ []))
unfolding distance bad lowband_word lowband_words turned_words turns turned odd_inverted least first nearest nearest_word nearest_but symbol_of digits raws
    encode symbols_with chips_of frame_with decode value_of octets_from windows rules repaired smallest_gap concluded taking
    reading_from reading told left answer_at check_of
    checked_answer all_zero fcs_of register_after entered bits
read_sheet = (refl, refl, refl, refl, refl)

-- With the reserved bit set the acknowledgement is read all the same, and into too short a buffer
-- it is 3.
pub reserved_sheet : (read_with 1 (0x02 ∷ 0x00 ∷ 0x6A ∷ 0xE4 ∷ 0x79 ∷ []) (7 ∷ 7 ∷ 7 ∷ 7 ∷ 7 ∷ 9 ∷ [])
    ≡ outcome (record { number = 0; place = 22; n = 5; count = 0; gap = 6; polarity = 0 }) (0x02 ∷ 0x00 ∷ 0x6A ∷ 0xE4 ∷ 0x79 ∷ 9 ∷ []))
    × (read_with 1 (0x02 ∷ 0x00 ∷ 0x6A ∷ 0xE4 ∷ 0x79 ∷ []) (7 ∷ 7 ∷ 7 ∷ 7 ∷ []) ≡ refusal 3 11 (7 ∷ 7 ∷ 7 ∷ 7 ∷ []))
unfolding distance bad lowband_word lowband_words turned_words turns turned odd_inverted least first nearest nearest_word nearest_but symbol_of digits raws
    encode symbols_with chips_of frame_with decode value_of octets_from windows rules repaired smallest_gap concluded taking
    reading_from reading told left answer_at check_of
    checked_answer all_zero fcs_of register_after entered bits
reserved_sheet = (refl, refl)
