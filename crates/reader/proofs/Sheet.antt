-- Readings in numerals, by computation: with another number in definitions, code and laws alike all
-- else would be proved. Of mode 2's frame of an empty report: as written; with one chip wrong in
-- the preamble, or in the last symbol; with one wrong that leads to no other word; and with symbols
-- of two gaps; of one octet, with its smallest gap in the report. Of mode 0's: either way round,
-- and turned over after some chips. And every refusal, at symbols within the frame of two octets in
-- mode 2. Assumes nothing.
use mathlib.Core.Path.{◌≡◌, refl}
use mathlib.Core.List.{List, [], ◌∷◌, ◌++◌}
use Prim.Native.Nat.{ℕ, ◌-◌}
use lib.ListN.{get_or, set, take, replicate}
use Rattle.codes.specs.Chips.{distance, bad}
use Rattle.codes.specs.Radio.{bpsk, lowband, bpsk_words, lowband_word, lowband_words, turned_words, turns, turned, odd_inverted}
use Rattle.codes.specs.Symbol.{least, first, nearest, nearest_word, nearest_but, symbol_of}
use Rattle.frame.specs.Outcome.{Outcome, outcome}
use Rattle.frame.specs.Frame.{digits, raws, encode, symbols_with, chips_of, frame, frame_with}
use Rattle.frame.proofs.Bench.{inverted}
use Rattle.order.specs.Received.{decode, value_of, octets_from}
use Rattle.order.specs.Order.{windows, rules, repaired, smallest_gap, concluded, taking, reading_from, reading}
use Rattle.reader.specs.declared.Reading.{Reading}
use Rattle.reader.specs.Read.{told, left, answer_at, read_of}

-- chips with the one at a place wrong
abbrev pub wrong_at : ℕ → List ℕ → List ℕ
wrong_at i chips = set chips i (1 - get_or chips i 0)

-- the frame's twelve symbols read, with a count and a gap
abbrev repaired_to : ℕ → ℕ → Outcome Reading
repaired_to count gap = outcome (record { number = 0; place = 12; n = 0; count = count; gap = gap; polarity = 0 }) []

pub gap_sheet : (read_of 2 (frame lowband []) [] ≡ repaired_to 0 6)
    × (read_of 2 (wrong_at 0 (frame lowband [])) [] ≡ repaired_to 1 4)
    × (read_of 2 (wrong_at 176 (frame lowband [])) [] ≡ repaired_to 1 4)
    × (read_of 2 (wrong_at 177 (frame lowband [])) [] ≡ repaired_to 1 6)
    × (read_of 2 (wrong_at 48 (wrong_at 52 (wrong_at 176 (frame lowband [])))) [] ≡ repaired_to 3 2)
    × (read_of 2 (wrong_at 0 (wrong_at 192 (wrong_at 196 (frame lowband (0x10 ∷ []))))) (7 ∷ 7 ∷ [])
    ≡ outcome (record { number = 0; place = 14; n = 1; count = 3; gap = 2; polarity = 0 }) (0x10 ∷ 7 ∷ []))
unfolding distance bad lowband_word lowband_words turned_words turns turned odd_inverted least first nearest nearest_word nearest_but symbol_of
    digits raws encode symbols_with chips_of frame_with decode value_of octets_from windows rules repaired smallest_gap concluded taking
    reading_from reading told left answer_at
gap_sheet = (refl, refl, refl, refl, refl, refl)

-- mode 0's frame of an empty report, all of whose 48 symbols are read
abbrev empty : List ℕ
empty = frame bpsk []

abbrev reads_to : ℕ → ℕ → ℕ → Outcome Reading
reads_to count gap polarity = outcome (record { number = 0; place = 48; n = 0; count = count; gap = gap; polarity = polarity }) []

-- a refusal, with a buffer of so many sevens left as it was
abbrev refused_into : ℕ → ℕ → ℕ → Outcome Reading
refused_into room number place = outcome (record { number = number; place = place; n = 0; count = 0; gap = 0; polarity = 0 }) (replicate room 7)

abbrev refused_at : ℕ → ℕ → Outcome Reading
refused_at = refused_into 0

-- As written; inverted; inverted with one chip wrong; with symbol 0 alone inverted, and with nine
-- of its chips; with seven of them, so that it is lost; turned over behind the preamble, so that
-- the start octet is another; and turned over at the reserved bit, which is not looked at.
pub polarity_sheet : (read_of 0 empty [] ≡ reads_to 0 15 0)
    × (read_of 0 (inverted 720 empty) [] ≡ reads_to 0 15 1)
    × (read_of 0 (wrong_at 0 (inverted 720 empty)) [] ≡ reads_to 1 13 1)
    × (read_of 0 (inverted 15 empty) [] ≡ refused_at 7 1)
    × (read_of 0 (inverted 9 empty) [] ≡ refused_at 7 1)
    × (read_of 0 (inverted 7 empty) [] ≡ refused_at 6 0)
    × (read_of 0 (inverted 480 empty) [] ≡ refused_at 8 39)
    × (read_of 0 (inverted 705 empty) [] ≡ reads_to 0 15 1)
unfolding distance bad bpsk_words least first nearest nearest_word nearest_but symbol_of
    digits raws encode symbols_with chips_of frame_with decode value_of octets_from windows rules repaired smallest_gap concluded taking
    reading_from reading told left answer_at
polarity_sheet = (refl, refl, refl, refl, refl, refl, refl, refl)

-- the symbols of mode 2's frame of the octets 0x5A and 0xC3
abbrev wet : List ℕ
wet = 0 ∷ 0 ∷ 0 ∷ 0 ∷ 0 ∷ 0 ∷ 0 ∷ 0 ∷ 7 ∷ 10 ∷ 2 ∷ 0 ∷ 10 ∷ 5 ∷ 3 ∷ 12 ∷ []

-- read into a buffer of so many sevens
abbrev reads_into : ℕ → List ℕ → Outcome Reading
reads_into room chips = read_of 2 chips (replicate room 7)

-- As sent; 4, a chip short in symbols 15 and 4; 5, a byte of 2 or of 255; 6, three wrong chips or
-- flat ones; 7, in symbols 1 and 7 of the preamble; 8, by the first and the last symbol of the
-- start octet; 3, with one byte lent, even where a later byte is no chip. And of two faults in a
-- symbol the first in the order, of two symbols the earlier.
pub refusal_sheet : (reads_into 3 (chips_of lowband wet)
    ≡ outcome (record { number = 0; place = 16; n = 2; count = 0; gap = 6; polarity = 0 }) (0x5A ∷ 0xC3 ∷ 7 ∷ []))
    × (reads_into 3 (take 255 (chips_of lowband wet)) ≡ refused_into 3 4 15)
    × (reads_into 3 (take 79 (chips_of lowband wet)) ≡ refused_into 3 4 4)
    × (reads_into 3 (set (chips_of lowband wet) 215 2) ≡ refused_into 3 5 13)
    × (reads_into 3 (set (chips_of lowband wet) 63 255) ≡ refused_into 3 5 3)
    × (reads_into 3 (wrong_at 224 (wrong_at 225 (wrong_at 226 (chips_of lowband wet)))) ≡ refused_into 3 6 14)
    × (reads_into 3 (chips_of lowband (0 ∷ 0 ∷ []) ++ replicate 224 0) ≡ refused_into 3 6 2)
    × (reads_into 3 (chips_of lowband (set wet 1 4)) ≡ refused_into 3 7 1)
    × (reads_into 3 (chips_of lowband (set wet 7 8)) ≡ refused_into 3 7 7)
    × (reads_into 3 (chips_of lowband (set wet 8 6)) ≡ refused_into 3 8 9)
    × (reads_into 3 (chips_of lowband (set wet 9 2)) ≡ refused_into 3 8 9)
    × (reads_into 2 (chips_of lowband wet)
    ≡ outcome (record { number = 0; place = 16; n = 2; count = 0; gap = 6; polarity = 0 }) (0x5A ∷ 0xC3 ∷ []))
    × (reads_into 1 (chips_of lowband wet) ≡ refused_into 1 3 11)
    × (reads_into 1 (set (chips_of lowband wet) 215 2) ≡ refused_into 1 3 11)
    × (reads_into 3 (set (chips_of lowband (0 ∷ 0 ∷ []) ++ replicate 224 0) 40 2) ≡ refused_into 3 5 2)
    × (reads_into 3 (take 79 (set (chips_of lowband wet) 70 2)) ≡ refused_into 3 4 4)
    × (reads_into 3 (set (chips_of lowband (set wet 3 1)) 80 2) ≡ refused_into 3 7 3)
unfolding distance bad lowband_word lowband_words turned_words turns turned odd_inverted least first nearest nearest_word nearest_but symbol_of
    chips_of decode value_of octets_from windows rules repaired smallest_gap concluded taking reading_from reading told left answer_at
refusal_sheet = (refl, refl, refl, refl, refl, refl, refl, refl, refl, refl, refl, refl, refl, refl, refl, refl, refl)
