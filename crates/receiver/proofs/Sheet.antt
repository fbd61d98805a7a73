-- The stepping receiver in numerals, by computation: what start gives; a frame of mode 2 pushed
-- symbol by symbol, with the whole record on the way and at its end; and which records are answered
-- 34, at both sides of each bound. With another bound, or another number in a record, in
-- definitions, words, code and laws alike, all else would be proved. Assumes nothing.
use mathlib.Core.Path.{◌≡◌, refl}
use mathlib.Core.List.{List, [], ◌∷◌, ◌++◌}
use Prim.Native.Nat.{ℕ}
use lib.ListN.{take, replicate}
use Rattle.codes.specs.Chips.{distance, bad}
use Rattle.codes.specs.Radio.{word, bpsk, oqpsk, lowband}
use Rattle.codes.specs.Radio.{bpsk_words, oqpsk_word, oqpsk_words, lowband_word, lowband_words, turned_words, turns, turned, odd_inverted}
use Rattle.codes.specs.Symbol.{least, first, nearest, nearest_word, nearest_but, symbol_of}
use Rattle.frame.specs.Outcome.{Outcome, outcome}
use Rattle.order.specs.Order.{rules}
use Rattle.order.specs.Taking.{advanced, followed, kept_at}
use Rattle.reader.specs.declared.Reading.{Reading}
use Rattle.reader.specs.Read.{told, left}
use Rattle.reader.proofs.Sheet.{wrong_at}
use Rattle.receiver.specs.declared.Receiver.{Receiver}
use Rattle.receiver.specs.declared.Step.{Step}
use Rattle.receiver.specs.Record.{step, start_of, forged, push_of, finish_of, room_for, takes, take_of}

-- a record of these numbers: mode, ended, taken, length, count, last, octet, gap, polarity; and the
-- first of its octets, the others 0
abbrev holding : ℕ → ℕ → ℕ → ℕ → ℕ → ℕ → ℕ → ℕ → ℕ → List ℕ → Receiver
holding mode ended taken length count last octet gap polarity octets =
    record {
      mode = mode;
      ended = ended;
      taken = taken;
      length = length;
      count = count;
      last = last;
      octet = octet;
      gap = gap;
      polarity = polarity;
      octets = take 127 (octets ++ replicate 127 0);
    }

-- ---- start

-- 13 and an open record for modes 0 to 2; 1, and a record that has ended so, for any other
pub start_sheet : (start_of 0 ≡ step 13 (holding 0 13 0 0 0 0 0 4294967295 0 [])) × (start_of 1 ≡ step 13 (holding 1 13 0 0 0 0 0 4294967295 0 []))
    × (start_of 2 ≡ step 13 (holding 2 13 0 0 0 0 0 4294967295 0 []))
    × (start_of 3 ≡ step 1 (holding 3 1 0 0 0 0 0 4294967295 0 [])) × (start_of 4294967295 ≡ step 1 (holding 4294967295 1 0 0 0 0 0 4294967295 0 []))
unfolding start_of
start_sheet = (refl, refl, refl, refl, refl)

-- ---- push, finish and take

-- what take tells, and the lent buffer
abbrev tells : ℕ → ℕ → ℕ → ℕ → ℕ → ℕ → List ℕ → Outcome Reading
tells number place n count gap polarity buffer =
    outcome (record { number = number; place = place; n = n; count = count; gap = gap; polarity = polarity }) buffer

-- a word of mode 2 pushed to a record, and one with the chip at a place wrong
abbrev pushes : Receiver → ℕ → Step
pushes c v = push_of c (word lowband v)

abbrev wrong : ℕ → ℕ → List ℕ
wrong v i = wrong_at i (word lowband v)

-- after the first symbol of the octet 0x5A, in mode 2's frame of 0x5A and 0xC3
abbrev head : Receiver
head = holding 2 13 13 2 0 10 160 6 0 []

-- The symbols of that frame, some of them with a chip wrong: the first; the last of the start
-- octet; the last of the length octet, with either reserved bit; the first of the report; the last
-- of each of its octets. A length of 0, with which it is done.
pub push_sheet : (push_of (start_of 2).receiver (wrong 0 0) ≡ step 13 (holding 2 13 1 0 1 0 0 4 0 []))
    × (pushes (holding 2 13 9 0 1 7 112 4 0 []) 10 ≡ step 13 (holding 2 13 10 0 1 10 0xA7 4 0 []))
    × (pushes (holding 2 13 11 0 0 2 42 6 0 []) 0 ≡ step 13 (holding 2 13 12 2 0 0 2 6 0 []))
    × (pushes (holding 2 13 11 0 0 2 42 6 0 []) 8 ≡ step 13 (holding 2 13 12 2 0 8 130 6 0 []))
    × (pushes (holding 2 13 12 2 0 0 2 6 0 []) 10 ≡ step 13 head)
    × (push_of head (wrong 5 1) ≡ step 13 (holding 2 13 14 2 1 5 0x5A 4 0 (0x5A ∷ [])))
    × (pushes (holding 2 13 15 2 1 3 53 4 0 (0x5A ∷ [])) 12 ≡ step 0 (holding 2 0 16 2 1 12 0xC3 4 0 (0x5A ∷ 0xC3 ∷ [])))
    × (pushes (holding 2 13 11 0 0 0 10 6 0 []) 0 ≡ step 0 (holding 2 0 12 0 0 0 0 6 0 []))
unfolding distance bad lowband_word lowband_words turned_words turns turned odd_inverted least first nearest nearest_word nearest_but symbol_of
    rules advanced followed kept_at start_of forged push_of
push_sheet = (refl, refl, refl, refl, refl, refl, refl, refl)

-- What ends a record or leaves it: a symbol that is lost, a byte that is no chip, a raw symbol in
-- the preamble, another start octet, finish; a part a chip too short or too long, and take.
pub refusal_sheet : (push_of head (replicate 16 1) ≡ step 6 (holding 2 6 13 2 0 10 160 6 0 []))
    × (push_of head (replicate 16 2) ≡ step 5 (holding 2 5 13 2 0 10 160 6 0 []))
    × (pushes (holding 2 13 5 0 3 0 0 4 0 []) 1 ≡ step 7 (holding 2 7 5 0 3 0 0 4 0 []))
    × (pushes (holding 2 13 9 0 1 7 112 4 0 []) 9 ≡ step 8 (holding 2 8 9 0 1 7 112 4 0 []))
    × (finish_of head ≡ step 4 (holding 2 4 13 2 0 10 160 6 0 [])) × (push_of head (replicate 15 0) ≡ step 11 head)
    × (push_of head (replicate 17 0) ≡ step 11 head)
    × (take_of head (7 ∷ 7 ∷ 7 ∷ []) ≡ tells 12 0 0 0 0 0 (7 ∷ 7 ∷ 7 ∷ []))
unfolding distance bad lowband_word lowband_words turned_words turns turned odd_inverted least first nearest nearest_word nearest_but symbol_of
    rules advanced followed kept_at forged push_of finish_of takes told left
refusal_sheet = (refl, refl, refl, refl, refl, refl, refl, refl)

-- mode 0's first symbols, the other way round: the polarity and the last bit are held, and a symbol
-- turned back is 7
pub polarity_sheet : (push_of (start_of 0).receiver (word bpsk 1) ≡ step 13 (holding 0 13 1 0 0 1 0 15 1 []))
    × (push_of (push_of (start_of 0).receiver (word bpsk 1)).receiver (word bpsk 0) ≡ step 7 (holding 0 7 1 0 0 1 0 15 1 []))
unfolding distance bad bpsk_words least first nearest nearest_word nearest_but symbol_of rules advanced followed kept_at start_of forged push_of
polarity_sheet = (refl, refl)

-- The same octets in modes 0, the other way round, and 1: the last symbol of the length octet and
-- of each octet of the report, and nothing else kept among the octets.
pub other_modes_sheet : (push_of (holding 0 13 47 0 0 1 5 15 1 []) (word bpsk 1) ≡ step 13 (holding 0 13 48 2 0 1 2 15 1 []))
    × (push_of (holding 0 13 55 2 0 0 180 13 1 []) (word bpsk 0) ≡ step 13 (holding 0 13 56 2 0 0 0x5A 13 1 (0x5A ∷ [])))
    × (push_of (holding 0 13 63 2 3 0 134 9 1 (0x5A ∷ [])) (word bpsk 1) ≡ step 0 (holding 0 0 64 2 3 1 0xC3 9 1 (0x5A ∷ 0xC3 ∷ [])))
    × (push_of (holding 1 13 11 0 0 2 42 12 0 []) (word oqpsk 0) ≡ step 13 (holding 1 13 12 2 0 0 2 12 0 []))
    × (push_of (holding 1 13 13 2 0 10 160 12 0 []) (word oqpsk 5) ≡ step 13 (holding 1 13 14 2 0 5 0x5A 12 0 (0x5A ∷ [])))
    × (push_of (holding 1 13 15 2 4 3 53 8 0 (0x5A ∷ [])) (word oqpsk 12) ≡ step 0 (holding 1 0 16 2 4 12 0xC3 8 0 (0x5A ∷ 0xC3 ∷ [])))
unfolding distance bad bpsk_words oqpsk_word oqpsk_words turned_words turns turned odd_inverted least first nearest nearest_word nearest_but symbol_of
    rules advanced followed kept_at forged push_of
other_modes_sheet = (refl, refl, refl, refl, refl, refl)

-- what take tells of two octets that a record of 16 symbols holds, with a count, a gap and a
-- polarity
abbrev two : Receiver
two = holding 2 0 16 2 5 0 0 4 1 (1 ∷ 2 ∷ 3 ∷ [])

-- Into three bytes, two, and one; of one octet in mode 0, whose polarity is told; of a record that
-- a refusal ended, whatever else it holds; and of forged ones.
pub take_sheet : (take_of two (7 ∷ 7 ∷ 7 ∷ []) ≡ tells 0 16 2 5 4 0 (1 ∷ 2 ∷ 7 ∷ []))
    × (take_of two (7 ∷ 7 ∷ []) ≡ tells 0 16 2 5 4 0 (1 ∷ 2 ∷ [])) × (take_of two (7 ∷ []) ≡ tells 3 16 0 0 0 0 (7 ∷ []))
    × (take_of (holding 0 0 56 1 5 0 0 9 3 (1 ∷ [])) (7 ∷ []) ≡ tells 0 56 1 5 9 1 (1 ∷ []))
    × (take_of (holding 3 6 20 200 999 0 0 4 1 []) (7 ∷ []) ≡ tells 6 20 0 0 0 0 (7 ∷ []))
    × (take_of (holding 3 0 16 2 5 0 0 4 1 (1 ∷ 2 ∷ [])) (7 ∷ 7 ∷ []) ≡ tells 34 0 0 0 0 0 (7 ∷ 7 ∷ []))
    × (take_of (holding 2 13 16 2 5 0 0 4 1 (1 ∷ 2 ∷ [])) (7 ∷ 7 ∷ []) ≡ tells 34 0 0 0 0 0 (7 ∷ 7 ∷ []))
unfolding forged room_for takes told left
take_sheet = (refl, refl, refl, refl, refl, refl, refl)

-- ---- 34

-- what push of no chips, finish and take into no room answer to a record of a mode, ended, taken,
-- length and count
abbrev answers : ℕ → ℕ → ℕ → ℕ → ℕ → List ℕ
answers mode ended taken length count =
    let c = holding mode ended taken length count 0 0 6 0 [] in
    (push_of c []).number ∷ (finish_of c).number ∷ (take_of c []).answer.number ∷ []

-- of an open record, of one that ended well with an empty report, and of any that is forged
abbrev going : List ℕ
going = 11 ∷ 4 ∷ 12 ∷ []

abbrev well : List ℕ
well = 10 ∷ 10 ∷ 0 ∷ []

abbrev forgery : List ℕ
forgery = 34 ∷ 34 ∷ 34 ∷ []

-- Open: at most 6, 5 and 2 chips repaired in a symbol; fewer symbols taken than 48, 12 and 12, and
-- two more for each octet in mode 2; a length of at most 127; a mode of at most 2.
pub open_sheet : (answers 0 13 3 0 18 ≡ going) × (answers 0 13 3 0 19 ≡ forgery) × (answers 1 13 3 0 15 ≡ going) × (answers 1 13 3 0 16 ≡ forgery)
    × (answers 2 13 3 0 6 ≡ going) × (answers 2 13 3 0 7 ≡ forgery) × (answers 2 13 0 0 0 ≡ going) × (answers 2 13 0 0 1 ≡ forgery)
    × (answers 0 13 47 0 0 ≡ going) × (answers 0 13 48 0 0 ≡ forgery) × (answers 1 13 11 0 0 ≡ going) × (answers 1 13 12 0 0 ≡ forgery)
    × (answers 2 13 11 0 0 ≡ going) × (answers 2 13 12 0 0 ≡ forgery) × (answers 2 13 13 1 0 ≡ going) × (answers 2 13 14 1 0 ≡ forgery)
    × (answers 2 13 265 127 0 ≡ going) × (answers 2 13 266 127 0 ≡ forgery) × (answers 2 13 12 128 0 ≡ forgery)
    × (answers 3 13 0 0 0 ≡ forgery) × (answers 4294967295 13 0 0 0 ≡ forgery)
unfolding forged push_of finish_of room_for takes told
open_sheet = (refl, refl, refl, refl, refl, refl, refl, refl, refl, refl, refl, refl, refl, refl, refl, refl, refl, refl, refl, refl, refl)

-- Ended well: the same counts, lengths and modes, and just so many symbols taken. (With a report
-- there is no room for it here: 3.) One ended by a refusal is never tested.
pub well_sheet : (answers 2 0 12 0 24 ≡ well) × (answers 2 0 12 0 25 ≡ forgery) × (answers 2 0 11 0 0 ≡ forgery) × (answers 2 0 13 0 0 ≡ forgery)
    × (answers 1 0 12 0 60 ≡ well) × (answers 1 0 12 0 61 ≡ forgery) × (answers 0 0 48 0 288 ≡ well) × (answers 0 0 48 0 289 ≡ forgery)
    × (answers 0 0 47 0 0 ≡ forgery) × (answers 0 0 49 0 0 ≡ forgery) × (answers 2 0 266 127 0 ≡ 10 ∷ 10 ∷ 3 ∷ []) × (answers 2 0 268 128 0 ≡ forgery)
    × (answers 3 0 12 0 0 ≡ forgery) × (answers 3 6 999 200 9999 ≡ 10 ∷ 10 ∷ 6 ∷ [])
unfolding forged push_of finish_of room_for takes told
well_sheet = (refl, refl, refl, refl, refl, refl, refl, refl, refl, refl, refl, refl, refl, refl)
