-- The radios (the scope, "The three radios"), each a row of one list. Everything below `radio_of`
-- takes the radio, so another radio is another row.
use Rattle.std.specs.Prelude.{◌≡◌, ℕ, zero, suc, ◌-◌, ◌*◌, ◌/◌, ◌^◌, ◌<◌, ◌≤◌, Bool, true, false, List, [], ◌∷◌, ◌++◌, map, length, take, drop, replicate, nat_lt, slice_index_or}
use Rattle.codes.specs.Chips.{distance, bad}

-- chips per symbol, bits per symbol, accepted distance, whether each bit is added to the one
-- encoded before it, code words
pub record Radio : Type 0 where
  pub size : ℕ
  pub bits : ℕ
  pub limit : ℕ
  pub chained : Bool
  pub words : List (List ℕ)

-- Mode 0. The word for bit 0 is 111101011001000 and for bit 1 is 000010100110111, c0 at the left
-- and first.
unfoldable pub bpsk_words : List (List ℕ)
bpsk_words =
    (1 ∷ 1 ∷ 1 ∷ 1 ∷ 0 ∷ 1 ∷ 0 ∷ 1 ∷ 1 ∷ 0 ∷ 0 ∷ 1 ∷ 0 ∷ 0 ∷ 0 ∷ [])
    ∷ (0 ∷ 0 ∷ 0 ∷ 0 ∷ 1 ∷ 0 ∷ 1 ∷ 0 ∷ 0 ∷ 1 ∷ 1 ∷ 0 ∷ 1 ∷ 1 ∷ 1 ∷ [])
    ∷ []

-- Mode 1. Symbol 0 is 11011001110000110101001000101110.
unfoldable pub oqpsk_word : List ℕ
oqpsk_word =
    1 ∷ 1 ∷ 0 ∷ 1 ∷ 1 ∷ 0 ∷ 0 ∷ 1 ∷ 1 ∷ 1 ∷ 0 ∷ 0 ∷ 0 ∷ 0 ∷ 1 ∷ 1
    ∷ 0 ∷ 1 ∷ 0 ∷ 1 ∷ 0 ∷ 0 ∷ 1 ∷ 0 ∷ 0 ∷ 0 ∷ 1 ∷ 0 ∷ 1 ∷ 1 ∷ 1 ∷ 0
    ∷ []

-- a word turned right by k chips
unfoldable pub turned : ℕ → List ℕ → List ℕ
turned k w = drop (length w - k) w ++ take (length w - k) w

-- n words: w, and after it each the one before, turned right by k chips
unfoldable pub turns : ℕ → ℕ → List ℕ → List (List ℕ)
turns zero k w = []
turns (suc n) k w = w ∷ turns n k (turned k w)

-- a word with each chip of odd index inverted
unfoldable pub odd_inverted : List ℕ → List ℕ
odd_inverted [] = []
odd_inverted (x ∷ []) = x ∷ []
odd_inverted (x ∷ y ∷ w) = x ∷ (1 - y) ∷ odd_inverted w

-- Symbols 1 to 7 are each the one before, turned right by k chips. Symbols 8 to 15 are symbols 0 to
-- 7 with each chip of odd index inverted.
unfoldable pub turned_words : ℕ → List ℕ → List (List ℕ)
turned_words k w = turns 8 k w ++ map odd_inverted (turns 8 k w)

unfoldable pub oqpsk_words : List (List ℕ)
oqpsk_words = turned_words 4 oqpsk_word

-- Mode 2. Word 0 is 0011111000100101, words 1 to 7 each turn the one before right by two chips,
-- words 8 to 15 invert the odd chips of 0 to 7.
unfoldable pub lowband_word : List ℕ
lowband_word = 0 ∷ 0 ∷ 1 ∷ 1 ∷ 1 ∷ 1 ∷ 1 ∷ 0 ∷ 0 ∷ 0 ∷ 1 ∷ 0 ∷ 0 ∷ 1 ∷ 0 ∷ 1 ∷ []

unfoldable pub lowband_words : List (List ℕ)
lowband_words = turned_words 2 lowband_word

-- 868/915 BPSK
abbrev pub bpsk : Radio
bpsk = record { size = 15; bits = 1; limit = 6; chained = true; words = bpsk_words }

-- 2450 O-QPSK
abbrev pub oqpsk : Radio
oqpsk = record { size = 32; bits = 4; limit = 5; chained = false; words = oqpsk_words }

-- 868/915 O-QPSK
abbrev pub lowband : Radio
lowband = record { size = 16; bits = 4; limit = 2; chained = false; words = lowband_words }

-- the row of a mode is its radio
abbrev pub radios : List Radio
radios = bpsk ∷ oqpsk ∷ lowband ∷ []

-- whether a mode number has a radio; where it has none the number given back is 1
abbrev pub known : ℕ → Bool
known mode = nat_lt mode (length radios)

-- the radio of a mode that has one. (Row 0 for any other, so that it is total: a promise tests
-- `known` first.)
abbrev pub radio_of : ℕ → Radio
radio_of mode = slice_index_or radios mode bpsk

-- the word of a symbol
abbrev pub word : Radio → ℕ → List ℕ
word r v = slice_index_or r.words v []

-- A radio is sound where its words have the length that it says and are of chips, there are 2 ^
-- bits of them, any two are more than twice the limit apart, only single bits are chained, and an
-- octet is a whole number of symbols. Laws about the definitions ask just this; those about the
-- code ask besides that its numbers fit the code's.
pub record Sound (r : Radio) : Type 0 where
  pub sized : (v : ℕ) → v < length r.words → length (word r v) ≡ r.size
  pub chips : (v : ℕ) → v < length r.words → bad (word r v) ≡ false
  pub many : length r.words ≡ 2 ^ r.bits
  pub apart : (u v : ℕ) → u < length r.words → v < length r.words → distance (word r u) (word r v) ≤ 2 * r.limit → u ≡ v
  pub single : r.chained ≡ true → r.bits ≡ 1
  pub divides : 8 / r.bits * r.bits ≡ 8

-- no word is within the limit of a flat symbol, all 0 or all 1
abbrev pub Unflat : Radio → Type 0
Unflat r = (c v : ℕ) → c ≤ 1 → v < length r.words → r.limit < distance (replicate r.size c) (word r v)
