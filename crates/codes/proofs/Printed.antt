-- What the documents print, against the definitions, by computation: the numbers given back, the
-- mode numbers, and the code words as source document 000 has them. With two names exchanged, a
-- mode given to another row, or words turned left, in definition and code alike, every promise and
-- every distance would be the same. Assumes nothing.
use Rattle.std.proofs.Common.{◌≡◌, ℕ, zero, suc, ◌/◌, ◌%◌, ◌^◌, ltb, List, [], ◌∷◌, map, take, drop, refl}
use Rattle.codes.specs.Numbers.{DONE, BADMODE, TOOLONG, NOROOM, RUNOUT, NOCHIP, LOST, PREAMBLE, BADSTART}
use Rattle.codes.specs.Numbers.{ENDED, BADPART, NOTENDED, MORE, TOOFEW, BADCHECK, ALLZERO, FORGED}
use Rattle.codes.specs.Symbol.{NOGAP}
use Rattle.codes.specs.Radio.{known, radio_of, bpsk, oqpsk, lowband}
use Rattle.codes.specs.Radio.{bpsk_words, oqpsk_word, oqpsk_words, lowband_word, lowband_words, turned, turns, odd_inverted, turned_words}

-- the numbers given back, in the order of the scope's table: 9 is none of them
pub numbers_listed :
    (DONE ∷ BADMODE ∷ TOOLONG ∷ NOROOM ∷ RUNOUT ∷ NOCHIP ∷ LOST ∷ PREAMBLE ∷ BADSTART
    ∷ ENDED ∷ BADPART ∷ NOTENDED ∷ MORE ∷ TOOFEW ∷ BADCHECK ∷ ALLZERO ∷ FORGED ∷ [])
    ≡ (0 ∷ 1 ∷ 2 ∷ 3 ∷ 4 ∷ 5 ∷ 6 ∷ 7 ∷ 8 ∷ 10 ∷ 11 ∷ 12 ∷ 13 ∷ 14 ∷ 15 ∷ 16 ∷ 34 ∷ [])
numbers_listed = refl

-- what is held for the gap before the first symbol: the greatest number of 32 bits
pub no_gap_listed : NOGAP ≡ 4294967295
no_gap_listed = refl

-- the modes: each number's radio, and no number above 2 has one
pub modes_listed : (radio_of 0 ≡ bpsk) × (radio_of 1 ≡ oqpsk) × (radio_of 2 ≡ lowband) × ((mode : ℕ) → known mode ≡ ltb mode 3)
modes_listed = (refl, refl, refl, λ mode. refl)

-- a word of n chips as a table prints it: the decimal digits of a numeral, c0 at the left
abbrev pub printed : ℕ → ℕ → List ℕ
printed zero row = []
printed (suc n) row = row / 10 ^ n % 10 ∷ printed n row

-- Table 24: the words of input bits 0 and 1
pub table_24 : bpsk.words ≡ map (printed 15) (111101011001000 ∷ 000010100110111 ∷ [])
unfolding bpsk_words
table_24 = refl

-- Table 21: the words of data symbols 0 to 15
pub table_21 : oqpsk.words
    ≡ map (printed 32)
    (11011001110000110101001000101110
    ∷ 11101101100111000011010100100010
    ∷ 00101110110110011100001101010010
    ∷ 00100010111011011001110000110101
    ∷ 01010010001011101101100111000011
    ∷ 00110101001000101110110110011100
    ∷ 11000011010100100010111011011001
    ∷ 10011100001101010010001011101101
    ∷ 10001100100101100000011101111011
    ∷ 10111000110010010110000001110111
    ∷ 01111011100011001001011000000111
    ∷ 01110111101110001100100101100000
    ∷ 00000111011110111000110010010110
    ∷ 01100000011101111011100011001001
    ∷ 10010110000001110111101110001100
    ∷ 11001001011000000111011110111000
    ∷ [])
unfolding oqpsk_words turned_words turns turned odd_inverted oqpsk_word
table_21 = refl

-- Table 32: the words of data symbols 4 to 8 and 12 to 15, the rows that it prints with 16 chips
pub table_32 : (take 5 (drop 4 lowband.words)
    ≡ map (printed 16)
    (0010010100111110
    ∷ 1000100101001111
    ∷ 1110001001010011
    ∷ 1111100010010100
    ∷ 0110101101110000
    ∷ []))
    × (drop 12 lowband.words
    ≡ map (printed 16)
    (0111000001101011
    ∷ 1101110000011010
    ∷ 1011011100000110
    ∷ 1010110111000001
    ∷ []))
unfolding lowband_words turned_words turns turned odd_inverted lowband_word
table_32 = (refl, refl)
