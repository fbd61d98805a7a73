-- The turning and inverting rule, chip by chip: one test that antt computes over every chip of a
-- radio's words, 512 of mode 1's and 256 of mode 2's, and what it says of each. Assumes nothing.
use Rattle.std.proofs.Common.{◌≡◌, ℕ, ◌+◌, ◌-◌, ◌*◌, ◌%◌, ◌<◌, Bool, true, eqb, ltb, List, length, get_or, refl, eqb-true}
use Rattle.codes.specs.Chips.{pick}
use Rattle.codes.specs.Radio.{Radio, oqpsk, lowband, word}
use Rattle.codes.specs.Radio.{oqpsk_word, oqpsk_words, lowband_word, lowband_words, turned, turns, odd_inverted, turned_words}
use Rattle.codes.proofs.Tests.{every, each}

-- chip k of symbol v below 8: of symbol 0's word w, turned right v times by so many chips
abbrev pub turned_chip : ℕ → List ℕ → ℕ → ℕ → ℕ
turned_chip by w v k = get_or w ((k + length w - by * v) % length w) 0

-- chip k of symbol v: from 8 on, that of symbol v - 8, inverted where k is odd
abbrev pub rule_chip : ℕ → List ℕ → ℕ → ℕ → ℕ
rule_chip by w v k =
    pick (ltb v 8) (turned_chip by w v k) (pick (eqb (k % 2) 1) (1 - turned_chip by w (v - 8) k) (turned_chip by w (v - 8) k))

module _ (r : Radio) (by : ℕ) (w : List ℕ) where
  -- the rule at chip k of word v, at every chip of it, and at every word
  abbrev ruled : ℕ → ℕ → Bool
  ruled v k = eqb (get_or (word r v) k 0) (rule_chip by w v k)

  abbrev word_ruled : ℕ → Bool
  word_ruled v = every (ruled v) r.size

  abbrev pub all_ruled : Bool
  all_ruled = every word_ruled 16

  ruled_chip : all_ruled ≡ true → (v k : ℕ) → v < 16 → k < r.size → get_or (word r v) k 0 ≡ rule_chip by w v k
  ruled_chip t v k hv hk = eqb-true _ _ (each (ruled v) r.size (each word_ruled 16 t v hv) k hk)

-- mode 1: four chips a turn
pub oqpsk_ruled : all_ruled oqpsk 4 oqpsk_word ≡ true
unfolding every oqpsk_words turned_words turns turned odd_inverted oqpsk_word
oqpsk_ruled = refl

pub oqpsk_chip : (v k : ℕ) → v < 16 → k < 32 → get_or (word oqpsk v) k 0 ≡ rule_chip 4 oqpsk_word v k
oqpsk_chip = ruled_chip oqpsk 4 oqpsk_word oqpsk_ruled

-- mode 2: two
pub lowband_ruled : all_ruled lowband 2 lowband_word ≡ true
unfolding every lowband_words turned_words turns turned odd_inverted lowband_word
lowband_ruled = refl

pub lowband_chip : (v k : ℕ) → v < 16 → k < 16 → get_or (word lowband v) k 0 ≡ rule_chip 2 lowband_word v k
lowband_chip = ruled_chip lowband 2 lowband_word lowband_ruled
