-- Not to be believed: what the code computes of chips laid in columns of bits, shown to be the
-- distances of a radio's words in proofs/Words.antt. Once for every radio whose words are eight
-- turns of one and the same eight with the odd chips inverted.
use Rattle.std.specs.Prelude.{◌≡◌, ℕ, ◌+◌, ◌-◌, ◌*◌, ◌/◌, ◌%◌, ◌^◌, ◌<◌, ◌≤◌, List, bit_and, bit_xor, count_ones, nat_lt, min, map, fold, take, slice_index}
use Rattle.std.specs.Int.{rotate_left, w8}
use Rattle.codes.specs.Chips.{pick}

-- a number of four columns, a byte each: the first and the third of them beside each other
abbrev pub first_third : ℕ → ℕ
first_third t = t % 256 + t / 2 ^ 16 % 256 * 256

-- the digits of a number from place `at` on laid over those below it, times a number
abbrev pub folded : ℕ → ℕ → ℕ → ℕ
folded at by z = z % 2 ^ at + z / 2 ^ at * by

-- of gathered bits, whose chips stand at every second place of a byte: those of the upper four
-- bytes laid between those of the lower four make four columns of eight bits
abbrev pub four_columns : ℕ → ℕ
four_columns bits = folded 32 2 (bit_and bits 0x5555555555555555)

-- and where they stand at every fourth place, two columns
abbrev pub two_columns : ℕ → ℕ
two_columns bits = folded 16 2 (folded 32 4 (bit_and bits 0x1111111111111111))

-- a column of eight bits turned left
abbrev pub turned_bits : ℕ → ℕ → ℕ
turned_bits column by = rotate_left w8 (column % 256) by

-- two columns beside each other, each turned
abbrev pub turned_pair : ℕ → ℕ → ℕ
turned_pair pair by = turned_bits pair by + turned_bits (pair / 256) by * 256

-- how many bits of chips differ from those of a word's pair of columns, turned v times
abbrev pub parted : ℕ → ℕ → ℕ → ℕ
parted chips pair v = count_ones (bit_xor chips (turned_pair pair v))

-- of columns: in the even chips, and in the odd
abbrev pub even_parted : ℕ → ℕ → ℕ → ℕ
even_parted symbol word = parted (first_third symbol) (first_third word)

abbrev pub odd_parted : ℕ → ℕ → ℕ → ℕ
odd_parted symbol word = parted (first_third (symbol / 256)) (first_third (word / 256))

-- the distances of 16 words from those of the even and of the odd chips of eight: the others have
-- their odd chips inverted
unfoldable pub apart_at : ℕ → (ℕ → ℕ) → (ℕ → ℕ) → ℕ → ℕ
apart_at half e o v = pick (nat_lt v 8) (e v + o v) (e (v - 8) + half - o (v - 8))

-- a word has no more odd chips than that
abbrev pub Half : ℕ → (ℕ → ℕ) → Type 0
Half half o = (v : ℕ) → v < 8 → o v ≤ half

-- a word's key: its distance above its number and one
abbrev pub key_of : (ℕ → ℕ) → ℕ → ℕ
key_of d v = d v * 32 + v + 1

-- sixteen keys
abbrev pub Keyed : (ℕ → ℕ) → List ℕ → Type 0
Keyed d keys = (v : ℕ) → v < 16 → slice_index keys v ≡ key_of d v

-- the keys of word v, v below 8, and of word v + 8
abbrev pub low_key : (ℕ → ℕ) → (ℕ → ℕ) → ℕ → ℕ
low_key e o v = (e v + o v) * 32 + v + 1

abbrev pub high_key : ℕ → (ℕ → ℕ) → (ℕ → ℕ) → ℕ → ℕ
high_key half e o v = (e v + half - o v) * 32 + v + 9

-- how far a is past b, of numbers of sixteen bits that wrap
abbrev pub past : ℕ → ℕ → ℕ
past b a = (a + (2 ^ 16 - b)) % 2 ^ 16

-- the least of sixteen keys from b on; those below b wrap to above all others
abbrev pub least_past : ℕ → List ℕ → ℕ
least_past b keys = (fold min 0xFFFF (map (past b) (take 16 keys)) + b) % 2 ^ 16

-- what the least key m tells, and n, the least key above it: 1024 times the distance of n, 16 times
-- that of m, and the number of m
abbrev pub near_of : ℕ → ℕ → ℕ
near_of m n = n / 32 * 1024 + m / 32 * 16 + (m + 15) % 16

-- of sixteen keys
abbrev pub near_in : List ℕ → ℕ
near_in keys = near_of (least_past 0 keys) (least_past ((least_past 0 keys + 1) % 2 ^ 16) keys)
