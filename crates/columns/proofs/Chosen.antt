-- Chips among bits laid in columns: the code's columns are the chips, four columns in mode 1 and
-- two in mode 2, and the keys tell the nearest word and the next. Assumes nothing.
use Rattle.std.proofs.Common.{◌≡◌, ℕ, ◌+◌, ◌-◌, ◌*◌, ◌/◌, ◌%◌, ◌^◌, ◌<◌, ◌≤◌, true, eqb, ltb, List, sym, refl, ap, ◌∙◌, arith, ltb-true, eqb-true}
use lib.Bits.{bit_and}
use lib.Pow.{high, low}
use Rattle.codes.specs.Chips.{distance}
use Rattle.codes.specs.Radio.{Radio, Sound, word, oqpsk, lowband}
use Rattle.codes.specs.Packed.{packed, byte_of}
use Rattle.codes.specs.Gathered.{layout_of, chip_in, chips_in}
use Rattle.columns.specs.Columns.{first_third, folded, four_columns, two_columns, turned_pair, parted, even_parted, odd_parted, apart_at, Half, Keyed, near_in}
use Rattle.codes.specs.Near.{nearest_of, nearest_in}
use Rattle.codes.proofs.Tests.{every, each}
use Rattle.codes.proofs.Packed.{packed_cong, mask_digits, digit_lt}
use Rattle.codes.proofs.Gathering.{listed_long, listed_at}
use Rattle.columns.proofs.Laid.{laid, laid_lt, laid_cong, Chips}
use Rattle.codes.proofs.Gathering.{chip_in_lem, chips_in_lem}
use Rattle.columns.proofs.Leasts.{keys_near}
use Rattle.columns.proofs.Words.{Columned, part, even_at, odd_at, oqpsk_even, oqpsk_odd, lowband_even, lowband_odd}
use Rattle.columns.proofs.Words.{columned_oqpsk, columned_lowband, apart_is, apart_le, parted_few, parted_le}
use Rattle.codes.proofs.Facts.{sound_oqpsk, sound_lowband}

-- the keys of a radio whose words have columns tell the nearest word and the next, where the
-- numbers are the even chips laid, and the odd
module _ (r : Radio) (S : Sound r) (n : ℕ) (few : n ≤ 16) (even odd : ℕ → ℕ) (p q : ℕ)
    (C : Columned r n even odd (turned_pair p) (turned_pair q)) (bits : ℕ) where
  abbrev symbol : List ℕ
  symbol = chips_in r bits

  key_nearest : (e o : ℕ) → e < 2 ^ 16 → o < 2 ^ 16 → e ≡ laid (part even symbol) n → o ≡ laid (part odd symbol) n
      → (keys : List ℕ) → Keyed (apart_at n (parted e p) (parted o q)) keys → near_in keys ≡ nearest_of r symbol
  key_nearest e o he ho ee eo keys K =
      let d : (v : ℕ) → v < 16 → distance symbol (word r v) ≡ apart_at n (parted e p) (parted o q) v =
      apart_is r S n even odd p q C symbol (chips_in_lem (layout_of r) bits r.size) (listed_long (chip_in (layout_of r) bits) r.size) e o ee eo in
      keys_near r C.many symbol (λ v h. rw (d v h) (apart_le n e o p q few he ho v h)) keys
      (λ v h. K v h ∙ ap (λ (x : ℕ). x * 32 + v + 1) (sym (d v h)))

  -- chips laid by an index that stays within the symbol
  listed_laid : (at : ℕ → ℕ) → ((m : ℕ) → m < n → at m < r.size) → laid (λ m. chip_in (layout_of r) bits (at m)) n ≡ laid (part at symbol) n
  listed_laid at h =
      laid_cong (λ m. chip_in (layout_of r) bits (at m)) (part at symbol) n (λ m l. sym (listed_at (chip_in (layout_of r) bits) r.size (at m) (h m l)))

  -- so where a number's columns are the chips laid, and those of word 0 are p and q
  columns_nearest : (t : ℕ) → first_third t ≡ laid (λ m. chip_in (layout_of r) bits (even m)) n
      → first_third (t / 256) ≡ laid (λ m. chip_in (layout_of r) bits (odd m)) n
      → ((m : ℕ) → m < n → even m < r.size) → ((m : ℕ) → m < n → odd m < r.size)
      → (w : ℕ) → (first_third w ≡ p) × (first_third (w / 256) ≡ q) → (keys : List ℕ)
      → Keyed (apart_at n (even_parted t w) (odd_parted t w)) keys → near_in keys ≡ nearest_of r symbol
  columns_nearest t le lo ie io w e keys K =
      key_nearest (first_third t) (first_third (t / 256)) (omega arith) (omega arith) (le ∙ listed_laid even ie) (lo ∙ listed_laid odd io) keys
      (λ v h. rw (e.0, e.1) at (K v h))

-- chip j of eight e, whose index is i, where the eights stand one after the other
chip_of_lem : (eights lift bits e i j : ℕ) → i ≡ e * 8 + j → j < 8
    → chip_in (record { eights = eights; step = 8; lift = lift }) bits i ≡ byte_of bits j / 2 ^ (e * lift) % 2
unfolding chip_in
chip_of_lem eights lift bits e i j n h =
    let a : (i - (8 - 8)) / 8 ≡ e = omega arith in
    let b : i - e * 8 ≡ j = omega arith in
    rw (a, b)

-- a number's columns taken apart
module _ (p q r s : ℕ) (hp : p < 256) (hq : q < 256) (hr : r < 256) (hs : s < 256) where
  first_third_lem : first_third (s * 2 ^ 24 + r * 2 ^ 16 + q * 2 ^ 8 + p) ≡ r * 256 + p
  first_third_lem = omega arith

  second_fourth : first_third ((s * 2 ^ 24 + r * 2 ^ 16 + q * 2 ^ 8 + p) / 256) ≡ s * 256 + q
  second_fourth =
      let e : (s * 2 ^ 24 + r * 2 ^ 16 + q * 2 ^ 8 + p) / 256 ≡ s * 2 ^ 16 + r * 2 ^ 8 + q = omega arith in
      rw e (omega arith)

-- every second bit of a byte, and every fourth
seconds : ℕ → ℕ
seconds b = b % 2 + b / 4 % 2 * 4 + b / 16 % 2 * 16 + b / 64 % 2 * 64

fourths : ℕ → ℕ
fourths b = b % 2 + b / 16 % 2 * 16

mask_by : (m : ℕ) (f : ℕ → ℕ) → every (λ b. eqb (bit_and b m) (f b)) 256 ≡ true → (b : ℕ) → b < 256 → bit_and b m ≡ f b
mask_by m f t b h = eqb-true _ _ (each (λ b. eqb (bit_and b m) (f b)) 256 t b h)

second_bits : (b : ℕ) → b < 256 → bit_and b 0x55 ≡ seconds b
unfolding every seconds
second_bits = mask_by 0x55 seconds refl

fourth_bits : (b : ℕ) → b < 256 → bit_and b 0x11 ≡ fourths b
unfolding every fourths
fourth_bits = mask_by 0x11 fourths refl

-- mode 1: the columns of word 0, and of a symbol
four_word : (w : ℕ) → w ≡ four_columns 0x0554404111401505 → (first_third w ≡ oqpsk_even) × (first_third (w / 256) ≡ oqpsk_odd)
four_word w e = (ap (λ (w : ℕ). first_third w) e, ap (λ (w : ℕ). first_third (w / 256)) e)

module _ (bits : ℕ) (fits : bits < 2 ^ 64) where
  abbrev chip : ℕ → ℕ
  chip = chip_in (layout_of oqpsk) bits

  chips : Chips chip
  chips = chip_in_lem (layout_of oqpsk) bits

  -- chip j of each of the four eights, two bits apart
  abbrev digit : ℕ → ℕ
  digit j = chip j + chip (8 + j) * 4 + chip (16 + j) * 16 + chip (24 + j) * 64

  digit_le : (j : ℕ) → digit j ≤ 85
  digit_le j = omega (arith, chips j, chips (8 + j), chips (16 + j), chips (24 + j))

  -- the masked bits
  masked : bit_and bits 0x5555555555555555 ≡ packed digit 8
  unfolding packed seconds
  masked =
      mask_digits bits fits (λ j. 0x55) (λ j l. omega arith)
      ∙ packed_cong (λ j. bit_and (byte_of bits j) 0x55) digit 8
      (λ j l.
      second_bits (byte_of bits j) (digit_lt bits j)
      ∙ rw (
        chip_of_lem 4 2 bits 0 j j (omega arith) l,
        chip_of_lem 4 2 bits 1 (8 + j) j (omega arith) l,
        chip_of_lem 4 2 bits 2 (16 + j) j (omega arith) l,
        chip_of_lem 4 2 bits 3 (24 + j) j (omega arith) l,
      )
      (omega arith))

  -- every fourth chip from j on, laid
  abbrev column : ℕ → ℕ
  column j = laid (λ m. chip (4 * m + j)) 8

  column_lt : (j : ℕ) → column j < 256
  column_lt j = laid_lt (λ m. chip (4 * m + j)) (λ m. chips (4 * m + j)) 8

  columns : folded 32 2 (packed digit 8) ≡ column 3 * 2 ^ 24 + column 2 * 2 ^ 16 + column 1 * 2 ^ 8 + column 0
  unfolding packed laid
  columns =
      let lower = digit 3 * 2 ^ 24 + digit 2 * 2 ^ 16 + digit 1 * 2 ^ 8 + digit 0 in
      let upper = digit 7 * 2 ^ 24 + digit 6 * 2 ^ 16 + digit 5 * 2 ^ 8 + digit 4 in
      let e : packed digit 8 ≡ upper * 2 ^ 32 + lower = omega arith in
      let l : lower < 2 ^ 32 = omega (arith, digit_le 0, digit_le 1, digit_le 2, digit_le 3) in
      rw (e, high upper 32 l, low upper 32 l) (omega arith)

  module _ (t : ℕ) (et : t ≡ four_columns bits) where
    four : t ≡ column 3 * 2 ^ 24 + column 2 * 2 ^ 16 + column 1 * 2 ^ 8 + column 0
    four = et ∙ ap (λ (z : ℕ). folded 32 2 z) masked ∙ columns

    evens_laid : first_third t ≡ laid (λ m. chip (even_at 4 m)) 16
    unfolding laid
    evens_laid =
        rw four (first_third_lem (column 0) (column 1) (column 2) (column 3) (column_lt 0) (column_lt 1) (column_lt 2) (column_lt 3)) ∙ together
      where
        together : column 2 * 256 + column 0 ≡ laid (λ m. chip (even_at 4 m)) 16
        together = omega arith

    odds_laid : first_third (t / 256) ≡ laid (λ m. chip (odd_at 4 m)) 16
    unfolding laid
    odds_laid =
        rw four (second_fourth (column 0) (column 1) (column 2) (column 3) (column_lt 0) (column_lt 1) (column_lt 2) (column_lt 3)) ∙ together
      where
        together : column 3 * 256 + column 1 ≡ laid (λ m. chip (odd_at 4 m)) 16
        together = omega arith

    module _ (w : ℕ) (e : w ≡ four_columns 0x0554404111401505) where
      -- two columns have sixteen chips
      pub four_half : Half 16 (odd_parted t w)
      four_half v h = parted_le (first_third (t / 256)) (first_third (w / 256)) v (omega arith)

      -- the nearest word, by the columns of word 0
      pub four_nearest : (keys : List ℕ) → Keyed (apart_at 16 (even_parted t w) (odd_parted t w)) keys → near_in keys ≡ nearest_in 1 bits
      unfolding nearest_in
      four_nearest =
          columns_nearest oqpsk sound_oqpsk 16 (omega arith) (even_at 4) (odd_at 4) oqpsk_even oqpsk_odd columned_oqpsk bits t evens_laid odds_laid
          (λ m l. omega arith) (λ m l. omega arith) w (four_word w e)

-- mode 2
two_word : (w : ℕ) → w ≡ two_columns 0x1001110101110000 → (first_third w ≡ lowband_even) × (first_third (w / 256) ≡ lowband_odd)
two_word w e = (ap (λ (w : ℕ). first_third w) e, ap (λ (w : ℕ). first_third (w / 256)) e)

one_column : every (λ v. ltb (turned_pair lowband_odd v) 256) 8 ≡ true
unfolding every
one_column = refl

module _ (bits : ℕ) (fits : bits < 2 ^ 64) where
  abbrev chip₂ : ℕ → ℕ
  chip₂ = chip_in (layout_of lowband) bits

  chips₂ : Chips chip₂
  chips₂ = chip_in_lem (layout_of lowband) bits

  -- chip j of both eights, four bits apart
  abbrev digit₂ : ℕ → ℕ
  digit₂ j = chip₂ j + chip₂ (8 + j) * 16

  digit₂_le : (j : ℕ) → digit₂ j ≤ 17
  digit₂_le j = omega (arith, chips₂ j, chips₂ (8 + j))

  -- the masked bits
  masked₂ : bit_and bits 0x1111111111111111 ≡ packed digit₂ 8
  unfolding packed fourths
  masked₂ =
      mask_digits bits fits (λ j. 0x11) (λ j l. omega arith)
      ∙ packed_cong (λ j. bit_and (byte_of bits j) 0x11) digit₂ 8
      (λ j l.
      fourth_bits (byte_of bits j) (digit_lt bits j)
      ∙ rw (chip_of_lem 2 4 bits 0 j j (omega arith) l, chip_of_lem 2 4 bits 1 (8 + j) j (omega arith) l) (omega arith))

  -- every second chip from j on, laid
  abbrev column₂ : ℕ → ℕ
  column₂ j = laid (λ m. chip₂ (2 * m + j)) 8

  column₂_lt : (j : ℕ) → column₂ j < 256
  column₂_lt j = laid_lt (λ m. chip₂ (2 * m + j)) (λ m. chips₂ (2 * m + j)) 8

  columns₂ : folded 16 2 (folded 32 4 (packed digit₂ 8)) ≡ column₂ 1 * 2 ^ 8 + column₂ 0
  unfolding packed laid
  columns₂ =
      let lower = digit₂ 3 * 2 ^ 24 + digit₂ 2 * 2 ^ 16 + digit₂ 1 * 2 ^ 8 + digit₂ 0 in
      let upper = digit₂ 7 * 2 ^ 24 + digit₂ 6 * 2 ^ 16 + digit₂ 5 * 2 ^ 8 + digit₂ 4 in
      let e : packed digit₂ 8 ≡ upper * 2 ^ 32 + lower = omega arith in
      let l : lower < 2 ^ 32 = omega (arith, digit₂_le 0, digit₂_le 1, digit₂_le 2, digit₂_le 3) in
      let first = (digit₂ 1 + digit₂ 5 * 4) * 2 ^ 8 + digit₂ 0 + digit₂ 4 * 4 in
      let second = (digit₂ 3 + digit₂ 7 * 4) * 2 ^ 8 + digit₂ 2 + digit₂ 6 * 4 in
      let f : lower + upper * 4 ≡ second * 2 ^ 16 + first = omega arith in
      let h : first < 2 ^ 16 = omega (arith, digit₂_le 0, digit₂_le 1, digit₂_le 4, digit₂_le 5) in
      rw (e, high upper 32 l, low upper 32 l, f, high second 16 h, low second 16 h) (omega arith)

  module _ (t : ℕ) (et : t ≡ two_columns bits) where
    two : t ≡ 0 * 2 ^ 24 + 0 * 2 ^ 16 + column₂ 1 * 2 ^ 8 + column₂ 0
    two = et ∙ ap (λ (z : ℕ). folded 16 2 (folded 32 4 z)) masked₂ ∙ columns₂ ∙ omega arith

    evens₂_laid : first_third t ≡ laid (λ m. chip₂ (even_at 2 m)) 8
    unfolding laid
    evens₂_laid = rw two (first_third_lem (column₂ 0) (column₂ 1) 0 0 (column₂_lt 0) (column₂_lt 1) (omega arith) (omega arith)) ∙ together
      where
        together : 0 * 256 + column₂ 0 ≡ laid (λ m. chip₂ (even_at 2 m)) 8
        together = omega arith

    odds₂_laid : first_third (t / 256) ≡ laid (λ m. chip₂ (odd_at 2 m)) 8
    unfolding laid
    odds₂_laid = rw two (second_fourth (column₂ 0) (column₂ 1) 0 0 (column₂_lt 0) (column₂_lt 1) (omega arith) (omega arith)) ∙ together
      where
        together : 0 * 256 + column₂ 1 ≡ laid (λ m. chip₂ (odd_at 2 m)) 8
        together = omega arith

    module _ (w : ℕ) (e : w ≡ two_columns 0x1001110101110000) where
      -- a column has eight chips
      pub two_half : Half 8 (odd_parted t w)
      two_half v h =
          rw (two_word w e).1
          (parted_few 8 (first_third (t / 256)) lowband_odd v (rw odds₂_laid (laid_lt (λ m. chip₂ (odd_at 2 m)) (λ m. chips₂ (odd_at 2 m)) 8))
          (ltb-true _ _ (each (λ v. ltb (turned_pair lowband_odd v) 256) 8 one_column v h)))

      -- the nearest word
      pub two_nearest : (keys : List ℕ) → Keyed (apart_at 8 (even_parted t w) (odd_parted t w)) keys → near_in keys ≡ nearest_in 2 bits
      unfolding nearest_in
      two_nearest =
          columns_nearest lowband sound_lowband 8 (omega arith) (even_at 2) (odd_at 2) lowband_even lowband_odd columned_lowband bits t evens₂_laid odds₂_laid
          (λ m l. omega arith) (λ m l. omega arith) w (two_word w e)
