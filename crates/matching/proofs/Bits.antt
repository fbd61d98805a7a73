-- Mode 0's fifteen chips among bits: what the code counts of the bits that differ from word 0's is
-- the chips' distance from the word for 0, and what is left of fifteen that from the word for 1.
-- Assumes nothing.
use mathlib.Core.Path.{◌≡◌, refl, sym, ap, ◌∙◌}
use mathlib.Core.Bool.{Bool, true, false}
use mathlib.Core.List.{List}
use Prim.Native.Nat.{ℕ, zero, suc, ◌+◌, ◌-◌, ◌*◌, ◌/◌, ◌%◌, ◌^◌, ◌≤◌, ◌<◌}
use native.Mathlib.Omega.{arith}
use lib.Bits.{bit_and, bit_xor, and_zero_r, xor_zero_r, xor_lt, xor_shr, xor_mod}
use lib.Dec.{eqb, ltb}
use lib.ListN.{get_or}
use borrow.Author.Tests.{eqb-true, eqb-false, ltb-true, ltb-false}
use Rattle.codes.specs.Chips.{pick, differ, distance}
use Rattle.codes.specs.Radio.{word, bpsk, bpsk_words}
use Rattle.codes.specs.Packed.{packed, byte_of, digit_sum}
use Rattle.codes.specs.Gathered.{Layout, layout_of, eight_of, chip_in, chips_in}
use Rattle.codes.specs.Symbol.{nearest_but, next_nearest}
use Rattle.codes.specs.Near.{nearest_of, nearest_in}
use Rattle.codes.proofs.Tests.{by_test, both_true, every, each}
use Rattle.codes.proofs.Chips.{distance_both, xor_differ}
use Rattle.codes.proofs.Packed.{packed_cong, packed_both, mask_digits, digit_lt, eight_sum}
use Rattle.codes.proofs.Gathering.{listed_long, listed_at, chip_in_lem, chips_in_lem}
use Rattle.columns.proofs.Laid.{total, total_apart, distance_apart}
use Rattle.codes.proofs.Leasts.{nearest_is, word_is, but_is}
use Rattle.codes.proofs.Facts.{bpsk_words_lem, sound_bpsk}

-- four bits inverted
inverted_test : every (λ d. eqb (bit_xor d 15) (15 - d)) 16 ≡ true
unfolding every
inverted_test = refl

inverted : (d : ℕ) → d ≤ 15 → bit_xor d 15 ≡ 15 - d
inverted d h = eqb-true _ _ (each (λ d. eqb (bit_xor d 15) (15 - d)) 16 inverted_test d (omega arith))

-- an exclusive or of numbers of four bits has four bits
pub four_bits : (x y : ℕ) → x ≤ 15 → y ≤ 15 → bit_xor x y ≤ 15
four_bits x y h j = omega (arith, xor_lt 4 x y (omega arith) (omega arith))

-- what masks leave of a byte
mask_test : every (λ b. pick (eqb (bit_and b 1) (b % 2)) (eqb (bit_and b 16) (b / 16 % 2 * 16)) false) 256 ≡ true
unfolding every
mask_test = refl

byte_masks : (b : ℕ) → b < 256 → (bit_and b 1 ≡ b % 2) × (bit_and b 16 ≡ b / 16 % 2 * 16)
byte_masks b h =
    let t = both_true _ _ (each (λ b. pick (eqb (bit_and b 1) (b % 2)) (eqb (bit_and b 16) (b / 16 % 2 * 16)) false) 256 mask_test b h) in
    (eqb-true _ _ t.0, eqb-true _ _ t.1)

-- the chips of an exclusive or are the differences of the chips
chip_xor : (l : Layout) (x y i : ℕ) → chip_in l (bit_xor x y) i ≡ differ (chip_in l x i) (chip_in l y i)
unfolding chip_in
chip_xor l x y i =
    rw (xor_shr x y (j * 8), xor_mod (x / 2 ^ (j * 8)) (y / 2 ^ (j * 8)) 8, xor_shr (byte_of x j) (byte_of y j) (eight_of l i * l.lift))
    (xor_mod (byte_of x j / 2 ^ (eight_of l i * l.lift)) (byte_of y j / 2 ^ (eight_of l i * l.lift)) 1
    ∙ xor_differ (chip_in l x i) (chip_in l y i) (omega arith) (omega arith))
  where
    j : ℕ
    j = i - eight_of l i * l.step

-- what stands at digit j of an eight whose first digit is left out
abbrev after : (ℕ → ℕ) → ℕ → ℕ
after f j = pick (eqb j 0) 0 (f (7 + j))

-- the two eights of a number's chips, summed
module _ (x : ℕ) (fits : x < 2 ^ 64) where
  abbrev one : ℕ → ℕ
  one = chip_in (layout_of bpsk) x

  -- the first eight
  front_is : bit_and x 0x0101010101010101 ≡ packed one 8
  unfolding packed chip_in
  front_is =
      mask_digits x fits (λ j. 1) (λ j l. omega arith)
      ∙ packed_cong (λ j. bit_and (byte_of x j) 1) one 8
      (λ j l.
      let e : (j - 1) / 7 ≡ 0 = omega arith in
      let s : j - 0 * 7 ≡ j = omega arith in
      (byte_masks (byte_of x j) (digit_lt x j)).0 ∙ rw (e, s) (omega arith))

  -- and the second, without its first chip
  back_is : bit_and x 0x1010101010101000 / 16 ≡ packed (after one) 8
  unfolding packed chip_in
  back_is =
      ap (λ (x : ℕ). x / 16)
      (mask_digits x fits (λ j. pick (eqb j 0) 0 16) (λ j l. by_test (eqb j 0) (λ t. rw t (omega arith)) (λ t. rw t (omega arith)))
      ∙ packed_cong (λ j. bit_and (byte_of x j) (pick (eqb j 0) 0 16)) (λ j. after one j * 16) 8
      (λ j l. by_test (eqb j 0)
      (λ t. rw t (and_zero_r (byte_of x j)))
      (λ t.
      let n = eqb-false j 0 t in
      let e : (7 + j - 1) / 7 ≡ 1 = omega (arith, n) in
      let s : 7 + j - 1 * 7 ≡ j = omega arith in
      rw t ((byte_masks (byte_of x j) (digit_lt x j)).1 ∙ rw (e, s) (omega arith)))))
      ∙ part
    where
      part : packed (λ j. after one j * 16) 8 / 16 ≡ packed (after one) 8
      part = omega arith

  -- digit by digit
  abbrev added : ℕ → ℕ
  added j = one j + after one j

  sum_is : bit_and x 0x0101010101010101 + bit_and x 0x1010101010101000 / 16 ≡ packed added 8
  sum_is = rw (front_is, back_is) (packed_both one (after one) 8)

  added_le : (j : ℕ) → added j ≤ 2
  added_le j =
      by_test (eqb j 0)
      (λ t. rw t (omega (arith, chip_in_lem (layout_of bpsk) x j)))
      (λ t. rw t (omega (arith, chip_in_lem (layout_of bpsk) x j, chip_in_lem (layout_of bpsk) x (7 + j))))

-- word 0 among its gathered bits
code_test : ℕ → Bool
code_test i = eqb (chip_in (layout_of bpsk) 0x0100011001011111 i) (get_or (word bpsk 0) i 0)

code_is : (i : ℕ) → i < 15 → chip_in (layout_of bpsk) 0x0100011001011111 i ≡ get_or (word bpsk 0) i 0
unfolding every code_test chip_in bpsk_words
code_is i h = eqb-true _ _ (each code_test 15 refl i h)

module _ (bits : ℕ) (fits : bits < 2 ^ 64) where
  abbrev symbol : List ℕ
  symbol = chips_in bpsk bits

  pub wrong_fits : bit_xor bits 0x0100011001011111 < 2 ^ 64
  wrong_fits = xor_lt 64 bits 0x0100011001011111 fits (omega arith)

  abbrev wrong : ℕ → ℕ
  wrong = chip_in (layout_of bpsk) (bit_xor bits 0x0100011001011111)

  wrong_is : (i : ℕ) → i < 15 → wrong i ≡ differ (get_or symbol i 0) (get_or (word bpsk 0) i 0)
  wrong_is i h =
      chip_xor (layout_of bpsk) bits 0x0100011001011111 i
      ∙ rw (code_is i h, listed_at (chip_in (layout_of bpsk) bits) 15 i h)

  -- the digits' sum is the distance
  pub sum_apart : digit_sum (bit_and (bit_xor bits 0x0100011001011111) 0x0101010101010101 + bit_and (bit_xor bits 0x0100011001011111) 0x1010101010101000 / 16)
      ≡ distance symbol (word bpsk 0)
  unfolding total bpsk_words
  sum_apart =
      rw (sum_is (bit_xor bits 0x0100011001011111) wrong_fits)
      (eight_sum (added (bit_xor bits 0x0100011001011111) wrong_fits) (λ j l. added_le (bit_xor bits 0x0100011001011111) wrong_fits j) ∙ ends)
      ∙ total_apart wrong (λ i. get_or symbol i 0) (λ i. get_or (word bpsk 0) i 0) 15 wrong_is
      ∙ sym (distance_apart 15 symbol (word bpsk 0) (listed_long (chip_in (layout_of bpsk) bits) 15) refl)
    where
      n : ℕ
      n = bit_xor bits 0x0100011001011111

      a : ℕ → ℕ
      a = added n wrong_fits

      ends : a 0 + a 1 + a 2 + a 3 + a 4 + a 5 + a 6 + a 7 ≡ total wrong 15
      ends = omega arith

  -- the nearest of two
  module _ (d : ℕ) (e : d ≡ distance symbol (word bpsk 0)) where
    other : distance symbol (word bpsk 0) + distance symbol (word bpsk 1) ≡ 15
    unfolding bpsk_words
    other =
        distance_both symbol (word bpsk 0) (word bpsk 1) (chips_in_lem (layout_of bpsk) bits 15)
        (sound_bpsk.chips 0 (omega arith)) (sound_bpsk.chips 1 (omega arith))
        (listed_long (chip_in (layout_of bpsk) bits) 15) refl bpsk_words_lem.0
        ∙ listed_long (chip_in (layout_of bpsk) bits) 15

    pub few : d ≤ 15
    few = omega (arith, e, other)

    -- the nearer of two words, and so the other
    near : (v n : ℕ) → v < 2 → n ≡ distance symbol (word bpsk v) → n ≤ 7 → (15 - n) * 1024 + n * 16 + v ≡ nearest_in 0 bits
    unfolding nearest_in nearest_of bpsk_words
    near v n h q l =
        let w = word_is bpsk symbol v h (nearer v n h q l) (below v n h q l) in
        let d = nearest_is bpsk symbol v h (nearer v n h q l) in
        let o = but_is bpsk symbol v h (1 - v) (omega arith) (λ e. omega (arith, h)) (others v h) in
        let b : next_nearest bpsk symbol ≡ 15 - n = ap (nearest_but bpsk symbol) w ∙ o ∙ rest v n h q in
        rw (b, d, w, ← q)
      where
        nearer : (v n : ℕ) → v < 2 → n ≡ distance symbol (word bpsk v) → n ≤ 7 → (u : ℕ) → u < 2 → distance symbol (word bpsk v) ≤ distance symbol (word bpsk u)
        nearer zero n h q l zero i = omega arith
        nearer zero n h q l (suc zero) i = omega (arith, q, other)
        nearer zero n h q l (suc (suc u)) i = absurd (omega arith)
        nearer (suc zero) n h q l zero i = omega (arith, q, other)
        nearer (suc zero) n h q l (suc zero) i = omega arith
        nearer (suc zero) n h q l (suc (suc u)) i = absurd (omega arith)
        nearer (suc (suc v)) n h q l u i = absurd (omega arith)

        below : (v n : ℕ) → v < 2 → n ≡ distance symbol (word bpsk v) → n ≤ 7 → (u : ℕ) → u < v → distance symbol (word bpsk v) < distance symbol (word bpsk u)
        below zero n h q l u i = absurd (omega arith)
        below (suc zero) n h q l zero i = omega (arith, q, other)
        below (suc zero) n h q l (suc u) i = absurd (omega arith)
        below (suc (suc v)) n h q l u i = absurd (omega arith)

        others : (v : ℕ) → v < 2 → (w : ℕ) → w < 2 → (w ≡ v → ⊥) → distance symbol (word bpsk (1 - v)) ≤ distance symbol (word bpsk w)
        others v h w i n = let e : w ≡ 1 - v = omega (arith, n) in rw e (omega arith)

        rest : (v n : ℕ) → v < 2 → n ≡ distance symbol (word bpsk v) → distance symbol (word bpsk (1 - v)) ≡ 15 - n
        rest zero n h q = omega (arith, q, other)
        rest (suc zero) n h q = omega (arith, q, other)
        rest (suc (suc v)) n h q = absurd (omega arith)

    -- whichever it is
    pub nearer_near : (n : ℕ) → n ≡ bit_xor d (d / 8 * 15) → (15 - n) * 1024 + n * 16 + d / 8 ≡ nearest_in 0 bits
    nearer_near n q =
        by_test (ltb d 8)
        (λ t.
        let z : d / 8 ≡ 0 = omega (arith, ltb-true d 8 t) in
        let m : n ≡ d = q ∙ rw (z, xor_zero_r d) in
        rw (z, m) (near 0 d (omega arith) e (omega (arith, ltb-true d 8 t))))
        (λ t.
        let o : d / 8 ≡ 1 = omega (arith, few, ltb-false d 8 t) in
        let m : n ≡ 15 - d = q ∙ rw (o, inverted d few) in
        rw (o, m) (near 1 (15 - d) (omega arith) (omega (arith, e, other)) (omega (arith, ltb-false d 8 t))))
