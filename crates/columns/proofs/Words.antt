-- Words by columns: one test that antt computes over every chip of every word says that the lower
-- eight are turns of word 0's columns and the upper eight the same with the odd chips inverted, and
-- the distances of all sixteen follow from it. Once over the radio, its columns, the turn and the
-- half; another radio of the family is one test more. Assumes nothing.
use Rattle.std.proofs.Common.{◌≡◌, ℕ, ◌+◌, ◌-◌, ◌*◌, ◌/◌, ◌%◌, ◌^◌, ◌<◌, ◌≤◌, Bool, true, false, eqb, ltb, List, length, get_or, refl, ◌∙◌, arith, ltb-false, ltb-true, eqb-true}
use Rattle.std.proofs.lemmas.Nat.{or_of_8}
use Rattle.std.proofs.Math.Nat.{div-le_self}
use lib.Bits.{bit_xor, xor_lt}
use lib.Count.{ones, ones-le}
use Rattle.codes.specs.Chips.{pick, distance, bad}
use Rattle.codes.specs.Radio.{Radio, Sound, word, oqpsk, lowband}
use Rattle.codes.specs.Radio.{oqpsk_word, oqpsk_words, lowband_word, lowband_words, turned_words, turns, turned, odd_inverted}
use Rattle.columns.specs.Columns.{turned_bits, turned_pair, parted, apart_at, low_key, high_key, Keyed}
use Rattle.codes.proofs.Tests.{by_test, both_true, every, each}
use Rattle.codes.proofs.Chips.{chip_at_lem}
use Rattle.columns.proofs.Laid.{laid, apart, Chips, ones_apart, apart_inverse, apart_cong, distance_apart}

-- chip m of the part of a list that an index function picks
abbrev pub part : (ℕ → ℕ) → List ℕ → ℕ → ℕ
part at xs m = get_or xs (at m) 0

-- A radio's 16 words have columns: n even and n odd chips a word, the lower eight words' laid in
-- numbers, and the upper eight with the odd ones inverted.
pub record Columned (r : Radio) (n : ℕ) (even odd evens odds : ℕ → ℕ) : Type 0 where
  pub many : length r.words ≡ 16
  parts : (f g : ℕ → ℕ) → apart f g r.size ≡ apart (λ m. f (even m)) (λ m. g (even m)) n + apart (λ m. f (odd m)) (λ m. g (odd m)) n
  even_laid : (v : ℕ) → v < 8 → evens v ≡ laid (part even (word r v)) n
  odd_laid : (v : ℕ) → v < 8 → odds v ≡ laid (part odd (word r v)) n
  even_same : (v : ℕ) → v < 8 → (m : ℕ) → m < n → part even (word r (v + 8)) m ≡ part even (word r v) m
  odd_inverted_lem : (v : ℕ) → v < 8 → (m : ℕ) → m < n → part odd (word r (v + 8)) m ≡ 1 - part odd (word r v) m

module _ (r : Radio) (S : Sound r) (n : ℕ) (even odd evens odds : ℕ → ℕ) (C : Columned r n even odd evens odds)
    (xs : List ℕ) (b : bad xs ≡ false) (long : length xs ≡ r.size) where
  -- differences of the even chips, and of the odd
  abbrev even_apart : ℕ → ℕ
  even_apart v = ones (bit_xor (laid (part even xs) n) (evens v))

  abbrev odd_apart : ℕ → ℕ
  odd_apart v = ones (bit_xor (laid (part odd xs) n) (odds v))

  chips_of_lem : (v : ℕ) → v < 16 → Chips (λ i. get_or (word r v) i 0)
  chips_of_lem v h = chip_at_lem (word r v) (S.chips v (omega (arith, C.many)))

  even_is : (v : ℕ) → v < 8 → even_apart v ≡ apart (part even xs) (part even (word r v)) n
  even_is v h = rw (C.even_laid v h) (ones_apart _ _ (λ m. chip_at_lem xs b (even m)) (λ m. chips_of_lem v (omega arith) (even m)) n)

  odd_is : (v : ℕ) → v < 8 → odd_apart v ≡ apart (part odd xs) (part odd (word r v)) n
  odd_is v h = rw (C.odd_laid v h) (ones_apart _ _ (λ m. chip_at_lem xs b (odd m)) (λ m. chips_of_lem v (omega arith) (odd m)) n)

  parts_of : (v : ℕ) → v < 16 → distance xs (word r v) ≡ apart (part even xs) (part even (word r v)) n + apart (part odd xs) (part odd (word r v)) n
  parts_of v h =
      distance_apart r.size xs (word r v) long (S.sized v (omega (arith, C.many)))
      ∙ C.parts (λ i. get_or xs i 0) (λ i. get_or (word r v) i 0)

  -- a lower word's distance
  lower_apart : (v : ℕ) → v < 8 → distance xs (word r v) ≡ even_apart v + odd_apart v
  lower_apart v h = omega (arith, parts_of v (omega arith), even_is v h, odd_is v h)

  -- an upper word's
  upper_apart : (v : ℕ) → v < 8 → distance xs (word r (v + 8)) + odd_apart v ≡ even_apart v + n
  upper_apart v h =
      omega (
        arith,
        parts_of (v + 8) (omega arith),
        even_is v h,
        odd_is v h,
        apart_cong (part even xs) (part even xs) (part even (word r (v + 8))) (part even (word r v)) n (λ i l. refl) (C.even_same v h),
        apart_inverse (part odd xs) (part odd (word r v)) (part odd (word r (v + 8))) n
            (λ m. chip_at_lem xs b (odd m)) (λ m. chips_of_lem v (omega arith) (odd m)) (C.odd_inverted_lem v h),
      )

-- so the numbers that the keys hold are the distances
pub apart_is : (r : Radio) → Sound r → (n : ℕ) (even odd : ℕ → ℕ) (p q : ℕ) → Columned r n even odd (turned_pair p) (turned_pair q)
    → (xs : List ℕ) → bad xs ≡ false → length xs ≡ r.size → (e o : ℕ) → e ≡ laid (part even xs) n → o ≡ laid (part odd xs) n
    → (v : ℕ) → v < 16 → distance xs (word r v) ≡ apart_at n (parted e p) (parted o q) v
unfolding apart_at
apart_is r S n even odd p q C xs b long e o ee eo v h =
    rw (ee, eo)
    (by_test (ltb v 8)
    (λ t. rw t (lower_apart r S n even odd _ _ C xs b long v (ltb-true v 8 t)))
    (λ t.
    let l = ltb-false v 8 t in
    let m : v - 8 + 8 ≡ v = omega arith in
    let u = rw m at (upper_apart r S n even odd _ _ C xs b long (v - 8) (omega arith)) in
    rw t (omega (arith, u))))

-- the test of a radio's words, and what it says: chip m of an upper word against a lower, and all
-- of words v and v + 8
unfoldable chip_test : (ℕ → ℕ) → (ℕ → ℕ) → List ℕ → List ℕ → ℕ → Bool
chip_test even odd upper lower m =
    pick (eqb (part even upper m) (part even lower m)) (eqb (part odd upper m) (1 - part odd lower m)) false

unfoldable word_test : Radio → ℕ → (ℕ → ℕ) → (ℕ → ℕ) → (ℕ → ℕ) → (ℕ → ℕ) → ℕ → Bool
word_test r n even odd evens odds v =
    pick (eqb (evens v) (laid (part even (word r v)) n))
    (pick (eqb (odds v) (laid (part odd (word r v)) n)) (every (chip_test even odd (word r (v + 8)) (word r v)) n) false)
    false

columned_by : (r : Radio) (n : ℕ) (even odd evens odds : ℕ → ℕ) → length r.words ≡ 16
    → ((f g : ℕ → ℕ) → apart f g r.size ≡ apart (λ m. f (even m)) (λ m. g (even m)) n + apart (λ m. f (odd m)) (λ m. g (odd m)) n)
    → every (word_test r n even odd evens odds) 8 ≡ true → Columned r n even odd evens odds
unfolding word_test chip_test
columned_by r n even odd evens odds many parts t =
    record {
      many = many;
      parts = parts;
      even_laid = λ v h. eqb-true _ _ (laid_at v h).0;
      odd_laid = λ v h. eqb-true _ _ (rest v h).0;
      even_same = λ v h m l. eqb-true _ _ (chip_of_lem v h m l).0;
      odd_inverted_lem = λ v h m l. eqb-true _ _ (chip_of_lem v h m l).1;
    }
  where
    laid_at : (v : ℕ) → v < 8
        → (eqb (evens v) (laid (part even (word r v)) n) ≡ true)
        × (pick (eqb (odds v) (laid (part odd (word r v)) n)) (every (chip_test even odd (word r (v + 8)) (word r v)) n) false ≡ true)
    laid_at v h = both_true _ _ (each (word_test r n even odd evens odds) 8 t v h)

    rest : (v : ℕ) → v < 8
        → (eqb (odds v) (laid (part odd (word r v)) n) ≡ true) × (every (chip_test even odd (word r (v + 8)) (word r v)) n ≡ true)
    rest v h = both_true _ _ (laid_at v h).1

    chip_of_lem : (v : ℕ) → v < 8 → (m : ℕ) → m < n
        → (eqb (part even (word r (v + 8)) m) (part even (word r v) m) ≡ true)
        × (eqb (part odd (word r (v + 8)) m) (1 - part odd (word r v) m) ≡ true)
    chip_of_lem v h m l = both_true _ _ (each (chip_test even odd (word r (v + 8)) (word r v)) n (rest v h).1 m l)

-- the even chips in columns of eight, of so many columns, and the odd
abbrev pub even_at : ℕ → ℕ → ℕ
even_at columns m = columns * (m % 8) + 2 * (m / 8)

abbrev pub odd_at : ℕ → ℕ → ℕ
odd_at columns m = columns * (m % 8) + 2 * (m / 8) + 1

-- they are all of a symbol's places
abbrev Halved : ℕ → ℕ → Type 0
Halved columns n =
    (f g : ℕ → ℕ)
    → apart f g (n + n)
    ≡ apart (λ m. f (even_at columns m)) (λ m. g (even_at columns m)) n + apart (λ m. f (odd_at columns m)) (λ m. g (odd_at columns m)) n

four_halved : Halved 4 16
unfolding apart
four_halved f g = omega arith

two_halved : Halved 2 8
unfolding apart
two_halved f g = omega arith

-- word 0's columns, of its even chips and of its odd
abbrev pub oqpsk_even : ℕ
oqpsk_even = 0xE887

abbrev pub oqpsk_odd : ℕ
oqpsk_odd = 0x1B95

abbrev pub lowband_even : ℕ
lowband_even = 0x2E

abbrev pub lowband_odd : ℕ
lowband_odd = 0xC6

-- mode 1's words have four columns, mode 2's two
pub columned_oqpsk : Columned oqpsk 16 (even_at 4) (odd_at 4) (turned_pair oqpsk_even) (turned_pair oqpsk_odd)
unfolding word_test chip_test every laid oqpsk_words turned_words turns turned odd_inverted oqpsk_word
columned_oqpsk = columned_by oqpsk 16 (even_at 4) (odd_at 4) (turned_pair oqpsk_even) (turned_pair oqpsk_odd) refl four_halved refl

pub columned_lowband : Columned lowband 8 (even_at 2) (odd_at 2) (turned_pair lowband_even) (turned_pair lowband_odd)
unfolding word_test chip_test every laid lowband_words turned_words turns turned odd_inverted lowband_word
columned_lowband = columned_by lowband 8 (even_at 2) (odd_at 2) (turned_pair lowband_even) (turned_pair lowband_odd) refl two_halved refl

-- of keys in two halves, where `keys` returns
module _ (half : ℕ) (e o : ℕ → ℕ) where
  pub keyed : (k : List ℕ) → ((u : ℕ) → u < 8 → get_or k u 0 ≡ low_key e o u) → ((u : ℕ) → u < 8 → get_or k (u + 8) 0 ≡ high_key half e o u)
      → Keyed (apart_at half e o) k
  unfolding apart_at
  keyed k p q v h =
      by_test (ltb v 8)
      (λ t. rw t (p v (ltb-true v 8 t)))
      (λ t. let l = ltb-false v 8 t in
      let m : v - 8 + 8 ≡ v = omega arith in
      rw t (rw m at (q (v - 8) (omega arith)) ∙ omega arith))

-- counts of so many bits, and of sixteen
pub parted_few : (k x pair v : ℕ) → x < 2 ^ k → turned_pair pair v < 2 ^ k → parted x pair v ≤ k
parted_few k x pair v h l = ones-le k _ (xor_lt k x _ h l)

turned_lt : (column by : ℕ) → turned_bits column by < 2 ^ 8
turned_lt column by =
    let rest = column % 256 / 2 ^ ((8 - by % 8) % 8) in
    let less : rest < 2 ^ 8 = omega (arith, div-le_self (column % 256) (2 ^ ((8 - by % 8) % 8))) in
    or_of_8 (column % 256 * 2 ^ (by % 8) % 2 ^ 8) rest (omega arith) less

pub parted_le : (x pair v : ℕ) → x < 2 ^ 16 → parted x pair v ≤ 16
parted_le x pair v h = parted_few 16 x pair v h (omega (arith, turned_lt pair v, turned_lt (pair / 256) v))

pub apart_le : (half x y p q : ℕ) → half ≤ 16 → x < 2 ^ 16 → y < 2 ^ 16 → (v : ℕ) → v < 16 → apart_at half (parted x p) (parted y q) v ≤ 32
unfolding apart_at
apart_le half x y p q h i j v l =
    by_test (ltb v 8)
    (λ t. rw t (omega (arith, parted_le x p v i, parted_le y q v j)))
    (λ t. rw t (omega (arith, parted_le x p (v - 8) i)))
