-- Laws of bytes taken as the digits of one number: how eight are packed and had again, the test of
-- eight at once for one that is no chip, sums and masks of each digit apart, and the sum of eight
-- digits. Assumes nothing.
use Rattle.std.proofs.Common.{◌≡◌, ℕ, zero, suc, ◌+◌, ◌-◌, ◌*◌, ◌/◌, ◌%◌, ◌^◌, ◌<◌, ◌≤◌, true, false, ltb, ◌⊎◌, List, length, get_or, take, drop, sym, refl, ap, ◌∙◌, inl, inr, mul_assoc, suc-mul, mul_comm, add-mul, eq-or-lt_of_le, arith, length-drop, get_or-drop, pow_pos, pow-add, ltb-false, ltb-true, le-ltb, lt-ltb}
use lib.Arith.{digits_lt}
use lib.Pow.{high, low, field, mod-pow-add, mod-mod-pow}
use lib.Bits.{bit_and, and_block, and_high}
use Rattle.codes.specs.Chips.{pick, bad}
use Rattle.codes.specs.Packed.{from, packed, byte_of, digit_sum}
use Rattle.codes.proofs.Tests.{by_test, upto}
use Rattle.codes.proofs.Chips.{bad_suc}

-- each of k digits is a byte
abbrev pub Bytes : (ℕ → ℕ) → ℕ → Type 0
Bytes f k = (i : ℕ) → i < k → f i < 256

-- one digit more is eight bits more
bits_more : (k : ℕ) → 2 ^ (suc k * 8) ≡ 256 * 2 ^ (k * 8)
bits_more k = let e : suc k * 8 ≡ 8 + k * 8 = omega arith in rw e (pow-add 2 8 (k * 8))

-- k digits have eight bits each
pub packed_lt : (f : ℕ → ℕ) (k : ℕ) → Bytes f k → packed f k < 2 ^ (k * 8)
unfolding packed
packed_lt f zero b = omega arith
packed_lt f (suc k) b = rw (bits_more k) (digits_lt (b k (omega arith)) (packed_lt f k (λ i l. b i (omega arith))))

-- digits that agree make the same number
pub packed_cong : (f g : ℕ → ℕ) (k : ℕ) → ((i : ℕ) → i < k → f i ≡ g i) → packed f k ≡ packed g k
unfolding packed
packed_cong f g zero e = refl
packed_cong f g (suc k) e = rw (e k (omega arith), packed_cong f g k (λ i l. e i (omega arith)))

-- the digits of a packed number are those that were packed
pub packed_digit : (f : ℕ → ℕ) (k j : ℕ) → Bytes f k → j < k → byte_of (packed f k) j ≡ f j
unfolding packed
packed_digit f zero j b h = absurd (omega arith)
packed_digit f (suc k) j b h = go (eq-or-lt_of_le (upto j k h)) (packed_digit f k j (λ i l. b i (omega arith)))
  where
    under : packed f k < 2 ^ (k * 8)
    under = packed_lt f k (λ i l. b i (omega arith))

    go : (j ≡ k) ⊎ (j < k) → (j < k → byte_of (packed f k) j ≡ f j) → byte_of (f k * 2 ^ (k * 8) + packed f k) j ≡ f j
    go (inl e) r = rw (e, high (f k) (k * 8) under) (let l = b k (omega arith) in omega arith)
    go (inr l) r =
        let more = k * 8 - (8 + j * 8) in
        let m : more + (8 + j * 8) ≡ k * 8 = omega arith in
        let n = f k * 2 ^ (k * 8) + packed f k in
        let t : n % 2 ^ (more + (8 + j * 8)) ≡ packed f k = rw m (low (f k) (k * 8) under) in
        sym (field n 8 (j * 8))
        ∙ ap (λ (x : ℕ). x / 2 ^ (j * 8)) (sym (mod-mod-pow n more (8 + j * 8)) ∙ ap (λ (x : ℕ). x % 2 ^ (8 + j * 8)) t)
        ∙ field (packed f k) 8 (j * 8)
        ∙ r l

-- a number's digits
pub digit_lt : (n j : ℕ) → byte_of n j < 256
digit_lt n j = omega arith

-- make it up
digits_of : (n k : ℕ) → n % 2 ^ (k * 8) ≡ packed (byte_of n) k
unfolding packed
digits_of n zero = omega arith
digits_of n (suc k) =
    let e : suc k * 8 ≡ 8 + k * 8 = omega arith in
    rw e (mod-pow-add n 8 (k * 8) ∙ ap (λ (x : ℕ). byte_of n k * 2 ^ (k * 8) + x) (digits_of n k))

eight_digits : (n : ℕ) → n < 2 ^ 64 → n ≡ packed (byte_of n) 8
eight_digits n h = let e : n % 2 ^ (8 * 8) ≡ n = omega arith in sym e ∙ digits_of n 8

-- a multiple added digit by digit
pub packed_add : (f g : ℕ → ℕ) (c k : ℕ) → packed f k + packed g k * c ≡ packed (λ i. f i + g i * c) k
unfolding packed
packed_add f g c zero = omega arith
packed_add f g c (suc k) =
    omega (
      arith,
      packed_add f g c k,
      add-mul (g k * 2 ^ (k * 8)) (packed g k) c,
      add-mul (f k) (g k * c) (2 ^ (k * 8)),
      swap (g k) (2 ^ (k * 8)) c,
    )
  where
    swap : (x y z : ℕ) → x * y * z ≡ x * z * y
    swap x y z = mul_assoc x y z ∙ ap (λ (w : ℕ). x * w) (mul_comm y z) ∙ sym (mul_assoc x z y)

pub packed_both : (f g : ℕ → ℕ) (k : ℕ) → packed f k + packed g k ≡ packed (λ i. f i + g i) k
unfolding packed
packed_both f g zero = omega arith
packed_both f g (suc k) = omega (arith, packed_both f g k, add-mul (f k) (g k) (2 ^ (k * 8)))

-- a mask works on each digit apart
mask_packed : (f m : ℕ → ℕ) (k : ℕ) → Bytes f k → Bytes m k → bit_and (packed f k) (packed m k) ≡ packed (λ i. bit_and (f i) (m i)) k
unfolding packed
mask_packed f m zero b d = refl
mask_packed f m (suc k) b d =
    let bk : Bytes f k = λ i l. b i (omega arith) in
    let dk : Bytes m k = λ i l. d i (omega arith) in
    and_block (k * 8) (f k) (m k) (packed f k) (packed m k) (packed_lt f k bk) (packed_lt m k dk)
    ∙ rw (mask_packed f m k bk dk)

-- of a number's own digits
pub mask_digits : (n : ℕ) → n < 2 ^ 64 → (m : ℕ → ℕ) → Bytes m 8 → bit_and n (packed m 8) ≡ packed (λ i. bit_and (byte_of n i) (m i)) 8
mask_digits n h m d = ap (λ (x : ℕ). bit_and x (packed m 8)) (eight_digits n h) ∙ mask_packed (byte_of n) m 8 (λ i l. digit_lt n i) d

-- two tests that say the same
same_test : (a b c d : ℕ) → (c < d → a < b) → (d ≤ c → b ≤ a) → ltb a b ≡ ltb c d
same_test a b c d f g =
    by_test (ltb c d) (λ t. lt-ltb a b (f (ltb-true c d t)) ∙ sym t) (λ t. le-ltb a b (g (ltb-false c d t)) ∙ sym t)

-- the mask of all bits but the lowest leaves something of a byte just where it is no chip
mask_chip : (c : ℕ) → c < 256 → ltb 0 (bit_and c 254) ≡ ltb 1 c
mask_chip c h = rw (and_high c 7 1) (same_test 0 (c / 2 ^ 1 % 2 ^ 7 * 2 ^ 1) 1 c (λ l. omega arith) (λ l. omega arith))

-- a number is above 0 where its highest digit is or the others are
digit_above : (a b k : ℕ) → ltb 0 (a * 2 ^ k + b) ≡ pick (ltb 0 b) true (ltb 0 a)
digit_above zero b k =
    let e : zero * 2 ^ k + b ≡ b = omega arith in
    rw e (by_test (ltb 0 b) (λ t. rw t) (λ t. rw t))
digit_above (suc a) b k =
    rw (lt-ltb 0 (suc a * 2 ^ k + b) (omega (arith, suc-mul a (2 ^ k), pow_pos k)), lt-ltb 0 (suc a) (omega arith))
    (by_test (ltb 0 b) (λ t. rw t) (λ t. rw t))

-- so what the mask leaves of k digits is above 0 just where one of them is no chip
module _ (xs : List ℕ) (f : ℕ → ℕ) (b : (i : ℕ) → f i < 256) (e : (i : ℕ) → f i ≡ get_or xs i 0) where
  mask_bad : (k : ℕ) → k ≤ length xs → ltb 0 (packed (λ i. bit_and (f i) 254) k) ≡ bad (take k xs)
  unfolding packed bad
  mask_bad zero h = refl
  mask_bad (suc k) h =
      rw (digit_above, mask_bad k (omega arith), mask_chip (f k) (b k), e k, bad_suc xs k (omega arith))

-- the test of eight bytes at once, at the number that they are packed in
module _ (chips : List ℕ) (at x : ℕ) (h : at + 8 ≤ length chips) (b : (i : ℕ) → from chips at i < 256) (e : x ≡ packed (from chips at) 8) where
  eight_test : ltb 0 (bit_and x 0xFEFEFEFEFEFEFEFE) ≡ bad (take 8 (drop at chips))
  unfolding packed
  eight_test =
      rw e
      (ap (λ (n : ℕ). ltb 0 n) (mask_packed (from chips at) (λ i. 254) 8 (λ i l. b i) (λ i l. omega arith))
      ∙ mask_bad (drop at chips) (from chips at) b (λ i. sym (get_or-drop at chips i 0)) 8 (simp length-drop (omega arith)))

  pub eight_bad : (bit_and x 0xFEFEFEFEFEFEFEFE ≡ 0 → ⊥) → bad (take 8 (drop at chips)) ≡ true
  eight_bad n = sym eight_test ∙ lt-ltb 0 (bit_and x 0xFEFEFEFEFEFEFEFE) (omega (arith, n))

  pub eight_good : bit_and x 0xFEFEFEFEFEFEFEFE ≡ 0 → bad (take 8 (drop at chips)) ≡ false
  eight_good z = sym eight_test ∙ rw z (le-ltb 0 0 (omega arith))

-- the fourth digit of the product with four ones is the sum of four digits: the lower ones carry
-- nothing into it
four_sum : (a b c d : ℕ) → a ≤ 4 → b ≤ 4 → c ≤ 4 → d ≤ 4
    → (d * 2 ^ 24 + c * 2 ^ 16 + b * 2 ^ 8 + a) * (2 ^ 24 + 2 ^ 16 + 2 ^ 8 + 1) / 2 ^ 24 % 2 ^ 8 ≡ a + b + c + d
four_sum a b c d p q r s =
    let above = d * 2 ^ 16 + (c + d) * 2 ^ 8 + (b + c + d) in
    let below = (a + b + c) * 2 ^ 16 + (a + b) * 2 ^ 8 + a in
    let e : (d * 2 ^ 24 + c * 2 ^ 16 + b * 2 ^ 8 + a) * (2 ^ 24 + 2 ^ 16 + 2 ^ 8 + 1) ≡ (above * 2 ^ 8 + (a + b + c + d)) * 2 ^ 24 + below = omega arith in
    let l : below < 2 ^ 24 = omega arith in
    let m : a + b + c + d < 2 ^ 8 = omega arith in
    rw (e, high (above * 2 ^ 8 + (a + b + c + d)) 24 l) (low above 8 m)

-- a number's two halves, added
halves : (a b : ℕ) → a < 2 ^ 32 → (b * 2 ^ 32 + a) % 2 ^ 32 + (b * 2 ^ 32 + a) / 2 ^ 32 ≡ a + b
halves a b h = rw (high b 32 h, low b 32 h)

-- the sum of eight digits of at most 2
pub eight_sum : (h : ℕ → ℕ) → ((i : ℕ) → i < 8 → h i ≤ 2) → digit_sum (packed h 8) ≡ h 0 + h 1 + h 2 + h 3 + h 4 + h 5 + h 6 + h 7
unfolding packed digit_sum
eight_sum h b =
    let b₀ = b 0 (omega arith) in
    let b₁ = b 1 (omega arith) in
    let b₂ = b 2 (omega arith) in
    let b₃ = b 3 (omega arith) in
    let b₄ = b 4 (omega arith) in
    let b₅ = b 5 (omega arith) in
    let b₆ = b 6 (omega arith) in
    let b₇ = b 7 (omega arith) in
    let lower = h 3 * 2 ^ 24 + h 2 * 2 ^ 16 + h 1 * 2 ^ 8 + h 0 in
    let upper = h 7 * 2 ^ 24 + h 6 * 2 ^ 16 + h 5 * 2 ^ 8 + h 4 in
    let e : packed h 8 ≡ upper * 2 ^ 32 + lower = omega arith in
    let l : lower < 2 ^ 32 = omega arith in
    let f : lower + upper ≡ (h 3 + h 7) * 2 ^ 24 + (h 2 + h 6) * 2 ^ 16 + (h 1 + h 5) * 2 ^ 8 + (h 0 + h 4) = omega arith in
    rw (e, halves lower upper l, f)
    (four_sum (h 0 + h 4) (h 1 + h 5) (h 2 + h 6) (h 3 + h 7) (omega arith) (omega arith) (omega arith) (omega arith)
    ∙ omega arith)
