-- Chips laid as the bits of one number: the set bits of an exclusive or are as many as the places
-- where the chips differ. Assumes nothing.
use Rattle.std.proofs.Common.{◌≡◌, ℕ, zero, suc, ◌+◌, ◌-◌, ◌*◌, ◌^◌, ◌<◌, ◌≤◌, eqb, List, length, get_or, take, refl, ◌∙◌, pow-suc, arith, take_all, eqb-true}
use lib.Arith.{digits_lt}
use lib.Bits.{bit_xor, xor_block, xor_lt}
use lib.Count.{ones, ones_cat}
use borrow.Author.Tests.{eqb-false}
use Rattle.codes.specs.Chips.{differ, distance}
use Rattle.codes.proofs.Tests.{by_test}
use Rattle.codes.proofs.Chips.{differ_same, differ_other, distance_more, xor_differ}

-- the number whose bits are k chips, the first the lowest
unfoldable pub laid : (ℕ → ℕ) → ℕ → ℕ
laid f zero = 0
laid f (suc k) = f k * 2 ^ k + laid f k

-- the places among the first k where two windows differ
unfoldable pub apart : (ℕ → ℕ) → (ℕ → ℕ) → ℕ → ℕ
apart f g zero = 0
apart f g (suc k) = apart f g k + differ (f k) (g k)

-- every element is a chip
abbrev pub Chips : (ℕ → ℕ) → Type 0
Chips f = (i : ℕ) → f i ≤ 1

pub laid_lt : (f : ℕ → ℕ) → Chips f → (k : ℕ) → laid f k < 2 ^ k
unfolding laid
laid_lt f b zero = omega arith
laid_lt f b (suc k) =
    let two : f k < 2 = omega (arith, b k) in
    omega (arith, pow-suc 2 k, digits_lt two (laid_lt f b k))

pub laid_cong : (f g : ℕ → ℕ) (k : ℕ) → ((i : ℕ) → i < k → f i ≡ g i) → laid f k ≡ laid g k
unfolding laid
laid_cong f g zero e = refl
laid_cong f g (suc k) e = rw (e k (omega arith), laid_cong f g k (λ i l. e i (omega arith)))

-- of chips, an exclusive or has one bit set where they differ
one_bit : (x y : ℕ) → x ≤ 1 → y ≤ 1 → ones (bit_xor x y) ≡ differ x y
unfolding ones
one_bit x y h j = rw (xor_differ x y h j) (by_test (eqb x y) (λ t. rw t) (λ t. rw t))

pub ones_apart : (f g : ℕ → ℕ) → Chips f → Chips g → (k : ℕ) → ones (bit_xor (laid f k) (laid g k)) ≡ apart f g k
unfolding laid apart ones
ones_apart f g b d zero = refl
ones_apart f g b d (suc k) =
    rw (
      xor_block k (f k) (g k) (laid f k) (laid g k) (laid_lt f b k) (laid_lt g d k),
      ones_cat k (bit_xor (f k) (g k)) (bit_xor (laid f k) (laid g k)) (xor_lt k _ _ (laid_lt f b k) (laid_lt g d k)),
    )
    (omega (arith, ones_apart f g b d k, one_bit (f k) (g k) (b k) (d k)))

-- against a window's inverse there is a difference just where there is none against the window
pub apart_inverse : (f g h : ℕ → ℕ) (k : ℕ) → Chips f → Chips g → ((i : ℕ) → i < k → h i ≡ 1 - g i) → apart f h k + apart f g k ≡ k
unfolding apart
apart_inverse f g h zero b d e = refl
apart_inverse f g h (suc k) b d e =
    omega (arith, apart_inverse f g h k b d (λ i l. e i (omega arith)), inverse (f k) (g k) (h k) (b k) (d k) (e k (omega arith)))
  where
    inverse : (x y z : ℕ) → x ≤ 1 → y ≤ 1 → z ≡ 1 - y → differ x z + differ x y ≡ 1
    inverse x y z b d e =
        by_test (eqb x y)
        (λ t. omega (arith, differ_same x y (eqb-true x y t), differ_other x z (λ u. omega (arith, eqb-true x y t))))
        (λ t. omega (arith, differ_other x y (eqb-false x y t), differ_same x z (omega (arith, eqb-false x y t))))

-- the sum of the first k values
unfoldable pub total : (ℕ → ℕ) → ℕ → ℕ
total f zero = 0
total f (suc k) = total f k + f k

-- of differences it is the number of places
pub total_apart : (d f g : ℕ → ℕ) (k : ℕ) → ((i : ℕ) → i < k → d i ≡ differ (f i) (g i)) → total d k ≡ apart f g k
unfolding total apart
total_apart d f g zero e = refl
total_apart d f g (suc k) e = rw (total_apart d f g k (λ i l. e i (omega arith)), e k (omega arith))

-- windows that agree
pub apart_cong : (f f' g g' : ℕ → ℕ) (k : ℕ) → ((i : ℕ) → i < k → f i ≡ f' i) → ((i : ℕ) → i < k → g i ≡ g' i) → apart f g k ≡ apart f' g' k
unfolding apart
apart_cong f f' g g' zero p q = refl
apart_cong f f' g g' (suc k) p q =
    rw (apart_cong f f' g g' k (λ i h. p i (omega arith)) (λ i h. q i (omega arith)), p k (omega arith), q k (omega arith))

-- the distance of two lists is the number of places where they differ
pub distance_apart : (n : ℕ) (xs ys : List ℕ) → length xs ≡ n → length ys ≡ n → distance xs ys ≡ apart (λ i. get_or xs i 0) (λ i. get_or ys i 0) n
unfolding distance apart
distance_apart n xs ys p q =
    rw (take_all n xs (omega arith), take_all n ys (omega arith)) at (go n (omega arith) (omega arith))
  where
    go : (k : ℕ) → k ≤ length xs → k ≤ length ys → distance (take k xs) (take k ys) ≡ apart (λ i. get_or xs i 0) (λ i. get_or ys i 0) k
    go zero h j = refl
    go (suc k) h j = distance_more xs ys k (omega arith) (omega arith) ∙ rw (go k (omega arith) (omega arith))
