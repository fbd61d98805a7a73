-- Octets that end in their FCS have an even number of ones among their bits. For the polynomial
-- without its x^16 has an odd number of ones, so that the register's number of ones is odd or even
-- with the number of ones that have entered. So two strings of one length that both end in their
-- FCS differ in an even number of bits, and an odd number of wrong bits is always found. Assumes
-- nothing.
use mathlib.Core.Path.{◌≡◌, refl, sym, ap, ◌∙◌}
use mathlib.Core.List.{List, [], ◌∷◌}
use Prim.Native.Nat.{ℕ, zero, suc, ◌+◌, ◌*◌, ◌/◌, ◌%◌, ◌^◌, ◌<◌}
use native.Mathlib.Nat.{pow-suc}
use native.Mathlib.Omega.{arith}
use lib.Bits.{bit_xor}
use lib.ListN.{length}
use Rattle.codes.specs.Chips.{differ, distance}
use Rattle.codes.proofs.Tests.{upto}
use Rattle.codes.proofs.Chips.{xor_differ}
use Rattle.frame.proofs.Below.{Below}
use Rattle.fcs.specs.Fcs.{polynomial, entered, register_after, bits, fcs_of, with_fcs}
use Rattle.fcs.proofs.Xor.{xor_half, xor_low}
use Rattle.fcs.proofs.Bits.{bits_below}
use Rattle.fcs.proofs.Remainder.{with_bits, entered_below, remainder}

-- 1 where an odd number of the k lowest bits are ones, else 0
unfoldable odd : ℕ → ℕ → ℕ
odd zero x = 0
odd (suc k) x = (x + odd k (x / 2)) % 2

-- of two pairs of numbers, the sums taken in another order
sums : (u p q : ℕ) → (u + (p + q) % 2) % 2 ≡ (u + (p + q)) % 2
sums u p q = omega arith

sums_of : (x y p q : ℕ) → ((x + p) % 2 + (y + q) % 2) % 2 ≡ (x + y + (p + q)) % 2
sums_of x y p q = omega arith

odd_xor : (k x y : ℕ) → odd k (bit_xor x y) ≡ (odd k x + odd k y) % 2
unfolding odd
odd_xor zero x y = refl
odd_xor (suc k) x y =
    let p = odd k (x / 2) in
    let q = odd k (y / 2) in
    let u : (bit_xor x y + (p + q)) % 2 ≡ (x + y + (p + q)) % 2 = omega (arith, xor_low x y) in
    rw (xor_half x y, odd_xor k (x / 2) (y / 2)) (sums (bit_xor x y) p q ∙ u ∙ sym (sums_of x y p q))

-- a bit more that isn't there changes nothing
odd_more : (k x : ℕ) → x < 2 ^ k → odd (suc k) x ≡ odd k x
unfolding odd
odd_more zero x h = omega arith
odd_more (suc k) x h = ap (λ (n : ℕ). (x + n) % 2) (odd_more k (x / 2) (omega (arith, pow-suc 2 k)))

odd_polynomial : (f : ℕ) → f < 2 → odd 16 (f * polynomial) ≡ f
unfolding odd
odd_polynomial zero h = refl
odd_polynomial (suc zero) h = refl
odd_polynomial (suc (suc f)) h = absurd (omega arith)

-- one bit, and the others
odd_step : (k x : ℕ) → odd (suc k) x ≡ (x + odd k (x / 2)) % 2
unfolding odd
odd_step k x = refl

-- a bit that enters makes it odd or even
odd_entered : (c b : ℕ) → c < 2 ^ 16 → odd 16 (entered c b) ≡ (odd 16 c + b) % 2
unfolding entered
odd_entered c b h =
    let q = odd 16 (c / 2) in
    let f = (c + b) % 2 in
    odd_xor 16 (c / 2) (f * polynomial)
    ∙ ap (λ (n : ℕ). (q + n) % 2) (odd_polynomial f (omega arith))
    ∙ turned q
    ∙ ap (λ (n : ℕ). (n + b) % 2) (sym (odd_step 16 c) ∙ odd_more 16 c h)
  where
    turned : (q : ℕ) → (q + (c + b) % 2) % 2 ≡ ((c + q) % 2 + b) % 2
    turned q = omega arith

-- the number of ones among bits
unfoldable pub ones : List ℕ → ℕ
ones [] = 0
ones (b ∷ bs) = b + ones bs

-- and so do bits, one after the other
odd_after : (c : ℕ) (bs : List ℕ) → c < 2 ^ 16 → odd 16 (register_after c bs) ≡ (odd 16 c + ones bs) % 2
unfolding register_after ones
odd_after c [] h = omega (arith, odd_step 15 c)
odd_after c (b ∷ bs) h = odd_after (entered c b) bs (entered_below c b h) ∙ rw (odd_entered c b h) (carried (odd 16 c) (ones bs))
  where
    carried : (o n : ℕ) → ((o + b) % 2 + n) % 2 ≡ (o + (b + n)) % 2
    carried o n = omega arith

-- octets with their FCS have an even number of ones
pub ones_even : (octets : List ℕ) → ones (bits (with_fcs octets)) % 2 ≡ 0
unfolding fcs_of odd
ones_even octets = omega (arith, sym (odd_after 0 (bits (with_fcs octets)) (omega arith)) ∙ ap (odd 16) (remainder octets))

differ_bits : (x y : ℕ) → x < 2 → y < 2 → (differ x y + (x + y)) % 2 ≡ 0
differ_bits x y p q = omega (arith, xor_differ x y (upto x 1 p) (upto y 1 q), xor_low x y)

-- the number of bits that differ is odd or even with the numbers of ones
differ_ones : (bs ds : List ℕ) → Below 2 bs → Below 2 ds → length bs ≡ length ds → (distance bs ds + (ones bs + ones ds)) % 2 ≡ 0
unfolding distance ones
differ_ones [] [] p q e = refl
differ_ones [] (y ∷ ds) p q e = absurd (omega arith)
differ_ones (x ∷ bs) [] p q e = absurd (omega arith)
differ_ones (x ∷ bs) (y ∷ ds) p q e =
    omega (arith, differ_bits x y p.0 q.0, differ_ones bs ds p.1 q.1 (omega arith))

-- Of two strings of octets of one length, each with its FCS at the end, an even number of bits
-- differ.
pub even_apart_lem : (xs ys : List ℕ) → length xs ≡ length ys → distance (bits (with_fcs xs)) (bits (with_fcs ys)) % 2 ≡ 0
even_apart_lem xs ys l =
    let d = differ_ones (bits (with_fcs xs)) (bits (with_fcs ys)) (bits_below (with_fcs xs)) (bits_below (with_fcs ys)) (with_bits xs ys l) in
    omega (arith, d, ones_even xs, ones_even ys)
