-- Exclusive or: its half, its lowest bit, and that brackets don't matter. Assumes nothing.
use mathlib.Core.Path.{◌≡◌, refl, sym, ap, ◌∙◌}
use Prim.Native.Nat.{ℕ, zero, suc, ◌+◌, ◌/◌, ◌%◌, ◌<◌}
use native.Mathlib.Omega.{arith}
use lib.Arith.{bin_ind}
use lib.Bits.{bit_xor, xor_zero_l, xor_zero_r, xor_shr, xor_mod, xor_comm, xor_self}

-- its half
pub xor_half : (a b : ℕ) → bit_xor a b / 2 ≡ bit_xor (a / 2) (b / 2)
xor_half a b = xor_shr a b 1

-- what is true of each pair of bits
pub of_bits : (P : ℕ → ℕ → Type 0) → P 0 0 → P 0 1 → P 1 0 → P 1 1 → (x y : ℕ) → x < 2 → y < 2 → P x y
of_bits P oo ol lo ll zero zero p q = oo
of_bits P oo ol lo ll zero (suc zero) p q = ol
of_bits P oo ol lo ll (suc zero) zero p q = lo
of_bits P oo ol lo ll (suc zero) (suc zero) p q = ll
of_bits P oo ol lo ll zero (suc (suc y)) p q = absurd (omega arith)
of_bits P oo ol lo ll (suc zero) (suc (suc y)) p q = absurd (omega arith)
of_bits P oo ol lo ll (suc (suc x)) y p q = absurd (omega arith)

-- of two bits it is their sum without the carry
xor_bits : (x y : ℕ) → x < 2 → y < 2 → bit_xor x y ≡ (x + y) % 2
xor_bits = of_bits (λ x y. bit_xor x y ≡ (x + y) % 2) refl refl refl refl

-- and so is its lowest bit
pub xor_low : (a b : ℕ) → bit_xor a b % 2 ≡ (a + b) % 2
xor_low a b = omega (arith, xor_mod a b 1, xor_bits (a % 2) (b % 2) (omega arith) (omega arith))

-- three have one lowest bit, however the brackets stand
low_left : (a b c : ℕ) → bit_xor (bit_xor a b) c % 2 ≡ (a + b + c) % 2
low_left a b c = omega (arith, xor_low (bit_xor a b) c, xor_low a b)

low_right : (a b c : ℕ) → bit_xor a (bit_xor b c) % 2 ≡ (a + b + c) % 2
low_right a b c = omega (arith, xor_low a (bit_xor b c), xor_low b c)

same_number : (x y : ℕ) → x / 2 ≡ y / 2 → x % 2 ≡ y % 2 → x ≡ y
same_number x y h l = omega arith

pub xor_assoc : (a b c : ℕ) → bit_xor (bit_xor a b) c ≡ bit_xor a (bit_xor b c)
xor_assoc a =
    bin_ind (λ (n : ℕ). (b c : ℕ) → bit_xor (bit_xor n b) c ≡ bit_xor n (bit_xor b c))
    (λ b c. rw (xor_zero_l b, xor_zero_l (bit_xor b c)))
    (λ n ih b c.
    same_number _ _
    (xor_half (bit_xor n b) c ∙ ap (λ (x : ℕ). bit_xor x (c / 2)) (xor_half n b) ∙ ih (b / 2) (c / 2)
    ∙ ap (bit_xor (n / 2)) (sym (xor_half b c)) ∙ sym (xor_half n (bit_xor b c)))
    (low_left n b c ∙ sym (low_right n b c)))
    a

-- the second and the third exchanged
pub xor_swap : (a b c : ℕ) → bit_xor (bit_xor a b) c ≡ bit_xor (bit_xor a c) b
xor_swap a b c = xor_assoc a b c ∙ ap (bit_xor a) (xor_comm b c) ∙ sym (xor_assoc a c b)

-- two pairs, each exclusive or taken with its like
pub xor_pairs : (a b c d : ℕ) → bit_xor (bit_xor a b) (bit_xor c d) ≡ bit_xor (bit_xor a c) (bit_xor b d)
xor_pairs a b c d =
    sym (xor_assoc (bit_xor a b) c d) ∙ ap (λ (x : ℕ). bit_xor x d) (xor_swap a b c) ∙ xor_assoc (bit_xor a c) b d

-- numbers whose exclusive or is 0 are equal
pub xor_none : (a b : ℕ) → bit_xor a b ≡ 0 → a ≡ b
xor_none a b e =
    sym (xor_zero_r a) ∙ ap (bit_xor a) (sym (xor_self b)) ∙ sym (xor_assoc a b b) ∙ ap (λ (x : ℕ). bit_xor x b) e ∙ xor_zero_l b
