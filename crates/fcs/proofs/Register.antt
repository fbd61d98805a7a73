-- The register: what is added to it before bits enter comes down through them, and octets enter one
-- after the other. Assumes nothing.
use mathlib.Core.Path.{◌≡◌, refl, sym, ap, ◌∙◌}
use mathlib.Core.List.{List, [], ◌∷◌, ◌++◌}
use Prim.Native.Nat.{ℕ, zero, suc, ◌+◌, ◌-◌, ◌*◌, ◌/◌, ◌%◌, ◌^◌, ◌<◌}
use native.Mathlib.Nat.{pow-suc, mul_assoc, mul-one, div-div-eq-div-mul}
use native.Mathlib.Numerals.{add-one}
use native.Mathlib.Omega.{arith}
use lib.Bits.{bit_and, bit_xor, xor_zero_r}
use Rattle.std.specs.List.{fold}
use Rattle.std.proofs.lemmas.Nat.{and_mask}
use Rattle.frame.specs.Frame.{digits}
use Rattle.fcs.specs.Fcs.{polynomial, entered, register_after, bits, fcs_of}
use Rattle.fcs.specs.declared.TheConstants.{START}
use Rattle.fcs.proofs.Xor.{xor_half, xor_low, xor_swap}

-- Something added to the register before a bit enters is half of it added after, and its lowest bit
-- added to the bit.
pub entered_xor : (c d b : ℕ) → entered (bit_xor c d) b ≡ bit_xor (entered c ((d + b) % 2)) (d / 2)
unfolding entered
entered_xor c d b =
    let e : (bit_xor c d + b) % 2 ≡ (c + (d + b) % 2) % 2 = omega (arith, xor_low c d) in
    rw (xor_half c d, e) (xor_swap (c / 2) (d / 2) ((c + (d + b) % 2) % 2 * polynomial))

-- n bits that enter are those of a number added to the register before n bits of 0
pub enter_digits : (n c x : ℕ) → x < 2 ^ n → register_after c (digits n 2 x) ≡ register_after (bit_xor c x) (digits n 2 0)
unfolding digits register_after
enter_digits zero c x h =
    let z : x ≡ 0 = omega arith in
    sym (ap (bit_xor c) z ∙ xor_zero_r c)
enter_digits (suc n) c x h =
    let q : x / 2 < 2 ^ n = omega (arith, pow-suc 2 n) in
    let e : (x + 0) % 2 ≡ x % 2 = omega arith in
    enter_digits n (entered c (x % 2)) (x / 2) q
    ∙ ap (λ (y : ℕ). register_after y (digits n 2 0)) (sym (entered_xor c x 0 ∙ ap (λ (y : ℕ). bit_xor (entered c y) (x / 2)) e))

-- what stands n places up comes down by n bits of 0, and is added there
pub comes_down : (n x y : ℕ) → register_after (bit_xor x (y * 2 ^ n)) (digits n 2 0) ≡ bit_xor (register_after x (digits n 2 0)) y
unfolding digits register_after
comes_down zero x y = rw (mul-one y)
comes_down (suc n) x y =
    let p : y * 2 ^ suc n ≡ y * 2 ^ n * 2 = ap (λ (z : ℕ). y * z) (pow-suc 2 n) ∙ sym (mul_assoc y (2 ^ n) 2) in
    let e : (y * 2 ^ n * 2 + 0) % 2 ≡ 0 = omega arith in
    let h : y * 2 ^ n * 2 / 2 ≡ y * 2 ^ n = omega arith in
    ap (λ (z : ℕ). register_after (entered (bit_xor x z) 0) (digits n 2 0)) p
    ∙ ap (λ (z : ℕ). register_after z (digits n 2 0)) (entered_xor x (y * 2 ^ n * 2) 0 ∙ rw (e, h))
    ∙ comes_down n (entered x 0) y

-- bit k of a number enters before those from k + 1 on
pub bit_enters : (k c x : ℕ) → k < 8
    → register_after c (digits (8 - k) 2 (x / 2 ^ k)) ≡ register_after (entered c (bit_and (x / 2 ^ k) 1)) (digits (8 - (k + 1)) 2 (x / 2 ^ (k + 1)))
unfolding digits register_after
bit_enters k c x h =
    let e : 8 - k ≡ suc (8 - (k + 1)) = omega arith in
    let q : x / 2 ^ (k + 1) ≡ x / 2 ^ k / 2 = rw (add-one k, pow-suc 2 k) (sym (div-div-eq-div-mul x (2 ^ k) 2)) in
    rw (e, q, and_mask (x / 2 ^ k) 1)

-- bits after bits
pub after_append : (c : ℕ) (bs ds : List ℕ) → register_after c (bs ++ ds) ≡ register_after (register_after c bs) ds
unfolding register_after
after_append c [] ds = refl
after_append c (b ∷ bs) ds = after_append (entered c b) bs ds

-- octets enter one after the other, each by its bits
enter_from : (c : ℕ) (octets : List ℕ) → fold (λ r x. register_after r (digits 8 2 x)) c octets ≡ register_after c (bits octets)
unfolding bits register_after
enter_from c [] = refl
enter_from c (x ∷ xs) = enter_from (register_after c (digits 8 2 x)) xs ∙ sym (after_append c (digits 8 2 x) (bits xs))

-- what they make of the code's start value is the FCS
pub octets_enter : (octets : List ℕ) (c : ℕ) → c ≡ fold (λ r x. register_after r (digits 8 2 x)) START octets → c ≡ fcs_of octets
unfolding fcs_of
octets_enter octets c e = e ∙ enter_from START octets
