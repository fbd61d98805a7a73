-- Zeros leave a register of 0 as it is, so that their FCS is 0; and octets with their FCS appended
-- leave 0. Assumes nothing.
use mathlib.Core.Path.{◌≡◌, refl, sym, ap, ◌∙◌}
use mathlib.Core.List.{List, [], ◌∷◌, ◌++◌}
use Prim.Native.Nat.{ℕ, zero, suc, ◌+◌, ◌*◌, ◌/◌, ◌%◌, ◌^◌, ◌<◌}
use native.Mathlib.Omega.{arith}
use lib.Bits.{bit_xor, xor_zero_l, xor_self, xor_lt}
use lib.ListN.{length, replicate, length-append}
use Rattle.frame.specs.Frame.{digits}
use Rattle.frame.proofs.Count.{digits_nought}
use Rattle.frame.proofs.Below.{Below, below_append}
use Rattle.fcs.specs.Fcs.{polynomial, entered, register_after, bits, fcs_of, fcs_octets, with_fcs}
use Rattle.fcs.proofs.Xor.{xor_swap}
use Rattle.fcs.proofs.Register.{enter_digits, comes_down, after_append}
use Rattle.fcs.proofs.Entry.{in_two}
use Rattle.fcs.proofs.Bits.{bits_append, bits_long}

-- bits of 0 leave a register of 0 as it is
pub zeros_enter : (bs : List ℕ) → Below 1 bs → register_after 0 bs ≡ 0
unfolding register_after entered
zeros_enter [] p = refl
zeros_enter (b ∷ bs) p =
    let z : b ≡ 0 = omega (arith, p.0) in
    ap (λ (x : ℕ). register_after (entered 0 x) bs) z ∙ zeros_enter bs p.1

bits_zero : (n : ℕ) → Below 1 (bits (replicate n 0))
unfolding bits
bits_zero zero = tt
bits_zero (suc n) = below_append 1 (digits 8 2 0) (bits (replicate n 0)) (digits_nought 8 2) (bits_zero n)

-- the FCS of nothing but zeros is 0
pub zeros_pass : (n : ℕ) → fcs_of (replicate n 0) ≡ 0
unfolding fcs_of
zeros_pass n = zeros_enter (bits (replicate n 0)) (bits_zero n)

-- the register has 16 bits
pub entered_below : (c b : ℕ) → c < 2 ^ 16 → entered c b < 2 ^ 16
unfolding entered
entered_below c b h = xor_lt 16 (c / 2) ((c + b) % 2 * polynomial) (omega arith) (omega arith)

pub after_below : (c : ℕ) (bs : List ℕ) → c < 2 ^ 16 → register_after c bs < 2 ^ 16
unfolding register_after
after_below c [] h = h
after_below c (b ∷ bs) h = after_below (entered c b) bs (entered_below c b h)

pub fcs_below : (octets : List ℕ) → fcs_of octets < 2 ^ 16
unfolding fcs_of
fcs_below octets = after_below 0 (bits octets) (omega arith)

-- the low octet of a register takes it down to its high octet
low_leaves : (c : ℕ) → register_after c (digits 8 2 (c % 256)) ≡ c / 256
low_leaves c =
    let e : bit_xor c (c % 256) ≡ bit_xor 0 (c / 256 * 256) =
    ap (λ (x : ℕ). bit_xor x (c % 256)) (sym (in_two c)) ∙ xor_swap (c % 256) (c / 256 * 256) (c % 256)
    ∙ ap (λ (x : ℕ). bit_xor x (c / 256 * 256)) (xor_self (c % 256)) in
    enter_digits 8 c (c % 256) (omega arith)
    ∙ ap (λ (x : ℕ). register_after x (digits 8 2 0)) e
    ∙ comes_down 8 0 (c / 256)
    ∙ ap (λ (x : ℕ). bit_xor x (c / 256)) (zeros_enter (digits 8 2 0) (digits_nought 8 2))
    ∙ xor_zero_l (c / 256)

-- and the high octet to 0
high_leaves : (c : ℕ) → c < 256 → register_after c (digits 8 2 c) ≡ 0
high_leaves c h =
    enter_digits 8 c c h ∙ ap (λ (x : ℕ). register_after x (digits 8 2 0)) (xor_self c) ∙ zeros_enter (digits 8 2 0) (digits_nought 8 2)

-- octets with their FCS appended: two more, and octets again
pub with_long : (octets : List ℕ) → length (with_fcs octets) ≡ length octets + 2
with_long octets = length-append octets (fcs_octets octets)

pub with_below : (octets : List ℕ) → Below 256 octets → Below 256 (with_fcs octets)
with_below octets p = below_append 256 octets (fcs_octets octets) p (omega (arith, fcs_below octets), (omega (arith, fcs_below octets), tt))

-- of strings of one length they have one number of bits
pub with_bits : (xs ys : List ℕ) → length xs ≡ length ys → length (bits (with_fcs xs)) ≡ length (bits (with_fcs ys))
with_bits xs ys l = omega (arith, bits_long (with_fcs xs), bits_long (with_fcs ys), with_long xs, with_long ys, l)

-- they leave a remainder of 0
pub remainder : (octets : List ℕ) → fcs_of (with_fcs octets) ≡ 0
unfolding fcs_of bits register_after
remainder octets =
    let c = register_after 0 (bits octets) in
    let h : c / 256 < 256 = omega (arith, after_below 0 (bits octets) (omega arith)) in
    ap (register_after 0) (bits_append octets (c % 256 ∷ c / 256 ∷ []))
    ∙ after_append 0 (bits octets) (digits 8 2 (c % 256) ++ (digits 8 2 (c / 256) ++ []))
    ∙ after_append c (digits 8 2 (c % 256)) (digits 8 2 (c / 256) ++ [])
    ∙ ap (λ (x : ℕ). register_after x (digits 8 2 (c / 256) ++ [])) (low_leaves c)
    ∙ after_append (c / 256) (digits 8 2 (c / 256)) []
    ∙ ap (λ (x : ℕ). register_after x []) (high_leaves (c / 256) h)
