-- The bits of octets: eight of each, 0 or 1, by which the octets can be told. Assumes nothing.
use mathlib.Core.Path.{◌≡◌, refl, sym, ap, ◌∙◌}
use mathlib.Core.List.{List, [], ◌∷◌, ◌++◌, append_assoc}
use Prim.Native.Nat.{ℕ, zero, suc, ◌*◌, ◌/◌, ◌%◌, ◌^◌, ◌<◌}
use native.Mathlib.Nat.{pow-suc}
use native.Mathlib.Omega.{arith}
use lib.ListN.{length, get_or, take, drop, length-append}
use lib.Seq.{take_at, drop_at}
use Rattle.frame.specs.Frame.{digits}
use Rattle.frame.proofs.Count.{digits_long, digits_below}
use Rattle.frame.proofs.Below.{Below, below_append}
use Rattle.fcs.specs.Fcs.{bits}

-- the bits of octets after octets
pub bits_append : (xs ys : List ℕ) → bits (xs ++ ys) ≡ bits xs ++ bits ys
unfolding bits
bits_append [] ys = refl
bits_append (x ∷ xs) ys = ap (λ (bs : List ℕ). digits 8 2 x ++ bs) (bits_append xs ys) ∙ sym (append_assoc (digits 8 2 x) (bits xs) (bits ys))

-- the bits of octets are bits
pub bits_below : (xs : List ℕ) → Below 2 (bits xs)
unfolding bits
bits_below [] = tt
bits_below (x ∷ xs) = below_append 2 (digits 8 2 x) (bits xs) (digits_below 8 2 x (omega arith)) (bits_below xs)

-- eight of each octet
pub bits_long : (xs : List ℕ) → length (bits xs) ≡ length xs * 8
unfolding bits
bits_long [] = refl
bits_long (x ∷ xs) = length-append (digits 8 2 x) (bits xs) ∙ rw (digits_long 8 2 x) (omega (arith, bits_long xs))

-- they tell the octets
digits_same : (n x y : ℕ) → x < 2 ^ n → y < 2 ^ n → digits n 2 x ≡ digits n 2 y → x ≡ y
unfolding digits
digits_same zero x y h k e = omega arith
digits_same (suc n) x y h k e =
    let d = digits_same n (x / 2) (y / 2) (omega (arith, pow-suc 2 n)) (omega (arith, pow-suc 2 n)) (ap (drop 1) e) in
    let l : x % 2 ≡ y % 2 = ap (λ (bs : List ℕ). get_or bs 0 0) e in
    omega (arith, d, l)

pub bits_same : (xs ys : List ℕ) → Below 256 xs → Below 256 ys → length xs ≡ length ys → bits xs ≡ bits ys → xs ≡ ys
unfolding bits
bits_same [] [] p q l e = refl
bits_same [] (y ∷ ys) p q l e = absurd (omega arith)
bits_same (x ∷ xs) [] p q l e = absurd (omega arith)
bits_same (x ∷ xs) (y ∷ ys) p q l e =
    let h = sym (take_at (digits 8 2 x) (bits xs) 8 (digits_long 8 2 x)) ∙ ap (take 8) e ∙ take_at (digits 8 2 y) (bits ys) 8 (digits_long 8 2 y) in
    let t = sym (drop_at (digits 8 2 x) (bits xs) 8 (digits_long 8 2 x)) ∙ ap (drop 8) e ∙ drop_at (digits 8 2 y) (bits ys) 8 (digits_long 8 2 y) in
    rw (digits_same 8 x y p.0 q.0 h, bits_same xs ys p.1 q.1 (omega arith) t)
