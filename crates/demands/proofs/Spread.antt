-- The bits of octets are those of their raw symbols, one symbol after the other. So where raw
-- symbols differ only at one and the next, bits differ only within the bits of two symbols. For any
-- sound radio. Assumes nothing.
use mathlib.Core.Path.{◌≡◌, refl, sym, ap, ◌∙◌}
use mathlib.Core.List.{List, [], ◌∷◌, ◌++◌, append_assoc}
use Prim.Native.Nat.{ℕ, zero, suc, ◌+◌, ◌-◌, ◌*◌, ◌/◌, ◌%◌, ◌^◌, ◌≤◌, ◌<◌}
use native.Mathlib.Nat.{suc-mul, zero-mul, zero-add, suc-add, div-one, div-eq_of_lt, mod-eq_of_lt, add-div_left, add-mod_left, div-add-mod', mod-lt}
use native.Mathlib.Numerals.{add-one}
use native.Mathlib.Omega.{arith}
use lib.Pow.{shr-shr, mod-mod-pow, field}
use lib.Dec.{eqb, ltb}
use lib.ListN.{length, get_or, get_or-append}
use lib.Seq.{get_or-append-add}
use borrow.Author.Tests.{eqb-true, eqb-false, ltb-true, ltb-false}
use Rattle.codes.specs.Radio.{Radio, Sound}
use Rattle.codes.proofs.Tests.{by_test}
use Rattle.frame.specs.Frame.{per_octet, digits, raw_of, raws}
use Rattle.frame.proofs.Count.{digits_long, digits_nought}
use Rattle.frame.proofs.Below.{below_at}
use Rattle.fcs.specs.Fcs.{bits}

-- the bits of numbers of b bits each, one after the other
unfoldable pub bits_of : ℕ → List ℕ → List ℕ
bits_of b [] = []
bits_of b (v ∷ vs) = digits b 2 v ++ bits_of b vs

bits_of_append : (b : ℕ) (vs ws : List ℕ) → bits_of b (vs ++ ws) ≡ bits_of b vs ++ bits_of b ws
unfolding bits_of
bits_of_append b [] ws = refl
bits_of_append b (v ∷ vs) ws =
    ap (λ (l : List ℕ). digits b 2 v ++ l) (bits_of_append b vs ws) ∙ sym (append_assoc (digits b 2 v) (bits_of b vs) (bits_of b ws))

-- the lowest m bits, and n more
pub digits_add : (m n x : ℕ) → digits (m + n) 2 x ≡ digits m 2 x ++ digits n 2 (x / 2 ^ m)
unfolding digits
digits_add zero n x = rw (zero-add n, div-one x)
digits_add (suc m) n x =
    let e : 1 + m ≡ suc m = omega arith in
    rw (suc-add m n) (ap (λ (l : List ℕ). x % 2 ∷ l) (digits_add m n (x / 2) ∙ rw (shr-shr x 1 m, e)))

-- the lowest bits of what is left of a number by their weight
pub digits_low : (m x : ℕ) → digits m 2 (x % 2 ^ m) ≡ digits m 2 x
unfolding digits
digits_low zero x = refl
digits_low (suc m) x =
    let e : suc m ≡ m + 1 = omega arith in
    rw (e, mod-mod-pow x m 1, field x m 1) (ap (λ (l : List ℕ). x % 2 ∷ l) (digits_low m (x / 2)))

-- the bits of digits in base 2^b
bits_digits : (b m x : ℕ) → bits_of b (digits m (2 ^ b) x) ≡ digits (m * b) 2 x
unfolding bits_of digits
bits_digits b zero x = rw (zero-mul b)
bits_digits b (suc m) x =
    let e : suc m * b ≡ b + m * b = omega (arith, suc-mul m b) in
    rw (e, digits_low b x, bits_digits b m (x / 2 ^ b)) (sym (digits_add b (m * b) x))

-- the bits of octets are those of their raw symbols
pub bits_raws : (r : Radio) → Sound r → (xs : List ℕ) → bits xs ≡ bits_of r.bits (raws r xs)
unfolding bits raws bits_of
bits_raws r S [] = refl
bits_raws r S (x ∷ xs) =
    rw (bits_of_append r.bits (raw_of r x) (raws r xs), bits_digits r.bits (per_octet r) x, S.divides, bits_raws r S xs)

-- bit i is one of number i / b
bit_at : (b : ℕ) → 0 < b → (vs : List ℕ) (i : ℕ) → get_or (bits_of b vs) i 0 ≡ get_or (digits b 2 (get_or vs (i / b) 0)) (i % b) 0
unfolding bits_of
bit_at b h [] i =
    omega (arith, below_at 1 (digits b 2 0) (digits_nought b 2) (i % b) (omega (arith, mod-lt i h, digits_long b 2 0)))
bit_at b h (v ∷ vs) i =
    by_test (ltb i b)
    (λ t.
    let l = ltb-true i b t in
    get_or-append (digits b 2 v) (bits_of b vs) 0 i (omega (arith, l, digits_long b 2 v)) ∙ rw (div-eq_of_lt l, mod-eq_of_lt l))
    (λ f.
    let j = i - b in
    let e : i ≡ b + j = omega (arith, ltb-false i b f) in
    let q : i / b ≡ suc (j / b) = ap (λ (n : ℕ). n / b) e ∙ add-div_left j h ∙ add-one (j / b) in
    let m : i % b ≡ j % b = ap (λ (n : ℕ). n % b) e ∙ add-mod_left b j in
    let u : i ≡ length (digits b 2 v) + j = omega (arith, e, digits_long b 2 v) in
    ap (λ (n : ℕ). get_or (digits b 2 v ++ bits_of b vs) n 0) u ∙ get_or-append-add (digits b 2 v) (bits_of b vs) j 0 ∙ bit_at b h vs j ∙ rw (q, m))

-- Numbers of at most eight bits that differ only at places s and s + 1: their bits differ only
-- within the 16 from the first of those.
pub within_two : (b : ℕ) → 0 < b → b ≤ 8 → (vs ws : List ℕ) (s : ℕ) → ((j : ℕ) → (j ≡ s → ⊥) → (j ≡ suc s → ⊥) → get_or vs j 0 ≡ get_or ws j 0)
    → (i : ℕ) → (get_or (bits_of b vs) i 0 ≡ get_or (bits_of b ws) i 0 → ⊥) → (s * b ≤ i) × (i < s * b + 16)
within_two b h k vs ws s same i n =
    by_test (eqb (i / b) s) (λ t. near (eqb-true (i / b) s t))
    (λ f. by_test (eqb (i / b) (suc s)) (λ t. next (eqb-true (i / b) (suc s) t))
    (λ g.
    let e = same (i / b) (eqb-false (i / b) s f) (eqb-false (i / b) (suc s) g) in
    absurd (n (bit_at b h vs i ∙ rw e (sym (bit_at b h ws i))))))
  where
    parts : i / b * b + i % b ≡ i
    parts = div-add-mod' i b

    rest : i % b < b
    rest = mod-lt i h

    near : i / b ≡ s → (s * b ≤ i) × (i < s * b + 16)
    near e = let p = rw e at parts in (omega (arith, p), omega (arith, p, rest))

    next : i / b ≡ suc s → (s * b ≤ i) × (i < s * b + 16)
    next e = let p = rw (e, suc-mul s b) at parts in (omega (arith, p), omega (arith, p, rest))
