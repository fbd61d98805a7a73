-- What the FCS catches: of two strings of octets of one length that both end in their FCS, the
-- places where their bits differ are never within one run of 16 bits. The two added, bit by bit and
-- without carries, give the register the sum of what each gives it: 0. Going back from there: a
-- register that ends below 2^15 was no exclusive or with the polynomial, whose top bit is set; so
-- before bits of 0 it was 0, and before at most 16 other bits it held just those. As it was 0
-- before them too, they are all 0, and nothing differed. Assumes nothing.
use mathlib.Core.Path.{◌≡◌, refl, sym, ap, ◌∙◌}
use mathlib.Core.List.{List, [], ◌∷◌, ◌++◌}
use Prim.Native.Nat.{ℕ, zero, suc, ◌+◌, ◌*◌, ◌/◌, ◌%◌, ◌^◌, ◌≤◌, ◌<◌}
use native.Mathlib.Nat.{pow-suc, pow-le-pow_right, min-le_left}
use native.Mathlib.Omega.{arith}
use lib.Bits.{bit_xor, xor_zero_r, xor_self, xor_lt, xor_shr}
use lib.Dec.{eqb}
use lib.Pow.{pow_pos}
use lib.ListN.{length, get_or, take, drop, length-take, take-append-drop}
use lib.Seq.{get_or-take, get_or-drop, ext_get_or, take_at}
use borrow.Author.Tests.{eqb-true, eqb-false}
use Rattle.codes.proofs.Tests.{by_test}
use Rattle.frame.specs.Frame.{digits}
use Rattle.frame.proofs.Count.{digits_nought}
use Rattle.frame.proofs.Below.{Below, below_append, below_at, at_below, below_take, below_drop}
use Rattle.fcs.specs.Fcs.{polynomial, entered, register_after, bits, fcs_of, with_fcs}
use Rattle.fcs.proofs.Xor.{of_bits, xor_half, xor_low, xor_pairs, xor_none}
use Rattle.fcs.proofs.Register.{after_append}
use Rattle.fcs.proofs.Bits.{bits_below, bits_same}
use Rattle.fcs.proofs.Remainder.{with_long, with_below, with_bits, zeros_enter, entered_below, after_below, remainder}

-- ---- two strings of bits, added

abbrev pub added : List ℕ → List ℕ → List ℕ
added [] ds = []
added (b ∷ bs) [] = []
added (b ∷ bs) (d ∷ ds) = bit_xor b d ∷ added bs ds

-- the polynomial or nothing, added to the polynomial or nothing
polynomials : (x y : ℕ) → x < 2 → y < 2 → (x + y) % 2 * polynomial ≡ bit_xor (x * polynomial) (y * polynomial)
polynomials = of_bits (λ x y. (x + y) % 2 * polynomial ≡ bit_xor (x * polynomial) (y * polynomial)) refl refl refl refl

parity : (c d x y : ℕ) → (bit_xor c d + bit_xor x y) % 2 ≡ (c + d + (x + y)) % 2
parity c d x y = omega (arith, xor_low c d, xor_low x y)

parities : (c d x y : ℕ) → ((c + x) % 2 + (d + y) % 2) % 2 ≡ (c + d + (x + y)) % 2
parities c d x y = omega arith

entered_both : (c d x y : ℕ) → entered (bit_xor c d) (bit_xor x y) ≡ bit_xor (entered c x) (entered d y)
unfolding entered
entered_both c d x y =
    let e : (bit_xor c d + bit_xor x y) % 2 ≡ ((c + x) % 2 + (d + y) % 2) % 2 = parity c d x y ∙ sym (parities c d x y) in
    rw (xor_half c d, e, polynomials ((c + x) % 2) ((d + y) % 2) (omega arith) (omega arith))
    (xor_pairs (c / 2) (d / 2) ((c + x) % 2 * polynomial) ((d + y) % 2 * polynomial))

-- the sum of two strings gives the sum of the registers
after_both : (c d : ℕ) (bs ds : List ℕ) → length bs ≡ length ds → register_after (bit_xor c d) (added bs ds) ≡ bit_xor (register_after c bs) (register_after d ds)
unfolding register_after
after_both c d [] [] e = refl
after_both c d [] (y ∷ ds) e = absurd (omega arith)
after_both c d (x ∷ bs) [] e = absurd (omega arith)
after_both c d (x ∷ bs) (y ∷ ds) e =
    ap (λ (r : ℕ). register_after r (added bs ds)) (entered_both c d x y) ∙ after_both (entered c x) (entered d y) bs ds (omega arith)

pub added_long : (bs ds : List ℕ) → length bs ≡ length ds → length (added bs ds) ≡ length bs
added_long [] ds e = refl
added_long (x ∷ bs) [] e = absurd (omega arith)
added_long (x ∷ bs) (y ∷ ds) e = ap suc (added_long bs ds (omega arith))

added_at : (bs ds : List ℕ) → length bs ≡ length ds → (i : ℕ) → get_or (added bs ds) i 0 ≡ bit_xor (get_or bs i 0) (get_or ds i 0)
added_at [] [] e i = refl
added_at [] (y ∷ ds) e i = absurd (omega arith)
added_at (x ∷ bs) [] e i = absurd (omega arith)
added_at (x ∷ bs) (y ∷ ds) e zero = refl
added_at (x ∷ bs) (y ∷ ds) e (suc i) = added_at bs ds (omega arith) i

pub added_below : (bs ds : List ℕ) → Below 2 bs → Below 2 ds → Below 2 (added bs ds)
added_below [] ds p q = tt
added_below (x ∷ bs) [] p q = tt
added_below (x ∷ bs) (y ∷ ds) p q = (xor_lt 1 x y p.0 q.0, added_below bs ds p.1 q.1)

-- ---- going back

-- a register that ends below 2^15 was no exclusive or with the polynomial
pub entered_low : (c b : ℕ) → c < 2 ^ 16 → b < 2 → entered c b < 2 ^ 15 → (c / 2 ≡ entered c b) × (c % 2 ≡ b)
unfolding entered
entered_low c b h k l =
    by_test (eqb ((c + b) % 2) 0)
    (λ t. let z = eqb-true ((c + b) % 2) 0 t in (sym (rw z (xor_zero_r (c / 2))), omega (arith, z)))
    (λ t.
    let o : (c + b) % 2 ≡ 1 = omega (arith, eqb-false ((c + b) % 2) 0 t) in
    let z : c / 2 / 2 ^ 15 ≡ 0 = omega arith in
    let u : bit_xor (c / 2) polynomial / 2 ^ 15 ≡ 1 = xor_shr (c / 2) polynomial 15 ∙ rw z in
    let v : bit_xor (c / 2) polynomial < 2 ^ 15 = rw o at l in
    absurd (omega (arith, u, v)))

-- before bits of 0 that lead to 0 stood 0
pub zero_before : (c : ℕ) (bs : List ℕ) → c < 2 ^ 16 → Below 1 bs → register_after c bs ≡ 0 → c ≡ 0
unfolding register_after
zero_before c [] h p e = e
zero_before c (b ∷ bs) h p e =
    let z = zero_before (entered c b) bs (entered_below c b h) p.1 e in
    let l = entered_low c b h (omega (arith, p.0)) (omega (arith, z)) in
    omega (arith, l.0, l.1, z, p.0)

few_bits : (n : ℕ) → n ≤ 15 → 2 ^ n ≤ 2 ^ 15
few_bits n h = pow-le-pow_right (pow_pos 1) h

-- before at most 16 bits that lead to 0 the register held just them
bits_held : (c : ℕ) (bs : List ℕ) → c < 2 ^ 16 → Below 2 bs → length bs ≤ 16 → register_after c bs ≡ 0
    → (digits (length bs) 2 c ≡ bs) × (c < 2 ^ length bs)
unfolding register_after digits
bits_held c [] h p k e = (refl, omega (arith, e))
bits_held c (b ∷ bs) h p k e =
    let z = bits_held (entered c b) bs (entered_below c b h) p.1 (omega arith) e in
    let m : 2 ^ length bs ≤ 2 ^ 15 = few_bits (length bs) (omega arith) in
    let l = entered_low c b h p.0 (omega (arith, z.1, m)) in (
      rw (l.1, l.0, z.0),
      omega (arith, z.1, l.0, pow-suc 2 (length bs)),
    )

-- ---- what it catches

-- bits of which those that aren't 0 stand within a run of 16, from a place on
abbrev Within : ℕ → List ℕ → Type 0
Within at bs = (i : ℕ) → (get_or bs i 0 ≡ 0 → ⊥) → (at ≤ i) × (i < at + 16)

-- one outside it is 0
outside : (at : ℕ) (bs : List ℕ) → Within at bs → (i : ℕ) → ((at ≤ i) → (i < at + 16) → ⊥) → get_or bs i 0 < 1
outside at bs w i n =
    by_test (eqb (get_or bs i 0) 0) (λ t. omega (arith, eqb-true (get_or bs i 0) 0 t))
    (λ f. let p = w i (eqb-false (get_or bs i 0) 0 f) in absurd (n p.0 p.1))

-- such bits that lead from 0 to 0 are all 0
module _ (at : ℕ) (bs : List ℕ) (p : Below 2 bs) (w : Within at bs) (e : register_after 0 bs ≡ 0) where
  abbrev before : List ℕ
  before = take at bs

  abbrev run : List ℕ
  run = take 16 (drop at bs)

  abbrev later : List ℕ
  later = drop 16 (drop at bs)

  split : before ++ (run ++ later) ≡ bs
  split = ap (λ (xs : List ℕ). before ++ xs) (take-append-drop 16 (drop at bs)) ∙ take-append-drop at bs

  zero_first : Below 1 before
  zero_first = at_below 1 before (λ i h.
      let l : i < at = omega (arith, length-take at bs, min-le_left at (length bs)) in
      rw (get_or-take at bs i 0 l) (outside at bs w i (λ u v. omega arith)))

  zero_later : Below 1 later
  zero_later = at_below 1 later (λ i h.
      rw (get_or-drop 16 (drop at bs) i 0, get_or-drop at bs (16 + i) 0) (outside at bs w (at + (16 + i)) (λ u v. omega arith)))

  through : register_after (register_after 0 run) later ≡ 0
  through =
      sym (after_append 0 run later) ∙ ap (λ (c : ℕ). register_after c (run ++ later)) (sym (zeros_enter before zero_first))
      ∙ sym (after_append 0 before (run ++ later)) ∙ ap (register_after 0) split ∙ e

  zero_run : Below 1 run
  zero_run =
      let z = zero_before (register_after 0 run) later (after_below 0 run (omega arith)) zero_later through in
      let l : length run ≤ 16 = omega (arith, length-take 16 (drop at bs), min-le_left 16 (length (drop at bs))) in
      let held = (bits_held 0 run (omega arith) (below_take 2 16 (drop at bs) (below_drop 2 at bs p)) l z).0 in
      rw held at (digits_nought (length run) 2)

  none_within : Below 1 bs
  none_within = rw split at (below_append 1 before (run ++ later) zero_first (below_append 1 run later zero_run zero_later))

-- Two strings of octets of one length, each with its FCS at the end.
module _ (xs ys : List ℕ) (p : Below 256 xs) (q : Below 256 ys) (l : length xs ≡ length ys) where
  abbrev bx : List ℕ
  bx = bits (with_fcs xs)

  abbrev by : List ℕ
  by = bits (with_fcs ys)

  long : length bx ≡ length by
  long = with_bits xs ys l

  -- added they lead to 0
  pub sums_out : register_after 0 (added bx by) ≡ 0
  unfolding fcs_of
  sums_out = after_both 0 0 bx by long ∙ rw (remainder xs, remainder ys)

  -- where that gives nothing but 0, they are one
  pub none_apart : Below 1 (added bx by) → xs ≡ ys
  none_apart z =
      let zero-at : (i : ℕ) → i < length bx → get_or (added bx by) i 0 ≡ 0 =
      λ i h. omega (arith, below_at 1 (added bx by) z i (omega (arith, added_long bx by long))) in
      let same = ext_get_or 0 bx by long (λ i h. xor_none (get_or bx i 0) (get_or by i 0) (sym (added_at bx by long i) ∙ zero-at i h)) in
      let whole = bits_same (with_fcs xs) (with_fcs ys) (with_below xs p) (with_below ys q) (with_long xs ∙ ap (λ (n : ℕ). n + 2) l ∙ sym (with_long ys)) same in
      sym (take_at xs _ (length xs) refl) ∙ ap (take (length xs)) whole ∙ take_at ys _ (length xs) (sym l)

  -- The bits that differ are not within one run of 16: where they are, the strings are one.
  pub never_within_16 : (at : ℕ) → ((i : ℕ) → (get_or bx i 0 ≡ get_or by i 0 → ⊥) → (at ≤ i) × (i < at + 16)) → xs ≡ ys
  never_within_16 at w =
      none_apart
      (none_within at (added bx by) (added_below bx by (bits_below (with_fcs xs)) (bits_below (with_fcs ys)))
      (λ i n. w i (λ e. n (added_at bx by long i ∙ rw e (xor_self (get_or by i 0))))) sums_out)
