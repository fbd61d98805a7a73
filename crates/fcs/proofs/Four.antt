-- Of two different reports of one length that both end in their FCS at least four bits differ: an
-- even number (Even.antt), and not two. For two, the register goes from the first of them through
-- bits of 0 to the second, and would have to be 1 there; that it never is within the longest report
-- is one computed test. Assumes nothing.
use mathlib.Core.Path.{◌≡◌, refl, ◌∙◌}
use mathlib.Core.Bool.{Bool, true, false}
use mathlib.Core.List.{List, [], ◌∷◌}
use Prim.Native.Nat.{ℕ, zero, suc, ◌^◌, ◌≤◌, ◌<◌}
use native.Mathlib.Omega.{arith}
use lib.Dec.{eqb}
use lib.ListN.{length}
use borrow.Author.Tests.{eqb-true, eqb-false}
use Rattle.codes.specs.Chips.{pick, distance}
use Rattle.codes.proofs.Chips.{xor_differ}
use Rattle.codes.proofs.Tests.{upto, by_test, not_both}
use Rattle.frame.proofs.Below.{Below}
use Rattle.fcs.specs.Fcs.{polynomial, entered, register_after, bits, with_fcs}
use Rattle.fcs.proofs.Bits.{bits_below, bits_long}
use Rattle.fcs.proofs.Remainder.{with_long, with_bits, entered_below}
use Rattle.fcs.proofs.Even.{ones, even_apart_lem}
use Rattle.fcs.proofs.Catches.{added, added_below, added_long, entered_low, zero_before, sums_out, none_apart}

-- the register isn't 1 before any of n bits of 0
unfoldable never : ℕ → ℕ → Bool
never zero c = true
never (suc n) c = pick (eqb c 1) false (never n (entered c 0))

-- a report has at most 1,016 bits
never_one : never 1016 polynomial ≡ true
unfolding never entered
never_one = refl

-- no ones: all 0
no_ones : (bs : List ℕ) → ones bs ≡ 0 → Below 1 bs
unfolding ones
no_ones [] e = tt
no_ones (b ∷ bs) e = (omega (arith, e), no_ones bs (omega (arith, e)))

-- one more one, after a register that is never 1, doesn't lead to 0
second_one : (n c : ℕ) (bs : List ℕ) → never n c ≡ true → length bs ≤ n → c < 2 ^ 16 → Below 2 bs → ones bs ≡ 1 → register_after c bs ≡ 0 → ⊥
unfolding never ones register_after
second_one n c [] t h k p o e = omega (arith, o)
second_one zero c (b ∷ bs) t h k p o e = omega arith
second_one (suc n) c (b ∷ bs) t h k p o e =
    by_test (eqb c 1) (λ y. not_both false (rw y at t) refl)
    (λ f.
    by_test (eqb b 0)
    (λ z.
    let q = eqb-true b 0 z in
    second_one n (entered c 0) bs (rw f at t) (omega arith) (entered_below c 0 k) p.1 (omega (arith, o, q)) (rw q at e))
    (λ z.
    let q : b ≡ 1 = omega (arith, eqb-false b 0 z, p.0) in
    let u : entered c b ≡ 0 = zero_before (entered c b) bs (entered_below c b k) (no_ones bs (omega (arith, o, q))) e in
    let l = entered_low c b k p.0 (omega (arith, u)) in
    eqb-false c 1 f (omega (arith, l.0, l.1, u, q))))

-- two ones don't lead from 0 to 0
two_ones : (bs : List ℕ) → length bs ≤ 1016 → Below 2 bs → ones bs ≡ 2 → register_after 0 bs ≡ 0 → ⊥
unfolding ones register_after entered
two_ones [] h p o e = omega (arith, o)
two_ones (b ∷ bs) h p o e =
    by_test (eqb b 0) (λ z. let q = eqb-true b 0 z in two_ones bs (omega arith) p.1 (omega (arith, o, q)) (rw q at e))
    (λ z.
    let q : b ≡ 1 = omega (arith, eqb-false b 0 z, p.0) in
    second_one 1016 polynomial bs never_one (omega arith) (omega arith) p.1 (omega (arith, o, q)) (rw q at e))

-- the ones of two strings added are the places where they differ
added_ones : (bs ds : List ℕ) → Below 2 bs → Below 2 ds → length bs ≡ length ds → ones (added bs ds) ≡ distance bs ds
unfolding ones distance
added_ones [] ds p q e = refl
added_ones (x ∷ bs) [] p q e = absurd (omega arith)
added_ones (x ∷ bs) (y ∷ ds) p q e = rw (xor_differ x y (upto x 1 p.0) (upto y 1 q.0), added_ones bs ds p.1 q.1 (omega arith))

-- Two different reports of one length, each with its FCS at the end, differ in four bits or more.
pub four_apart : (xs ys : List ℕ) → Below 256 xs → Below 256 ys → length xs ≡ length ys → length xs ≤ 125 → (xs ≡ ys → ⊥)
    → 4 ≤ distance (bits (with_fcs xs)) (bits (with_fcs ys))
four_apart xs ys p q l h n =
    let bx = bits (with_fcs xs) in
    let by = bits (with_fcs ys) in
    let long = with_bits xs ys l in
    let bits_of = added_below bx by (bits_below (with_fcs xs)) (bits_below (with_fcs ys)) in
    let d = added_ones bx by (bits_below (with_fcs xs)) (bits_below (with_fcs ys)) long in
    let short : length (added bx by) ≤ 1016 = omega (arith, added_long bx by long, bits_long (with_fcs xs), with_long xs) in
    let e = even_apart_lem xs ys l in
    by_test (eqb (distance bx by) 0)
    (λ t. absurd (n (none_apart xs ys p q l (no_ones (added bx by) (d ∙ eqb-true (distance bx by) 0 t)))))
    (λ f. by_test (eqb (distance bx by) 2)
    (λ t. absurd (two_ones (added bx by) short bits_of (d ∙ eqb-true (distance bx by) 2 t) (sums_out xs ys p q l)))
    (λ g. omega (arith, e, eqb-false (distance bx by) 0 f, eqb-false (distance bx by) 2 g)))
