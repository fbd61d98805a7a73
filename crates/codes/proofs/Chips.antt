-- Laws of the distance and of bytes that are no chips. Assumes nothing.
use Rattle.std.proofs.Common.{◌≡◌, ℕ, zero, suc, ◌+◌, ◌<◌, ◌≤◌, Bool, true, false, eqb, ltb, List, [], ◌∷◌, ◌++◌, length, get_or, take, drop, sym, refl, ap, ◌∙◌, arith, length-take, get_or-drop, get_or-take, take-suc, ltb-false, ltb-true, le-ltb, eq-eqb, ne_eqb, eqb-true}
use lib.Bits.{bit_xor}
use borrow.Author.Tests.{eqb-false}
use Rattle.codes.specs.Chips.{pick, differ, distance, bad}
use Rattle.codes.specs.Packed.{from}
use Rattle.codes.proofs.Tests.{by_test, not_both}

pub differ_same : (x y : ℕ) → x ≡ y → differ x y ≡ 0
differ_same x y e = rw (eq-eqb x y e)

pub differ_other : (x y : ℕ) → (x ≡ y → ⊥) → differ x y ≡ 1
differ_other x y e = rw (ne_eqb x y e)

pub differ_le : (x y : ℕ) → differ x y ≤ 1
differ_le x y = by_test (eqb x y) (λ a. rw a (omega arith)) (λ a. rw a (omega arith))

pub differ_sym : (x y : ℕ) → differ x y ≡ differ y x
differ_sym x y =
    by_test (eqb x y)
    (λ a. differ_same x y (eqb-true x y a) ∙ sym (differ_same y x (sym (eqb-true x y a))))
    (λ a. differ_other x y (eqb-false x y a) ∙ sym (differ_other y x (λ e. eqb-false x y a (sym e))))

pub differ_tri : (x y z : ℕ) → differ x z ≤ differ x y + differ y z
differ_tri x y z =
    by_test (eqb x y)
    (λ a. omega (arith, ap (λ (w : ℕ). differ w z) (eqb-true x y a)))
    (λ a. omega (arith, differ_other x y (eqb-false x y a), differ_le x z))

pub distance_sym : (xs ys : List ℕ) → distance xs ys ≡ distance ys xs
unfolding distance
distance_sym [] [] = refl
distance_sym [] (y ∷ ys) = refl
distance_sym (x ∷ xs) [] = refl
distance_sym (x ∷ xs) (y ∷ ys) = omega (arith, distance_sym xs ys, differ_sym x y)

pub distance_tri : (xs ys zs : List ℕ) → length xs ≡ length ys → distance xs zs ≤ distance xs ys + distance ys zs
unfolding distance
distance_tri [] ys zs e = omega arith
distance_tri (x ∷ xs) [] zs e = absurd (omega arith)
distance_tri (x ∷ xs) (y ∷ ys) [] e = omega arith
distance_tri (x ∷ xs) (y ∷ ys) (z ∷ zs) e = omega (arith, distance_tri xs ys zs (omega arith), differ_tri x y z)

pub distance_le : (xs ys : List ℕ) → distance xs ys ≤ length xs
unfolding distance
distance_le [] ys = omega arith
distance_le (x ∷ xs) [] = omega arith
distance_le (x ∷ xs) (y ∷ ys) = omega (arith, distance_le xs ys, differ_le x y)

-- lists put together: the sum of the distances
pub distance_append : (us ws xs ys : List ℕ) → length us ≡ length ws → distance (us ++ xs) (ws ++ ys) ≡ distance us ws + distance xs ys
unfolding distance
distance_append [] [] xs ys e = omega arith
distance_append [] (w ∷ ws) xs ys e = absurd (omega arith)
distance_append (u ∷ us) [] xs ys e = absurd (omega arith)
distance_append (u ∷ us) (w ∷ ws) xs ys e = omega (arith, distance_append us ws xs ys (omega arith))

-- one place more
pub distance_more : (xs ys : List ℕ) (k : ℕ) → k < length xs → k < length ys
    → distance (take (suc k) xs) (take (suc k) ys) ≡ distance (take k xs) (take k ys) + differ (get_or xs k 0) (get_or ys k 0)
unfolding distance
distance_more xs ys k h j =
    rw (take-suc xs k 0, take-suc ys k 0)
    (distance_append (take k xs) (take k ys) (get_or xs k 0 ∷ []) (get_or ys k 0 ∷ []) (simp length-take (omega arith))
    ∙ omega arith)

-- bytes that are no chips
pub bad_append : (xs ys : List ℕ) → bad (xs ++ ys) ≡ pick (bad xs) true (bad ys)
unfolding bad
bad_append [] ys = refl
bad_append (x ∷ xs) ys = by_test (ltb 1 x) (λ a. rw a) (λ a. rw a (bad_append xs ys))

-- one byte more
pub bad_suc : (xs : List ℕ) (k : ℕ) → k < length xs → bad (take (suc k) xs) ≡ pick (bad (take k xs)) true (ltb 1 (get_or xs k 0))
unfolding bad
bad_suc xs k h =
    rw (take-suc xs k 0 h, bad_append)
    (ap (λ (t : Bool). pick (bad (take k xs)) true t) (by_test (ltb 1 (get_or xs k 0)) (λ a. rw a) (λ a. rw a)))

-- what is left of chips is of chips
pub bad_drop : (n : ℕ) (xs : List ℕ) → bad xs ≡ false → bad (drop n xs) ≡ false
unfolding bad
bad_drop zero xs b = b
bad_drop (suc n) [] b = refl
bad_drop (suc n) (x ∷ xs) b = by_test (ltb 1 x) (λ a. not_both true refl (rw a at b)) (λ a. bad_drop n xs (rw a at b))

-- none is bad: each is 0 or 1
pub chip_at_lem : (xs : List ℕ) → bad xs ≡ false → (k : ℕ) → get_or xs k 0 ≤ 1
unfolding bad
chip_at_lem [] b k = omega arith
chip_at_lem (x ∷ xs) b zero = by_test (ltb 1 x) (λ a. not_both true refl (rw a at b)) (λ a. ltb-false 1 x a)
chip_at_lem (x ∷ xs) b (suc k) = by_test (ltb 1 x) (λ a. not_both true refl (rw a at b)) (λ a. chip_at_lem xs (rw a at b) k)

-- and where each is, none is bad
pub chips_good : (xs : List ℕ) → ((k : ℕ) → k < length xs → get_or xs k 0 ≤ 1) → bad xs ≡ false
unfolding bad
chips_good [] h = refl
chips_good (x ∷ xs) h = rw (le-ltb 1 x (h 0 (omega arith))) (chips_good xs (λ k l. h (suc k) (omega arith)))

-- where one is bad, it stands somewhere
pub bad_at : (xs : List ℕ) → bad xs ≡ true → (k : ℕ) × (k < length xs) × (1 < get_or xs k 0)
unfolding bad
bad_at [] b = not_both false b refl
bad_at (x ∷ xs) b =
    by_test (ltb 1 x) (λ a. (0, omega arith, ltb-true 1 x a)) (λ a. let h = bad_at xs (rw a at b) in (suc h.0, omega (arith, h.1), h.2))

-- chip k of a window is the list's, at its place
pub window_chip : (xs : List ℕ) (at size k : ℕ) → k < size → from xs at k ≡ get_or (take size (drop at xs)) k 0
window_chip xs at size k h = rw (get_or-take size (drop at xs) k 0 h, get_or-drop at xs k 0)

-- of chips, an exclusive or is a difference
pub xor_differ : (x y : ℕ) → x ≤ 1 → y ≤ 1 → bit_xor x y ≡ differ x y
xor_differ zero zero h j = refl
xor_differ zero (suc zero) h j = refl
xor_differ zero (suc (suc y)) h j = absurd (omega arith)
xor_differ (suc zero) zero h j = refl
xor_differ (suc zero) (suc zero) h j = refl
xor_differ (suc zero) (suc (suc y)) h j = absurd (omega arith)
xor_differ (suc (suc x)) y h j = absurd (omega arith)

-- of three chips, one that differs from another differs from just one of two that differ
differ_one : (x y z : ℕ) → x ≤ 1 → y ≤ 1 → z ≤ 1 → differ y z ≡ 1 → differ x y + differ x z ≡ 1
differ_one x y z a b c e =
    by_test (eqb x y)
    (λ t. let s = eqb-true x y t in omega (arith, differ_same x y s, ap (λ (w : ℕ). differ w z) s))
    (λ t.
    let n = eqb-false x y t in
    let m : y ≡ z → ⊥ = λ u. omega (arith, differ_same y z u) in
    omega (arith, differ_other x y n, differ_same x z (omega (arith, n, m))))

-- chips differ from two words that differ in every place in all places together
pub distance_both : (xs ys zs : List ℕ) → bad xs ≡ false → bad ys ≡ false → bad zs ≡ false → length xs ≡ length ys → length ys ≡ length zs
    → distance ys zs ≡ length ys → distance xs ys + distance xs zs ≡ length xs
unfolding distance
distance_both [] ys zs a b c h j e = refl
distance_both (x ∷ xs) [] zs a b c h j e = absurd (omega arith)
distance_both (x ∷ xs) (y ∷ ys) [] a b c h j e = absurd (omega arith)
distance_both (x ∷ xs) (y ∷ ys) (z ∷ zs) a b c h j e =
    let l = distance_le ys zs in
    let d = differ_le y z in
    let o = differ_one x y z (chip_at_lem (x ∷ xs) a 0) (chip_at_lem (y ∷ ys) b 0) (chip_at_lem (z ∷ zs) c 0) (omega (arith, e, l, d)) in
    let r = distance_both xs ys zs (bad_drop 1 (x ∷ xs) a) (bad_drop 1 (y ∷ ys) b)
    (bad_drop 1 (z ∷ zs) c) (omega (arith, h)) (omega (arith, j)) (omega (arith, e, l, d)) in
    omega (arith, o, r)
