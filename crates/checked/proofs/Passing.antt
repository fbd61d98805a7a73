-- A report passes the tests exactly when it has three octets or more, its last two are the FCS of
-- those before, and they are not all 0. Assumes nothing.
use mathlib.Core.Path.{◌≡◌, refl, sym, ap, ◌∙◌}
use mathlib.Core.Bool.{true, false, not}
use mathlib.Core.List.{List, [], ◌∷◌, ◌++◌}
use Prim.Native.Nat.{ℕ, zero, suc, ◌+◌, ◌-◌, ◌*◌, ◌/◌, ◌%◌, ◌≤◌, ◌<◌}
use native.Mathlib.Nat.{suc-add}
use native.Mathlib.Omega.{arith}
use lib.Dec.{eqb, ltb}
use lib.ListN.{length, get_or, drop, replicate, take-append-drop}
use lib.Seq.{take_at, drop_at}
use borrow.Author.Tests.{eq-eqb, eqb-true, eqb-false, ltb-true, ltb-false}
use Rattle.codes.specs.Numbers.{DONE, TOOFEW, BADCHECK, ALLZERO}
use Rattle.codes.specs.Chips.{among}
use Rattle.codes.proofs.Tests.{by_test, by_pick, both_true, not_both}
use Rattle.frame.proofs.Below.{Below, below_at}
use Rattle.order.specs.Received.{value_of}
use Rattle.fcs.specs.Fcs.{fcs_of, fcs_octets, with_fcs}
use Rattle.fcs.proofs.Remainder.{zeros_pass, with_long}
use Rattle.checked.specs.Profile.{all_zero, body, right_fcs, check_of}
use Rattle.checked.proofs.Tests.{short_check, wrong_check, zero_check, right_check, last_pair, last_two}

-- every octet 0: nothing but zeros
pub zeros_are : (xs : List ℕ) → all_zero xs ≡ true → xs ≡ replicate (length xs) 0
unfolding all_zero
zeros_are [] e = refl
zeros_are (x ∷ xs) e =
    let b = both_true (eqb x 0) (all_zero xs) e in
    rw (eqb-true x 0 b.0) (ap (λ (l : List ℕ). 0 ∷ l) (zeros_are xs b.1))

pub are_zeros : (n : ℕ) → all_zero (replicate n 0) ≡ true
unfolding all_zero
are_zeros zero = refl
are_zeros (suc n) = are_zeros n

-- what stands before the last two of them
pub with_body : (octets : List ℕ) → body (with_fcs octets) ≡ octets
with_body octets = take_at octets (fcs_octets octets) (length (with_fcs octets) - 2) (omega (arith, with_long octets))

-- octets with their FCS have a right one
pub with_right : (octets : List ℕ) → right_fcs (with_fcs octets) ≡ true
unfolding value_of
with_right octets =
    let d = drop_at octets (fcs_octets octets) (length (with_fcs octets) - 2) (omega (arith, with_long octets)) in
    let v : value_of 256 (fcs_octets octets) ≡ fcs_of octets = omega arith in
    rw (d, with_body octets, v) (eq-eqb (fcs_of octets) (fcs_of octets) refl)

-- and octets that have a right one are such
pub right_with : (octets : List ℕ) → Below 256 octets → 3 ≤ length octets → right_fcs octets ≡ true → octets ≡ with_fcs (body octets)
right_with octets p h e =
    let two : 2 ≤ length octets = omega arith in
    let k = length octets - 2 in
    let a = get_or octets k 0 in
    let b = get_or octets (k + 1) 0 in
    let f = fcs_of (body octets) in
    let v : a + 256 * b ≡ f = sym (last_two octets two) ∙ eqb-true (value_of 256 (drop k octets)) f e in
    let l : a < 256 = below_at 256 octets p k (omega arith) in
    let lo : a ≡ f % 256 = omega (arith, v, l) in
    let hi : b ≡ f / 256 = omega (arith, v, l) in
    sym (take-append-drop k octets) ∙ rw (last_pair octets two, lo, hi)

-- two zeros more
zeros_more : (n : ℕ) (two : List ℕ) → two ≡ 0 ∷ 0 ∷ [] → replicate n 0 ++ two ≡ replicate (n + 2) 0
zeros_more zero two e = e
zeros_more (suc n) two e = rw (suc-add n 2) (ap (λ (l : List ℕ). 0 ∷ l) (zeros_more n two e))

-- zeros with their FCS are that
with_zeros : (n : ℕ) → with_fcs (replicate n 0) ≡ replicate (n + 2) 0
with_zeros n = zeros_more n (fcs_octets (replicate n 0)) (rw (zeros_pass n))

-- so they have a right one
zeros_right : (octets : List ℕ) → 3 ≤ length octets → octets ≡ replicate (length octets) 0 → right_fcs octets ≡ true
zeros_right octets h e =
    let k = length octets - 2 in
    let n : length octets ≡ k + 2 = omega arith in
    ap right_fcs (e ∙ ap (λ (i : ℕ). replicate i 0) n ∙ sym (with_zeros k)) ∙ with_right (replicate k 0)

-- three octets or more that don't end in their FCS
pub check_wrong : (octets : List ℕ) → Below 256 octets → 3 ≤ length octets → (octets ≡ with_fcs (body octets) → ⊥) → check_of octets ≡ BADCHECK
check_wrong octets p h n = wrong_check octets h (by_test (right_fcs octets) (λ r. absurd (n (right_with octets p h r))) (λ f. f))

-- three zeros or more
pub check_zeros : (octets : List ℕ) → 3 ≤ length octets → octets ≡ replicate (length octets) 0 → check_of octets ≡ ALLZERO
check_zeros octets h e = zero_check octets h (zeros_right octets h e) (ap all_zero e ∙ are_zeros (length octets))

-- a report that passes has passed each test
check_parts : (octets : List ℕ) → check_of octets ≡ DONE → (3 ≤ length octets) × (right_fcs octets ≡ true) × (all_zero octets ≡ false)
check_parts octets e =
    by_test (ltb (length octets) 3) (λ t. other TOOFEW (short_check octets (ltb-true (length octets) 3 t)) refl)
    (λ f. let h = ltb-false (length octets) 3 f in
    by_test (right_fcs octets)
    (λ r. by_test (all_zero octets) (λ z. other ALLZERO (zero_check octets h r z) refl) (λ z. (h, r, z)))
    (λ w. other BADCHECK (wrong_check octets h w) refl))
  where
    other : {P : Type 0} (x : ℕ) → check_of octets ≡ x → eqb x DONE ≡ false → P
    other x q f = absurd (eqb-false x DONE f (sym q ∙ e))

-- it isn't nothing but zeros
pub not_zeros : (octets : List ℕ) → check_of octets ≡ DONE → octets ≡ replicate (length octets) 0 → ⊥
not_zeros octets e q = not_both (all_zero octets) (ap all_zero q ∙ are_zeros (length octets)) (check_parts octets e).2

-- and neither is what stands before its FCS: zeros have the FCS 0
pub body_not_zeros : (octets : List ℕ) → check_of octets ≡ DONE → body octets ≡ replicate (length octets - 2) 0 → ⊥
body_not_zeros octets e q =
    let c = check_parts octets e in
    let two : 2 ≤ length octets = omega (arith, c.0) in
    let k = length octets - 2 in
    let n : k + 2 ≡ length octets = omega (arith, c.0) in
    let right = eqb-true (value_of 256 (drop k octets)) (fcs_of (body octets)) c.1 in
    let sum : get_or octets k 0 + 256 * get_or octets (k + 1) 0 ≡ 0 = sym (last_two octets two) ∙ right ∙ ap fcs_of q ∙ zeros_pass k in
    let low : get_or octets k 0 ≡ 0 = omega (arith, sum) in
    let high : get_or octets (k + 1) 0 ≡ 0 = omega (arith, sum) in
    let last : drop k octets ≡ 0 ∷ 0 ∷ [] = last_pair octets two ∙ rw (low, high) in
    not_zeros octets e
    (sym (take-append-drop k octets) ∙ ap (λ (l : List ℕ). l ++ drop k octets) q ∙ zeros_more k (drop k octets) last
    ∙ ap (λ (i : ℕ). replicate i 0) n)

-- and the other two
pub passes_check : (octets : List ℕ) → Below 256 octets → check_of octets ≡ DONE → (3 ≤ length octets) × (octets ≡ with_fcs (body octets))
passes_check octets p e = let c = check_parts octets e in
    (c.0, right_with octets p c.0 c.1)

-- where all three are so, it passes
pub check_passes : (octets : List ℕ) → 3 ≤ length octets → octets ≡ with_fcs (body octets) → (octets ≡ replicate (length octets) 0 → ⊥) → check_of octets ≡ DONE
check_passes octets h w n =
    right_check octets h (ap right_fcs w ∙ with_right (body octets)) (by_test (all_zero octets) (λ t. absurd (n (zeros_are octets t))) (λ f. f))

-- the numbers that the tests give
pub check_numbers : (octets : List ℕ) → among (check_of octets) (DONE ∷ TOOFEW ∷ BADCHECK ∷ ALLZERO ∷ []) ≡ true
unfolding check_of
check_numbers octets =
    by_pick P (ltb (length octets) 3) _ _ (λ _. refl)
    (λ _. by_pick P (not (right_fcs octets)) _ _ (λ _. refl) (λ _. by_pick P (all_zero octets) _ _ (λ _. refl) (λ _. refl)))
  where
    P : ℕ → Type 0
    P x = among x (DONE ∷ TOOFEW ∷ BADCHECK ∷ ALLZERO ∷ []) ≡ true
