-- Chips put right: what setting one place of a list as in another does to their distance, to that
-- of their parts, and to bytes that are no chips. Assumes nothing.
use mathlib.Core.Path.{◌≡◌, refl}
use mathlib.Core.Bool.{true, false}
use mathlib.Core.List.{List, [], ◌∷◌}
use Prim.Native.Nat.{ℕ, zero, suc, ◌+◌, ◌≤◌, ◌<◌}
use native.Mathlib.Omega.{arith}
use lib.ListN.{length, get_or, set, take, drop}
use lib.Seq.{take-nil}
use lib.Dec.{ltb}
use borrow.Author.Tests.{le-ltb}
use Rattle.codes.specs.Chips.{distance, bad}
use Rattle.codes.proofs.Tests.{by_test, not_both}
use Rattle.codes.proofs.Chips.{differ_same, differ_other}

-- nothing is farther from itself than 0
pub distance_self : (xs : List ℕ) → distance xs xs ≡ 0
unfolding distance
distance_self [] = refl
distance_self (x ∷ xs) = omega (arith, differ_same x x refl, distance_self xs)

-- a place where two words differ, set as in the other: one difference less
pub one_less : (xs ys : List ℕ) (i : ℕ) → i < length ys → length ys ≤ length xs → (get_or xs i 0 ≡ get_or ys i 0 → ⊥)
    → distance xs ys ≡ suc (distance (set xs i (get_or ys i 0)) ys)
unfolding distance
one_less [] ys i h l n = absurd (omega arith)
one_less (x ∷ xs) [] i h l n = absurd (omega arith)
one_less (x ∷ xs) (y ∷ ys) zero h l n = omega (arith, differ_other x y n, differ_same y y refl)
one_less (x ∷ xs) (y ∷ ys) (suc i) h l n = omega (arith, one_less xs ys i (omega arith) (omega arith) n)

-- one list lies between two others: the differences from it add up to theirs
abbrev Between : List ℕ → List ℕ → List ℕ → Type 0
Between xs zs ys = distance xs ys ≡ distance xs zs + distance zs ys

-- a list with any place set as in the other lies between the two, in its first chips
between_first : (n : ℕ) (xs ys : List ℕ) (i : ℕ) → i < length ys → Between (take n xs) (take n (set xs i (get_or ys i 0))) (take n ys)
unfolding distance
between_first zero xs ys i h = refl
between_first (suc n) [] ys i h = refl
between_first (suc n) (x ∷ xs) [] i h = absurd (omega arith)
between_first (suc n) (x ∷ xs) (y ∷ ys) zero h = omega (arith, differ_same y y refl, distance_self (take n xs))
between_first (suc n) (x ∷ xs) (y ∷ ys) (suc i) h = omega (arith, differ_same x x refl, between_first n xs ys i (omega arith))

-- and in the chips of one part
pub between : (m n : ℕ) (xs ys : List ℕ) (i : ℕ) → i < length ys
    → Between (take n (drop m xs)) (take n (drop m (set xs i (get_or ys i 0)))) (take n (drop m ys))
between zero n xs ys i h = between_first n xs ys i h
between (suc m) n [] ys i h = simp (take-nil {A = ℕ} n) (omega (arith, distance_self []))
between (suc m) n (x ∷ xs) [] i h = absurd (omega arith)
between (suc m) n (x ∷ xs) (y ∷ ys) zero h = omega (arith, distance_self (take n (drop m xs)))
between (suc m) n (x ∷ xs) (y ∷ ys) (suc i) h = between m n xs ys i (omega arith)

-- chips stay chips where one is set to a chip
pub bad_set : (xs : List ℕ) (i c : ℕ) → c ≤ 1 → bad xs ≡ false → bad (set xs i c) ≡ false
unfolding bad
bad_set [] i c l b = b
bad_set (x ∷ xs) zero c l b = by_test (ltb 1 x) (λ a. not_both true refl (rw a at b)) (λ a. rw (le-ltb 1 c l) (rw a at b))
bad_set (x ∷ xs) (suc i) c l b = by_test (ltb 1 x) (λ a. not_both true refl (rw a at b)) (λ a. rw a (bad_set xs i c l (rw a at b)))
