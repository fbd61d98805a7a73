-- The tests of a report, one after the other. Assumes nothing.
use mathlib.Core.Path.{◌≡◌, refl, ap, ◌∙◌}
use mathlib.Core.Bool.{true, false}
use mathlib.Core.List.{List, [], ◌∷◌}
use Prim.Native.Nat.{ℕ, suc, ◌+◌, ◌*◌, ◌≤◌, ◌<◌, ◌-◌}
use native.Mathlib.Numerals.{add-one}
use native.Mathlib.Omega.{arith}
use lib.Dec.{eqb}
use lib.ListN.{length, get_or, take, drop, drop_of_length-le}
use lib.Seq.{drop-cons}
use borrow.Author.Tests.{lt-ltb, le-ltb}
use Rattle.std.specs.Int.{w16, from_le_bytes}
use Rattle.std.specs.List.{list_all}
use Rattle.codes.specs.Numbers.{DONE, TOOFEW, BADCHECK, ALLZERO}
use Rattle.codes.proofs.Tests.{by_test}
use Rattle.order.specs.Received.{value_of}
use Rattle.fcs.specs.Fcs.{fcs_of}
use Rattle.checked.specs.Profile.{all_zero, right_fcs, check_of}

-- whether each octet is 0
pub zeros_each : (octets : List ℕ) → list_all (λ x. eqb x 0) octets ≡ all_zero octets
unfolding all_zero
zeros_each [] = refl
zeros_each (x ∷ xs) = by_test (eqb x 0) (λ t. rw (t, zeros_each xs)) (λ f. rw f)

-- the first test
pub short_check : (octets : List ℕ) → length octets < 3 → check_of octets ≡ TOOFEW
unfolding check_of
short_check octets h = rw (lt-ltb (length octets) 3 h)

module _ (octets : List ℕ) (h : 3 ≤ length octets) where
  -- the two others
  pub wrong_check : right_fcs octets ≡ false → check_of octets ≡ BADCHECK
  unfolding check_of
  wrong_check f = rw (le-ltb (length octets) 3 h, f)

  pub zero_check : right_fcs octets ≡ true → all_zero octets ≡ true → check_of octets ≡ ALLZERO
  unfolding check_of
  zero_check r z = rw (le-ltb (length octets) 3 h, r, z)

  pub right_check : right_fcs octets ≡ true → all_zero octets ≡ false → check_of octets ≡ DONE
  unfolding check_of
  right_check r z = rw (le-ltb (length octets) 3 h, r, z)

module _ (octets : List ℕ) (h : 2 ≤ length octets) where
  abbrev k : ℕ
  k = length octets - 2

  -- the last two octets
  pub last_pair : drop k octets ≡ get_or octets k 0 ∷ get_or octets (k + 1) 0 ∷ []
  last_pair =
      let none : length octets ≤ suc (suc k) = omega arith in
      drop-cons octets k 0 (omega arith)
      ∙ rw (add-one k)
      (ap (λ (xs : List ℕ). get_or octets k 0 ∷ xs)
      (drop-cons octets (suc k) 0 (omega arith) ∙ ap (λ (xs : List ℕ). get_or octets (suc k) 0 ∷ xs) (drop_of_length-le octets none)))

  -- as one number
  pub last_two : value_of 256 (drop k octets) ≡ get_or octets k 0 + 256 * get_or octets (k + 1) 0
  unfolding value_of
  last_two = ap (value_of 256) last_pair ∙ omega arith

  -- what the code compares
  pub compared : (front last : List ℕ) → front ≡ take k octets → last ≡ drop k octets
      → (fcs sent : ℕ) → fcs ≡ fcs_of front → sent ≡ from_le_bytes w16 last → eqb sent fcs ≡ right_fcs octets
  compared front last f l fcs sent e s =
      let v : from_le_bytes w16 last ≡ value_of 256 (drop k octets) = rw (l, last_two, last_pair) (omega arith) in
      rw (e, f, s, v)
