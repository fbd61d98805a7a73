-- Bounds that every radio keeps, and the numbers of a mode's row in the words of the frame.
-- Assumes nothing.
use mathlib.Core.Path.{◌≡◌, refl, ap, ◌∙◌}
use mathlib.Core.Bool.{true}
use Prim.Native.Nat.{ℕ, ◌+◌, ◌*◌, ◌^◌, ◌≤◌}
use native.Mathlib.Nat.{mul-le-mul_left, mul-le-mul_right}
use native.Mathlib.Omega.{arith}
use lib.Dec.{leb}
use borrow.Author.Tests.{leb-true}
use Rattle.codes.specs.declared.Phy.{Phy}
use Rattle.codes.specs.Radio.{Radio, known, radio_of}
use Rattle.codes.specs.Phy.{phy_of, no_phy, phy_at}
use Rattle.codes.proofs.Tests.{by_test}
use Rattle.codes.proofs.Modes.{every_row, row_test, phy_known}
use Rattle.frame.specs.Frame.{per_octet}
use Rattle.frame.specs.Putting.{octet_chips}

-- a bound that antt computes for each row
few : (f : Radio → ℕ) (n : ℕ) → every_row (λ r. leb (f r) n) ≡ true → (mode : ℕ) → f (radio_of mode) ≤ n
few f n t mode = leb-true _ _ (row_test (λ r. leb (f r) n) t mode)

pub few_values : (mode : ℕ) → 2 ^ (radio_of mode).bits ≤ 16
few_values = few (λ r. 2 ^ r.bits) 16 refl

pub few_symbols : (mode : ℕ) → per_octet (radio_of mode) ≤ 8
few_symbols = few per_octet 8 refl

pub some_symbols : (mode : ℕ) → 1 ≤ per_octet (radio_of mode)
some_symbols mode = leb-true _ _ (row_test (λ r. leb 1 (per_octet r)) refl mode)

pub few_size : (mode : ℕ) → (radio_of mode).size ≤ 32
few_size = few (λ r. r.size) 32 refl

pub few_octet : (mode : ℕ) → octet_chips (radio_of mode) ≤ 120
few_octet = few octet_chips 120 refl

-- the longest frame has 15,960 chips
pub few_chips : (mode n : ℕ) → n ≤ 127 → (6 + n) * octet_chips (radio_of mode) ≤ 15960
few_chips mode n h =
    let m : 6 + n ≤ 133 = omega arith in
    omega (arith, mul-le-mul_right (octet_chips (radio_of mode)) m, mul-le-mul_left 133 (few_octet mode))

-- the numbers of a mode that has a radio, one by one
module _ (mode : ℕ) (k : known mode ≡ true) (p : Phy) (e : p ≡ phy_at mode) where
  is_row : p ≡ phy_of (radio_of mode)
  is_row = e ∙ phy_known mode k

  pub row_size : p.size ≡ (radio_of mode).size
  row_size = ap (λ (q : Phy). q.size) is_row

  pub row_per : p.per ≡ per_octet (radio_of mode)
  row_per = ap (λ (q : Phy). q.per) is_row

  pub row_values : p.values ≡ 2 ^ (radio_of mode).bits
  row_values = ap (λ (q : Phy). q.values) is_row

  pub row_chained : p.chained ≡ (radio_of mode).chained
  row_chained = ap (λ (q : Phy). q.chained) is_row

  pub row_octet : p.per * p.size ≡ octet_chips (radio_of mode)
  row_octet = ap (λ (q : Phy). q.per * q.size) is_row

-- the symbols of an octet in a mode's row are few, where there is a radio and where there is none
pub per_few : (mode : ℕ) (p : Phy) → p ≡ phy_at mode → p.per ≤ 8
unfolding phy_at
per_few mode p e = by_test (known mode)
    (λ k. let q : p ≡ phy_of (radio_of mode) = e ∙ rw k in omega (arith, few_symbols mode, ap (λ (x : Phy). x.per) q))
    (λ k. let q : p ≡ no_phy = e ∙ rw k in omega (arith, ap (λ (x : Phy). x.per) q))
