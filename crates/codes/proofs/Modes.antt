-- What is true of each radio is true of a mode's, what tests of a mode number leave, and the
-- numbers that a mode's row has. Assumes nothing.
use Rattle.std.proofs.Common.{◌≡◌, ℕ, zero, suc, ◌<◌, Bool, true, false, ltb, refl, ap, ◌∙◌, arith, ltb-true, le-ltb}
use Rattle.codes.specs.declared.Phy.{Phy}
use Rattle.codes.specs.Chips.{pick}
use Rattle.codes.specs.Radio.{Radio, known, radio_of, bpsk, oqpsk, lowband}
use Rattle.codes.specs.Phy.{phy_of, no_phy, phy_at}
use Rattle.codes.proofs.Tests.{by_test, both_true}

pub each_row : (P : Radio → Type 0) → P bpsk → P oqpsk → P lowband → (mode : ℕ) → P (radio_of mode)
each_row P b o l zero = b
each_row P b o l (suc zero) = o
each_row P b o l (suc (suc zero)) = l
each_row P b o l (suc (suc (suc m))) = b

-- a test of every row, which antt computes, and what it says of a mode's
abbrev pub every_row : (Radio → Bool) → Bool
every_row p = pick (p bpsk) (pick (p oqpsk) (p lowband) false) false

pub row_test : (p : Radio → Bool) → every_row p ≡ true → (mode : ℕ) → p (radio_of mode) ≡ true
row_test p t =
    let b = both_true (p bpsk) _ t in
    let o = both_true (p oqpsk) _ b.1 in
    each_row (λ r. p r ≡ true) b.0 o.0 o.1

pub unknown : (mode : ℕ) → (mode ≡ 0 → ⊥) → (mode ≡ 1 → ⊥) → (mode ≡ 2 → ⊥) → known mode ≡ false
unknown mode p q r = le-ltb mode 3 (omega arith)

-- a mode that has a radio is one of these
pub no_other : (mode : ℕ) → known mode ≡ true → (mode ≡ 0 → ⊥) → (mode ≡ 1 → ⊥) → (mode ≡ 2 → ⊥) → ⊥
no_other mode k p q r = omega (arith, ltb-true mode 3 k)

-- the numbers of a mode that has a radio are that radio's
pub phy_known : (mode : ℕ) → known mode ≡ true → phy_at mode ≡ phy_of (radio_of mode)
unfolding phy_at
phy_known mode k = rw k

-- no radio has symbols of no chips
some_chips : (mode : ℕ) → 0 < (radio_of mode).size
some_chips mode = ltb-true 0 _ (row_test (λ r. ltb 0 r.size) refl mode)

module _ (mode : ℕ) (p : Phy) (e : p ≡ phy_at mode) where
  -- a mode whose symbols have chips has a radio, and the numbers are that radio's
  pub phy_sized : (p.size ≡ 0 → ⊥) → (known mode ≡ true) × (p ≡ phy_of (radio_of mode))
  unfolding phy_at
  phy_sized n =
      by_test (known mode) (λ k. (k, e ∙ rw k)) (λ k. let z : p ≡ no_phy = e ∙ rw k in absurd (n (ap (λ (q : Phy). q.size) z)))

  -- and one whose symbols have none has no radio
  pub phy_sizeless : p.size ≡ 0 → known mode ≡ false
  unfolding phy_at
  phy_sizeless z =
      by_test (known mode)
      (λ k. let q : p ≡ phy_of (radio_of mode) = e ∙ rw k in absurd (omega (arith, some_chips mode, ap (λ (q : Phy). q.size) q)))
      (λ k. k)
