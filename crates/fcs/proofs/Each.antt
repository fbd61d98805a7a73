-- The FCS of every input, in the standard's numerals: 0 of nothing, and an octet more is eight
-- steps of the register, its lowest bit first. With another polynomial for long inputs, in
-- definition, table and laws alike, all else would be proved. Assumes nothing.
use mathlib.Core.Path.{◌≡◌, refl, ap, ◌∙◌}
use mathlib.Core.List.{List, [], ◌∷◌, ◌++◌}
use Prim.Native.Nat.{ℕ, ◌+◌, ◌*◌, ◌/◌, ◌%◌}
use lib.Bits.{bit_xor}
use Rattle.frame.specs.Frame.{digits}
use Rattle.fcs.specs.Fcs.{entered, register_after, bits, fcs_of, with_fcs}
use Rattle.fcs.proofs.Bits.{bits_append}
use Rattle.fcs.proofs.Register.{after_append}

-- one bit: the register moves down, and takes 0x8408 where the bit that leaves isn't the one that
-- enters
abbrev step : ℕ → ℕ → ℕ
step c b = bit_xor (c / 2) ((c + b) % 2 * 0x8408)

pub fcs_none : fcs_of [] ≡ 0
unfolding fcs_of bits register_after
fcs_none = refl

pub fcs_next : (octets : List ℕ) (x : ℕ)
    → fcs_of (octets ++ x ∷ [])
    ≡ step (step (step (step (step (step (step (step (fcs_of octets) (x % 2)) (x / 2 % 2)) (x / 2 / 2 % 2)) (x / 2 / 2 / 2 % 2))
    (x / 2 / 2 / 2 / 2 % 2)) (x / 2 / 2 / 2 / 2 / 2 % 2)) (x / 2 / 2 / 2 / 2 / 2 / 2 % 2)) (x / 2 / 2 / 2 / 2 / 2 / 2 / 2 % 2)
unfolding fcs_of bits digits register_after entered
fcs_next octets x = ap (register_after 0) (bits_append octets (x ∷ [])) ∙ after_append 0 (bits octets) (digits 8 2 x ++ [])

-- and they go out after the octets, the low one first
pub fcs_sent : (octets : List ℕ) → with_fcs octets ≡ octets ++ fcs_of octets % 256 ∷ fcs_of octets / 256 ∷ []
fcs_sent octets = refl
