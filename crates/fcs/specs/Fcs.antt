-- The frame check sequence (FCS) of IEEE 802.15.4, bit by bit as the standard has it: a register of
-- 16 bits, which the bits of the octets enter one after the other.
use Rattle.std.specs.Prelude.{ℕ, ◌+◌, ◌-◌, ◌*◌, ◌/◌, ◌%◌, ◌^◌, List, [], ◌∷◌, ◌++◌}
use Rattle.std.specs.Int.Bits.{bit_xor}
use Rattle.frame.specs.Frame.{digits}

-- The ITU-T polynomial x^16 + x^12 + x^5 + 1. The register's lowest bit stands for x^15 and its
-- highest for 1, since the lowest goes out first; x^16 is the bit that leaves.
abbrev pub polynomial : ℕ
polynomial = 2 ^ (15 - 12) + 2 ^ (15 - 5) + 2 ^ (15 - 0)

-- One bit enters: the register moves down by one, and where the bit that leaves and the one that
-- enters differ, the polynomial is added to it, without carries.
unfoldable pub entered : ℕ → ℕ → ℕ
entered register bit = bit_xor (register / 2) ((register + bit) % 2 * polynomial)

-- bits, one after the other
unfoldable pub register_after : ℕ → List ℕ → ℕ
register_after register [] = register
register_after register (b ∷ bs) = register_after (entered register b) bs

-- the bits of octets, each octet's lowest bit first
unfoldable pub bits : List ℕ → List ℕ
bits [] = []
bits (x ∷ xs) = digits 8 2 x ++ bits xs

-- The start value is 0.
unfoldable pub fcs_of : List ℕ → ℕ
fcs_of octets = register_after 0 (bits octets)

-- The low octet goes first.
abbrev pub fcs_octets : List ℕ → List ℕ
fcs_octets octets = fcs_of octets % 256 ∷ fcs_of octets / 256 ∷ []

-- octets with their FCS appended
abbrev pub with_fcs : List ℕ → List ℕ
with_fcs octets = octets ++ fcs_octets octets
