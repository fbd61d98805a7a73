-- What is published, against the definition, by computation. With the bits of an octet in the other
-- order, another start value or another polynomial, in definition and code alike, every promise
-- would be the same. Assumes nothing.
use mathlib.Core.Path.{◌≡◌, refl}
use mathlib.Core.List.{[], ◌∷◌}
use Rattle.frame.specs.Frame.{digits}
use Rattle.fcs.specs.Fcs.{entered, register_after, bits, fcs_of, fcs_octets}

-- the acknowledgement of IEEE 802.15.4: its three octets and the two of its FCS
pub acknowledgement : fcs_octets (0x02 ∷ 0x00 ∷ 0x6A ∷ []) ≡ 0xE4 ∷ 0x79 ∷ []
unfolding fcs_of bits digits register_after entered
acknowledgement = refl

-- the nine digits 1 to 9 as text, by which catalogues of such checks tell them apart
pub nine_digits : fcs_of (0x31 ∷ 0x32 ∷ 0x33 ∷ 0x34 ∷ 0x35 ∷ 0x36 ∷ 0x37 ∷ 0x38 ∷ 0x39 ∷ []) ≡ 0x2189
unfolding fcs_of bits digits register_after entered
nine_digits = refl

-- A command frame, a data request, as another program that knows the standard makes it
-- (tests/scapy_frames.said). There is one more polynomial with both values above; it has not this
-- one.
pub data_request : fcs_octets (0x63 ∷ 0x88 ∷ 0x06 ∷ 0x52 ∷ 0x4C ∷ 0x01 ∷ 0x00 ∷ 0x0C ∷ 0x00 ∷ 0x04 ∷ []) ≡ 0x99 ∷ 0xB1 ∷ []
unfolding fcs_of bits digits register_after entered
data_request = refl
