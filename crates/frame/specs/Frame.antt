-- A report's frame: octets, symbols, chips (the scope, "The three radios" and "The frame"), for
-- any radio.
use Rattle.std.specs.Prelude.{ℕ, zero, suc, ◌+◌, ◌*◌, ◌/◌, ◌%◌, ◌^◌, List, [], ◌∷◌, ◌++◌, length}
use Rattle.codes.specs.Chips.{pick}
use Rattle.codes.specs.Radio.{Radio, word}

-- The start octet's bits are 1 1 1 0 0 1 0 1 with the lowest bit first, so its value is 0xA7.
abbrev pub start_octet : ℕ
start_octet = 0xA7

-- Four octets of zero, one start octet, one length octet, then the report. The length octet has n
-- in its low seven bits; its top bit, which is reserved, is the one given.
abbrev pub octets_with : ℕ → List ℕ → List ℕ
octets_with bit report = 0 ∷ 0 ∷ 0 ∷ 0 ∷ start_octet ∷ (length report + 128 * bit) ∷ report

-- symbols of an octet
abbrev pub per_octet : Radio → ℕ
per_octet r = 8 / r.bits

-- the k lowest digits of x, lowest first
unfoldable pub digits : ℕ → ℕ → ℕ → List ℕ
digits zero base x = []
digits (suc k) base x = x % base ∷ digits k base (x / base)

-- an octet's raw symbols, its lowest bits first
abbrev pub raw_of : Radio → ℕ → List ℕ
raw_of r x = digits (per_octet r) (2 ^ r.bits) x

-- octet by octet
unfoldable pub raws : Radio → List ℕ → List ℕ
raws r [] = []
raws r (x ∷ xs) = raw_of r x ++ raws r xs

-- Each raw bit is first added modulo 2 to the bit encoded before it (mode 0). Without a chain a raw
-- symbol goes out as it is.
abbrev pub sent : Radio → ℕ → ℕ → ℕ
sent r last b = pick r.chained ((last + b) % 2) b

-- the symbols sent for raw ones, after the symbol `last`
unfoldable pub encode : Radio → ℕ → List ℕ → List ℕ
encode r last [] = []
encode r last (b ∷ bs) = sent r last b ∷ encode r (sent r last b) bs

-- How a frame was sent: the reserved bit of its length octet, and its polarity, which is the symbol
-- that stands before the first one.
pub record Form : Type 0 where
  pub bit : ℕ
  pub polarity : ℕ

abbrev pub formed : ℕ → ℕ → Form
formed bit polarity = record { bit = bit; polarity = polarity }

-- the symbols of a report's frame: the chain runs through the whole frame
unfoldable pub symbols_with : Radio → Form → List ℕ → List ℕ
symbols_with r form report = encode r form.polarity (raws r (octets_with form.bit report))

-- each symbol chooses its word
unfoldable pub chips_of : Radio → List ℕ → List ℕ
chips_of r [] = []
chips_of r (v ∷ vs) = word r v ++ chips_of r vs

-- the frame of a report, sent as given
unfoldable pub frame_with : Radio → Form → List ℕ → List ℕ
frame_with r form report = chips_of r (symbols_with r form report)

-- The reserved bit is written as 0, and before the first symbol stands 0.
abbrev pub plain : Form
plain = formed 0 0

abbrev pub octets : List ℕ → List ℕ
octets report = octets_with 0 report

abbrev pub symbols : Radio → List ℕ → List ℕ
symbols r report = symbols_with r plain report

abbrev pub frame : Radio → List ℕ → List ℕ
frame r report = frame_with r plain report
