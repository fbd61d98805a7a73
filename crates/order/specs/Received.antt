-- The values of the symbols read, taken back to raw symbols and octets (the scope, "The three
-- radios"), for any radio.
use Rattle.std.specs.Prelude.{ℕ, zero, suc, ◌+◌, ◌*◌, ◌%◌, ◌^◌, List, [], ◌∷◌, get_or, take, drop}
use Rattle.codes.specs.Chips.{pick}
use Rattle.codes.specs.Radio.{Radio}
use Rattle.frame.specs.Frame.{per_octet}

-- The reader takes the sum of each encoded bit and the one before it (mode 0). Without a chain a
-- symbol's value is the raw one.
abbrev pub raw_after : Radio → ℕ → ℕ → ℕ
raw_after r last v = pick r.chained ((last + v) % 2) v

-- the raw symbols of values, after the value `last`
unfoldable pub decode : Radio → ℕ → List ℕ → List ℕ
decode r last [] = []
decode r last (v ∷ vs) = raw_after r last v ∷ decode r v vs

-- In a radio with a chain symbol 0 settles the polarity of the frame: the chain starts from the
-- value that it reads as. The other radios have one polarity, which is 0.
abbrev pub chain_start : Radio → ℕ → ℕ
chain_start r first = pick r.chained first 0

-- so the polarity of values is by the first of them
abbrev pub polarity_of : Radio → List ℕ → ℕ
polarity_of r vs = chain_start r (get_or vs 0 0)

-- and their raw symbols are after it
abbrev pub received : Radio → List ℕ → List ℕ
received r vs = decode r (polarity_of r vs) vs

-- the number with these digits, the lowest first
unfoldable pub value_of : ℕ → List ℕ → ℕ
value_of base [] = 0
value_of base (b ∷ bs) = b + base * value_of base bs

-- octet k of raw symbols, its lowest bits first
abbrev pub octet_at : Radio → ℕ → List ℕ → ℕ
octet_at r k bs = value_of (2 ^ r.bits) (take (per_octet r) (drop (k * per_octet r) bs))

-- n octets of raw symbols, from octet k on
unfoldable pub octets_from : Radio → ℕ → ℕ → List ℕ → List ℕ
octets_from r k zero bs = []
octets_from r k (suc n) bs = octet_at r k bs ∷ octets_from r (suc k) n bs
