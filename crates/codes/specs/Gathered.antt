-- Not to be believed: a symbol's chips gathered as the bits of one number, eight at a time, and its
-- symbol read there, shown to be that of the chips in proofs/Gathering.antt.
use Rattle.std.specs.Prelude.{ℕ, zero, suc, ◌+◌, ◌-◌, ◌*◌, ◌/◌, ◌%◌, ◌^◌, List, [], ◌∷◌, length, take, drop, nat_lt, Option, None, Some, unwrap_or, option_and_then}
use Rattle.codes.specs.declared.Symbol.{Symbol}
use Rattle.codes.specs.Numbers.{BADMODE}
use Rattle.codes.specs.Chips.{pick, bad}
use Rattle.codes.specs.Radio.{Radio, known, radio_of}
use Rattle.codes.specs.Symbol.{refused, symbol_of}
use Rattle.codes.specs.Packed.{from, packed, byte_of}

-- the eights of a symbol: how many, how many chips from the start of one to that of the next, and
-- by how many bits each is lifted above the one before
pub record Layout : Type 0 where
  pub eights : ℕ
  pub step : ℕ
  pub lift : ℕ

-- The layout of a radio's symbols, by their size: 15 chips are two eights, which both have chip 7,
-- 16 chips two, and 32 four. The eights share the bits of a byte.
abbrev pub layout_of : Radio → Layout
layout_of r = record { eights = (r.size + 1) / 8; step = r.size / ((r.size + 1) / 8); lift = 8 / ((r.size + 1) / 8) }

-- Eight k of a symbol's chips, added to the bits gathered before it; none where they are fewer, or
-- one of its bytes is no chip. A symbol that has no eight k leaves the bits as they are.
unfoldable pub gathered : ℕ → ℕ → ℕ → List ℕ → ℕ → ℕ → Option ℕ
gathered eights step lift part k bits =
    pick (nat_lt k eights)
    (pick (nat_lt (length part) (k * step + 8)) None
    (pick (bad (take 8 (drop (k * step) part))) None
    (Some ((bits + packed (from part (k * step)) 8 * 2 ^ (k * lift) % 2 ^ 64) % 2 ^ 64))))
    (Some bits)

-- by a layout
abbrev pub gathered_by : Layout → List ℕ → ℕ → ℕ → Option ℕ
gathered_by l = gathered l.eights l.step l.lift

-- at a mode; none where it has no radio
unfoldable pub gathered_at : ℕ → List ℕ → ℕ → ℕ → Option ℕ
gathered_at mode part k bits =
    pick (known mode) (gathered_by (layout_of (radio_of mode)) part k bits) None

-- the eight that chip i is read from, the first that has it
abbrev pub eight_of : Layout → ℕ → ℕ
eight_of l i = (i - (8 - l.step)) / l.step

-- chip i among the bits: the byte is that of its place in its eight, the bit that of the eight
unfoldable pub chip_in : Layout → ℕ → ℕ → ℕ
chip_in l bits i = byte_of bits (i - eight_of l i * l.step) / 2 ^ (eight_of l i * l.lift) % 2

-- the first n values of f
unfoldable pub listed : (ℕ → ℕ) → ℕ → List ℕ
listed f zero = []
listed f (suc n) = f 0 ∷ listed (λ i. f (suc i)) n

-- the chips of a symbol that the bits hold
abbrev pub chips_in : Radio → ℕ → List ℕ
chips_in r bits = listed (chip_in (layout_of r) bits) r.size

-- a symbol's chips all gathered, as the loops do it; 0 where one is no chip
unfoldable pub gathered_all : Radio → List ℕ → ℕ
gathered_all r part =
    let more : ℕ → Option ℕ → Option ℕ = λ k. option_and_then (gathered_by (layout_of r) part k) in
    unwrap_or (more 3 (more 2 (more 1 (more 0 (Some 0))))) 0

-- the symbol of the chips that the bits hold
unfoldable pub symbol_in : ℕ → ℕ → Symbol
symbol_in mode bits =
    pick (known mode)
    (symbol_of (radio_of mode) (chips_in (radio_of mode) bits))
    (refused BADMODE)
