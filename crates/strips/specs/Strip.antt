-- Not to be believed: the words of a radio as runs of one strip of 128 chips, which the writer
-- copies them from, shown in proofs/Runs.antt to hold every word at its place.
use Rattle.std.specs.Prelude.{ℕ, ◌+◌, ◌-◌, ◌*◌, ◌/◌, ◌%◌, ◌^◌, ◌≤◌, List, eqb, leb, ltb}
use Rattle.std.specs.Int.Bits.{bit_xor}
use Rattle.codes.specs.declared.Phy.{Phy}
use Rattle.codes.specs.Chips.{pick}
use Rattle.codes.specs.Gathered.{listed}
use Rattle.codes.specs.Phy.{phy_at}

-- chip j of word 0 among its gathered bits, and of all that would follow it in as many eights
unfoldable pub chip_of : Phy → ℕ → ℕ
chip_of p i = placed (i % (8 * p.eights))
  where
    placed : ℕ → ℕ
    placed j = p.word / 2 ^ ((j - j / 8 * p.step) % 8 * 8 + j / 8 * p.lift) % 2

-- whether chip i is inverted in the second half: of two words every chip, of sixteen the odd ones
abbrev pub flip_of : ℕ → ℕ → ℕ
flip_of values i = pick (eqb values 2) 1 (i % 2)

-- word 0 twice, so that each turn of it is a run, then both with chips inverted
abbrev pub strip_chip : Phy → ℕ → ℕ
strip_chip p i =
    pick (ltb i (16 * p.eights)) (chip_of p i) (pick (ltb i (2 * (16 * p.eights))) (bit_xor (chip_of p i) (flip_of p.values i)) 0)

-- the strip of a mode's radio; zeros where it has none
unfoldable pub strip_at : ℕ → List ℕ
strip_at mode = listed (strip_chip (phy_at mode)) 128

-- where the word of a value begins in a strip; 0 where there is no such word
abbrev pub row_by : Phy → ℕ → ℕ
row_by p v =
    pick (leb p.values v) 0 (16 * p.eights * (v / (p.values / 2)) + 8 * p.eights - p.eights * (v % (p.values / 2)))

unfoldable pub row_at : ℕ → ℕ → ℕ
row_at mode v = row_by (phy_at mode) v

-- numbers by which a chip's place is one of 64 bits
pub record Fits (p : Phy) : Type 0 where
  pub some : 1 ≤ p.eights
  pub few : p.eights ≤ 4
  pub near : p.step ≤ 8
  pub lifted : 1 ≤ p.lift
  pub low : p.eights * p.lift ≤ 8
