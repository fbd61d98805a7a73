-- Not to be believed: bytes taken as the digits of one number to the base 256, and the sum of such
-- digits, shown to be what they are called in proofs/Packed.antt.
use Rattle.std.specs.Prelude.{ℕ, zero, suc, ◌+◌, ◌*◌, ◌/◌, ◌%◌, ◌^◌, List, slice_index}

-- the window of a list that begins at a place: its k-th element
abbrev pub from : List ℕ → ℕ → ℕ → ℕ
from xs base k = slice_index xs (base + k)

-- the number whose digits are k bytes, the first the lowest
unfoldable pub packed : (ℕ → ℕ) → ℕ → ℕ
packed f zero = 0
packed f (suc k) = f k * 2 ^ (k * 8) + packed f k

-- digit j of a number
abbrev pub byte_of : ℕ → ℕ → ℕ
byte_of n j = n / 2 ^ (j * 8) % 2 ^ 8

-- the sum of a number's eight digits, where that is below 256: the halves added, and the fourth
-- digit of a product with four ones
unfoldable pub digit_sum : ℕ → ℕ
digit_sum z = (z % 2 ^ 32 + z / 2 ^ 32) * (2 ^ 24 + 2 ^ 16 + 2 ^ 8 + 1) / 2 ^ 24 % 2 ^ 8
