-- What the bench program prints (the scope, "The bench program"), in ASCII.
use Rattle.std.specs.Prelude.{ℕ, zero, suc, ◌+◌, ◌/◌, ◌%◌, List, [], ◌∷◌, ◌++◌, ltb}
use Rattle.codes.specs.Chips.{pick}
use Rattle.reader.specs.Read.{told, answer_at}
use Rattle.reader.specs.declared.Reading.{Reading}

-- of a raw capture, at most its first 15,960 bytes
abbrev pub most : ℕ
most = 15960

-- a number of at most k digits in decimal: its last digit comes after those of its tenth part
unfoldable pub decimal_in : ℕ → ℕ → List ℕ
decimal_in zero n = []
decimal_in (suc k) n = pick (ltb n 10) ((48 + n) ∷ []) (decimal_in k (n / 10) ++ (48 + n % 10) ∷ [])

-- a number of 32 bits, which has at most ten digits, in decimal
abbrev pub decimal : ℕ → List ℕ
decimal n = decimal_in 10 n

-- a number and the byte after it
abbrev pub entry : ℕ → ℕ → List ℕ
entry n after = decimal n ++ after ∷ []

-- mode, number, place, n, count, gap, in decimal with one blank between, and a newline
abbrev pub line : ℕ → Reading → List ℕ
line mode r =
    entry mode 32 ++ entry r.number 32 ++ entry r.place 32 ++ entry r.n 32 ++ entry r.count 32 ++ entry r.gap 10

-- what the reader gives back with a 127-byte report buffer
abbrev pub line_of : ℕ → List ℕ → List ℕ
line_of mode chips = line mode (told (answer_at mode 127 chips))

-- modes 0, 1 and 2, in that order
abbrev pub lines_of : List ℕ → List ℕ
lines_of chips = line_of 0 chips ++ line_of 1 chips ++ line_of 2 chips
