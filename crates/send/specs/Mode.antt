-- The mode number that an argument names in decimal.
use Rattle.std.specs.Prelude.{ℕ, ◌+◌, ◌-◌, ◌*◌, min, List, [], ◌∷◌, leb}
use Rattle.codes.specs.Chips.{pick}

-- the largest mode number: no radio has it
abbrev pub none : ℕ
none = 4294967295

-- the number whose first digits are m and whose others follow; a larger one than `none`, and no
-- number, is `none`
unfoldable pub mode_from : ℕ → List ℕ → ℕ
mode_from m [] = m
mode_from m (c ∷ cs) = pick (leb 48 c) (pick (leb c 57) (mode_from (min (10 * m + (c - 48)) none) cs) none) none

unfoldable pub mode_of : List ℕ → ℕ
mode_of [] = none
mode_of (c ∷ cs) = mode_from 0 (c ∷ cs)
