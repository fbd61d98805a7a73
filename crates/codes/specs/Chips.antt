-- Chips and their distance. A chip buffer is a list of bytes, one chip in each, 0 or 1.
use Rattle.std.specs.Prelude.{ℕ, ◌+◌, Bool, true, false, List, [], ◌∷◌, ◌==◌, nat_lt}

-- the first where the test holds, else the second
abbrev pub pick : {A : Type 0} → Bool → A → A → A
pick true a b = a
pick false a b = b

-- whether x is one of some numbers
abbrev pub among : ℕ → List ℕ → Bool
among x [] = false
among x (y ∷ ys) = pick (x == y) true (among x ys)

-- 1 where two chips differ, else 0
abbrev pub differ : ℕ → ℕ → ℕ
differ x y = pick (x == y) 0 1

-- Distance is the number of places where two chip words of one length differ.
unfoldable pub distance : List ℕ → List ℕ → ℕ
distance [] ys = 0
distance (x ∷ xs) [] = 0
distance (x ∷ xs) (y ∷ ys) = differ x y + distance xs ys

-- a byte above 1 among the chips
unfoldable pub bad : List ℕ → Bool
bad [] = false
bad (x ∷ xs) = pick (nat_lt 1 x) true (bad xs)
