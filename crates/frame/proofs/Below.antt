-- Lists of numbers that are all below a bound. Assumes nothing.
use mathlib.Core.List.{List, [], ◌∷◌, ◌++◌}
use Prim.Native.Nat.{ℕ, zero, suc, ◌<◌}
use native.Mathlib.Omega.{arith}
use lib.ListN.{length, get_or, set, take, drop}

abbrev pub Below : ℕ → List ℕ → Type 0
Below w [] = Unit {0}
Below w (v ∷ vs) = (v < w) × Below w vs

pub below_append : (w : ℕ) (xs ys : List ℕ) → Below w xs → Below w ys → Below w (xs ++ ys)
below_append w [] ys p q = q
below_append w (x ∷ xs) ys p q = (p.0, below_append w xs ys p.1 q)

-- each number is below it
pub below_at : (w : ℕ) (xs : List ℕ) → Below w xs → (i : ℕ) → i < length xs → get_or xs i 0 < w
below_at w [] p i h = absurd (omega arith)
below_at w (x ∷ xs) p zero h = p.0
below_at w (x ∷ xs) p (suc i) h = below_at w xs p.1 i (omega arith)

-- and a list is below where each number is
pub at_below : (w : ℕ) (xs : List ℕ) → ((i : ℕ) → i < length xs → get_or xs i 0 < w) → Below w xs
at_below w [] p = tt
at_below w (x ∷ xs) p = (p 0 (omega arith), at_below w xs (λ i h. p (suc i) (omega arith)))

-- the front of a list below a bound is below it
pub below_take : (w n : ℕ) (xs : List ℕ) → Below w xs → Below w (take n xs)
below_take w zero xs p = tt
below_take w (suc n) [] p = tt
below_take w (suc n) (x ∷ xs) p = (p.0, below_take w n xs p.1)

-- and so is what comes after it
pub below_drop : (w n : ℕ) (xs : List ℕ) → Below w xs → Below w (drop n xs)
below_drop w zero xs p = p
below_drop w (suc n) [] p = tt
below_drop w (suc n) (x ∷ xs) p = below_drop w n xs p.1

-- and so is a list with another such number in a place
pub below_set : (w : ℕ) (xs : List ℕ) (i v : ℕ) → Below w xs → v < w → Below w (set xs i v)
below_set w [] i v p h = tt
below_set w (x ∷ xs) zero v p h = (h, p.1)
below_set w (x ∷ xs) (suc i) v p h = (p.0, below_set w xs i v p.1 h)
