-- Rows of one length, one after the other. Assumes nothing.
use Rattle.std.proofs.Common.{◌≡◌, ℕ, ◌+◌, ◌*◌, ◌<◌, ◌≤◌, List, ◌++◌, length, drop, mul-le-mul_right, suc-mul, add-one, arith}
use lib.Seq.{drop-append-add}

-- a row lies within as many rows
pub row_in : (v count n : ℕ) → v < count → v * n + n ≤ count * n
row_in v count n h = omega (arith, suc-mul v n, mul-le-mul_right n h)

-- the row after
pub row_next : (v n : ℕ) → (v + 1) * n ≡ v * n + n
row_next v n = rw add-one (suc-mul v n)

pub drop_past : (xs ys : List ℕ) (n k : ℕ) → length xs ≡ n → drop (n + k) (xs ++ ys) ≡ drop k ys
drop_past xs ys n k e = rw (← e) (drop-append-add xs ys k)
