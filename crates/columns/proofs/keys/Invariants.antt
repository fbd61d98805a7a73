-- With each turn two keys more are those of the words, eight apart.
use Rattle.std.proofs.Common.{◌≡◌, ℕ, ◌+◌, ◌<◌, length, get_or}
use Rattle.columns.specs.Columns.{parted, low_key, high_key}
use Rattle.columns.proofs.keys.Given as goal

abbrev pub invariant-loop-n : goal.invariant-loop-n
invariant-loop-n g l =
    ((u : ℕ) → u < l.n → get_or l.k u 0 ≡ low_key (parted l.evens l.even) (parted l.odds l.odd) u)
    × ((u : ℕ) → u < l.n → get_or l.k (u + 8) 0 ≡ high_key g.R.Columned.HALF (parted l.evens l.even) (parted l.odds l.odd) u) × (length l.k ≡ 16)
