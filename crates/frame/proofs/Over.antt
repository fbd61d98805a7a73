-- Laws of writing over a list. Assumes nothing.
use mathlib.Core.Path.{◌≡◌}
use mathlib.Core.List.{List, ◌++◌, append_assoc}
use Prim.Native.Nat.{ℕ, ◌≤◌}
use native.Mathlib.Nat.{zero-add}
use lib.ListN.{length, take, drop}
use lib.Seq.{paste, length-take-le}
use Rattle.frame.specs.Putting.{over}

-- written from the start on
pub over_front : (d new : List ℕ) → over d 0 new ≡ new ++ drop (length new) d
unfolding over
over_front d new = rw zero-add

-- a copy
pub over_paste : (d : List ℕ) (at : ℕ) (s : List ℕ) (n : ℕ) → n ≤ length s → paste d at s n ≡ over d at (take n s)
unfolding over
over_paste d at s n h = rw (length-take-le n s h) (simp append_assoc)
