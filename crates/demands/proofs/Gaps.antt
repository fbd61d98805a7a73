-- The gap of the chips' first symbols, the least over their windows: that of symbols which are all
-- read is the reading order's smallest gap, and what is so of each window's gap is so of it. For
-- any radio. Assumes nothing.
use mathlib.Core.Path.{◌≡◌, sym, ap, ◌∙◌}
use mathlib.Core.List.{List, []}
use Prim.Native.Nat.{ℕ, ◌≤◌, ◌<◌}
use native.Mathlib.Nat.{zero-add, le_antisymm}
use native.Mathlib.Omega.{arith}
use lib.ListN.{length, get_or, take}
use lib.Seq.{get_or-take}
use Rattle.codes.specs.Numbers.{DONE}
use Rattle.codes.specs.Radio.{Radio}
use Rattle.codes.specs.Symbol.{symbol_of, gap_of}
use Rattle.codes.specs.declared.Symbol.{Symbol}
use Rattle.codes.proofs.Leasts.{least_le, least_at, least_is}
use Rattle.codes.proofs.Unique.{of_done}
use Rattle.order.specs.Order.{window, windows, whole, smallest_gap}
use Rattle.order.proofs.Windows.{windows_long, windows_at, whole_at_lem, seen, seen_front}
use Rattle.demands.specs.Words.{window_gap, gap_in}
use Rattle.demands.proofs.Stands.{seen_at}

module _ (r : Radio) (chips : List ℕ) (k : ℕ) where
  window_of : (j : ℕ) → j < k → get_or (windows r chips 0 k) j [] ≡ window r chips j
  window_of j h = windows_at r chips 0 k j h ∙ ap (window r chips) (zero-add j)

  -- no window's is less, and it is that of one
  pub gap_le : (j : ℕ) → j < k → gap_in r chips k ≤ window_gap r (window r chips j)
  unfolding gap_in
  gap_le j h = rw (← window_of j h) (least_le (window_gap r) [] (windows r chips 0 k) j (omega (arith, windows_long r chips 0 k)))

  pub gap_at_lem : 0 < k → (j : ℕ) × (j < k) × (window_gap r (window r chips j) ≡ gap_in r chips k)
  unfolding gap_in
  gap_at_lem some =
      let t = least_at (window_gap r) [] (windows r chips 0 k) (omega (arith, windows_long r chips 0 k)) in
      let h : t.0 < k = omega (arith, t.1, windows_long r chips 0 k) in
      (t.0, h, ap (window_gap r) (sym (window_of t.0 h)) ∙ t.2)

  -- each at least d: so is it
  pub gap_above : 0 < k → (d : ℕ) → ((j : ℕ) → j < k → d ≤ window_gap r (window r chips j)) → d ≤ gap_in r chips k
  gap_above some d p = let t = gap_at_lem some in omega (arith, t.2, p t.0 t.1)

  -- of symbols that are all read it is the reading order's
  pub gap_seen : 0 < k → k ≤ length (whole r chips) → ((j : ℕ) → j < k → (symbol_of r (window r chips j)).number ≡ DONE)
      → smallest_gap (take k (seen r (whole r chips))) ≡ gap_in r chips k
  unfolding smallest_gap
  gap_seen some h read =
      let t = gap_at_lem some in
      least_is gap_of (symbol_of r []) xs t.0 (omega (arith, t.1, long))
      (λ j l.
      let i : j < k = omega (arith, l, long) in
      omega (arith, gap_of_lem t.0 t.1, gap_of_lem j i, t.2, gap_le j i))
      ∙ gap_of_lem t.0 t.1
      ∙ t.2
    where
      xs : List Symbol
      xs = take k (seen r (whole r chips))

      long : length xs ≡ k
      long = seen_front r (whole r chips) k h

      gap_of_lem : (j : ℕ) → j < k → gap_of (get_or xs j (symbol_of r [])) ≡ window_gap r (window r chips j)
      gap_of_lem j l =
          let w = window r chips j in
          let e : get_or xs j (symbol_of r []) ≡ symbol_of r w =
          get_or-take k (seen r (whole r chips)) j (symbol_of r []) l
          ∙ seen_at r (whole r chips) j (symbol_of r []) (omega arith)
          ∙ ap (symbol_of r) (whole_at_lem r chips j (omega arith)) in
          ap gap_of (e ∙ of_done r w (read j l))

-- chips whose windows have no smaller gaps than those of others have none themselves
pub gap_rises : (r : Radio) (xs ys : List ℕ) (k : ℕ) → 0 < k
    → ((j : ℕ) → j < k → window_gap r (window r xs j) ≤ window_gap r (window r ys j)) → gap_in r xs k ≤ gap_in r ys k
gap_rises r xs ys k some p = gap_above r ys k some (gap_in r xs k) (λ j h. omega (arith, gap_le r xs k j h, p j h))

-- and with the same windows they have the same gap
pub gap_same : (r : Radio) (xs ys : List ℕ) (k : ℕ) → 0 < k → ((j : ℕ) → j < k → window r xs j ≡ window r ys j) → gap_in r xs k ≡ gap_in r ys k
gap_same r xs ys k some p =
    le_antisymm
    (gap_rises r xs ys k some (λ j h. rw (p j h) (omega arith)))
    (gap_rises r ys xs k some (λ j h. rw (p j h) (omega arith)))
