-- Chips whose first symbols are read as given values: what stands in their windows. For any sound
-- radio, both ways. Assumes nothing.
use mathlib.Core.Path.{◌≡◌, refl, sym, ap, ◌∙◌}
use mathlib.Core.Bool.{false}
use mathlib.Core.Logic.{⊎_elim}
use mathlib.Core.List.{List, [], ◌∷◌, ◌++◌}
use Prim.Native.Nat.{ℕ, suc, ◌+◌, ◌-◌, ◌*◌, ◌≤◌, ◌<◌}
use native.Mathlib.Nat.{suc-mul, le-div_iff_mul-le, eq-or-lt_of_le}
use native.Mathlib.Omega.{arith}
use lib.Dec.{ltb}
use borrow.Author.Tests.{ltb-true, ltb-false}
use lib.ListN.{length, get_or, take, length-append, get_or-append}
use lib.Seq.{get_or-append_seam}
use Rattle.codes.specs.Chips.{distance, bad}
use Rattle.codes.specs.Radio.{Radio, Sound, word}
use Rattle.codes.proofs.Chips.{chips_good, chip_at_lem, window_chip}
use Rattle.codes.proofs.Rows.{row_in}
use Rattle.codes.proofs.Tests.{by_test, upto}
use Rattle.codes.proofs.Unique.{Reads, symbol_of_lem}
use Rattle.order.specs.Order.{window, whole, repaired}
use Rattle.order.proofs.Raw.{size_pos}
use Rattle.order.proofs.Windows.{whole_long, whole_at_lem, whole_sized, seen}
use Rattle.demands.specs.Refusals.{ReadAs}
use Rattle.demands.proofs.Stands.{Stands}

module _ (r : Radio) (S : Sound r) (chips : List ℕ) where
  -- a window that is whole is among the buffer's
  pub window_in : (s : ℕ) → suc s * r.size ≤ length chips → s < length (whole r chips)
  window_in s h = omega (arith, (le-div_iff_mul-le {x = suc s} (size_pos r S)).1 h, whole_long r chips)

  pub in_window : (s : ℕ) → s < length (whole r chips) → suc s * r.size ≤ length chips
  in_window s h = (le-div_iff_mul-le {x = suc s} (size_pos r S)).0 (omega (arith, whole_long r chips))

  pub window_sized : (s : ℕ) → suc s * r.size ≤ length chips → length (window r chips s) ≡ r.size
  window_sized s h = ap length (sym (whole_at_lem r chips s (window_in s h))) ∙ whole_sized r chips (size_pos r S) s (window_in s h)

  -- it has no byte above 1 where the chips have none there
  pub window_good : (s : ℕ) → suc s * r.size ≤ length chips → ((i : ℕ) → i < r.size → get_or chips (s * r.size + i) 0 ≤ 1) → bad (window r chips s) ≡ false
  window_good s h c =
      chips_good (window r chips s)
      (λ i l. let n : i < r.size = omega (arith, window_sized s h) in omega (arith, c i n, window_chip chips (s * r.size) r.size i n))

  module _ (vs : List ℕ) (A : ReadAs r chips vs) where
    whole_window : (j : ℕ) → j < length vs → suc j * r.size ≤ length chips
    whole_window j h = omega (arith, A.long, row_in j (length vs) r.size h, suc-mul j r.size)

    read_at : (j : ℕ) → j < length vs → Reads r (window r chips j) (get_or vs j 0) (distance (window r chips j) (word r (get_or vs j 0)))
    read_at j h =
        record {
          chip = window_good j (whole_window j h) (λ i l. A.chip (j * r.size + i) (omega (arith, row_in j (length vs) r.size h)));
          known = A.known j h;
          apart = refl;
          near = A.near j h;
        }

    enough : length vs ≤ length (whole r chips)
    enough = omega (arith, (le-div_iff_mul-le {x = length vs} (size_pos r S)).1 A.long, whole_long r chips)

    -- each symbol is read as its value
    pub read_stands : Stands r (whole r chips) vs (repaired (take (length vs) (seen r (whole r chips))))
    read_stands =
        record {
          enough = enough;
          stands = λ j h.
              rw (whole_at_lem r chips j (omega (arith, enough)))
              (symbol_of_lem r (window r chips j) S (window_sized j (whole_window j h)) (get_or vs j 0) _ (read_at j h));
          total = refl;
        }

  -- and chips that read as one value more
  pub read_more : (vs : List ℕ) → ReadAs r chips vs → suc (length vs) * r.size ≤ length chips → (v d : ℕ) → Reads r (window r chips (length vs)) v d
      → ReadAs r chips (vs ++ v ∷ [])
  read_more vs A w v d R =
      record {
        long = rw long w;
        chip = λ i h. by_test (ltb i (length vs * r.size)) (λ t. A.chip i (ltb-true _ _ t)) (λ t. late i (ltb-false _ _ t) (rw long at h));
        known = λ j h. each (λ u j. u < length r.words) A.known R.known j h;
        near = λ j h. each (λ u j. distance (window r chips j) (word r u) ≤ r.limit) A.near (omega (arith, R.apart, R.near)) j h;
      }
    where
      long : length (vs ++ v ∷ []) ≡ suc (length vs)
      long = length-append vs (v ∷ []) ∙ omega arith

      late : (i : ℕ) → length vs * r.size ≤ i → i < suc (length vs) * r.size → get_or chips i 0 ≤ 1
      late i l h =
          let e : length vs * r.size + (i - length vs * r.size) ≡ i = omega arith in
          let n : i - length vs * r.size < r.size = omega (arith, suc-mul (length vs) r.size) in
          omega (
            arith,
            ap (λ (k : ℕ). get_or chips k 0) e,
            window_chip chips (length vs * r.size) r.size (i - length vs * r.size) n,
            chip_at_lem (window r chips (length vs)) R.chip (i - length vs * r.size),
          )

      each : (P : ℕ → ℕ → Type 0) → ((j : ℕ) → j < length vs → P (get_or vs j 0) j) → P v (length vs)
          → (j : ℕ) → j < length (vs ++ v ∷ []) → P (get_or (vs ++ v ∷ []) j 0) j
      each P before last j h =
          ⊎_elim
          (λ (e : j ≡ length vs). rw (e, get_or-append_seam vs v [] 0) last)
          (λ (l : j < length vs). rw (get_or-append vs (v ∷ []) 0 j l) (before j l))
          (eq-or-lt_of_le (upto j (length vs) (rw long at h)))
