-- Chips whose windows begin with the symbols of one of a report's frames are those that begin with
-- that frame, but for the limit in each symbol. For any sound radio. Assumes nothing.
use mathlib.Core.Path.{◌≡◌, refl, sym, ap, ◌∙◌, subst}
use mathlib.Core.List.{List, [], ◌∷◌}
use Prim.Native.Nat.{ℕ, zero, suc, ◌+◌, ◌*◌, ◌≤◌, ◌<◌}
use native.Mathlib.Nat.{le-div_iff_mul-le}
use native.Mathlib.Omega.{arith}
use lib.ListN.{length, get_or, take}
use lib.Seq.{take-suc}
use Rattle.codes.specs.Chips.{distance}
use Rattle.codes.specs.Radio.{Radio, Sound, word}
use Rattle.codes.specs.Symbol.{symbol_of}
use Rattle.codes.specs.declared.Symbol.{Symbol}
use Rattle.codes.proofs.Unique.{Reads, read_as, some_words, of_symbol_lem, symbol_of_lem}
use Rattle.frame.specs.Frame.{Form, symbols, symbols_with, frame_with}
use Rattle.order.specs.Order.{window, whole, repaired, smallest_gap}
use Rattle.demands.specs.Words.{frame_gap, Near, differences}
use Rattle.order.proofs.Windows.{whole_long, whole_at_lem, seen, seen_long}
use Rattle.order.proofs.Raw.{size_pos}
use Rattle.order.proofs.Carried.{repaired_append}
use Rattle.demands.proofs.Stands.{Stands, seen_at}
use Rattle.demands.proofs.Fronts.{window_long, front_chips, window_chips}
use Rattle.demands.proofs.Frames.{some_symbols, symbol_known, window_in, window_of, frame_window, sum_of_windows}
use Rattle.demands.proofs.Gaps.{gap_seen}
use Rattle.frame.proofs.Count.{frame_size, symbols_same}

module _ (r : Radio) (chips : List ℕ) where
  abbrev ws : List (List ℕ)
  ws = whole r chips

  -- the chips repaired in k symbols are the sum of the windows' distances
  repaired_sum : (ys : List ℕ) (k : ℕ) → k ≤ length ws → ((j : ℕ) → j < k → (symbol_of r (get_or ws j [])).distance ≡ distance (window r chips j) (window r ys j))
      → repaired (take k (seen r ws)) ≡ differences r chips ys k
  unfolding repaired differences
  repaired_sum ys zero h p = refl
  repaired_sum ys (suc k) h p =
      let x = get_or (seen r ws) k (symbol_of r []) in
      let e : repaired (take (suc k) (seen r ws)) ≡ repaired (take k (seen r ws)) + repaired (x ∷ []) =
      ap repaired (take-suc (seen r ws) k (symbol_of r []) (omega (arith, seen_long r ws))) ∙ repaired_append (take k (seen r ws)) (x ∷ []) in
      omega (
        arith,
        e,
        repaired_sum ys k (omega arith) (λ j l. p j (omega arith)),
        p k (omega arith),
        ap (λ (y : Symbol). y.distance) (seen_at r ws k (symbol_of r []) h),
      )

module _ (r : Radio) (S : Sound r) (chips : List ℕ) (form : Form) (report : List ℕ) (count : ℕ) where
  abbrev vs : List ℕ
  vs = symbols_with r form report

  abbrev f : List ℕ
  f = frame_with r form report

  whole_fits : length vs ≤ length (whole r chips) → length vs * r.size ≤ length chips
  whole_fits h = (le-div_iff_mul-le (size_pos r S)).0 (omega (arith, whole_long r chips))

  fits_whole : length vs * r.size ≤ length chips → length vs ≤ length (whole r chips)
  fits_whole h = omega (arith, (le-div_iff_mul-le {x = length vs} (size_pos r S)).1 h, whole_long r chips)

  module _ (T : Stands r (whole r chips) vs count) where
    at_window : (j : ℕ) → j < length vs → symbol_of r (window r chips j) ≡ read_as r (window r chips j) (get_or vs j 0)
    at_window j h = rw (← whole_at_lem r chips j (omega (arith, T.enough))) (T.stands j h)

    read_at : (j : ℕ) → j < length vs → Reads r (window r chips j) (get_or vs j 0) (distance (window r chips j) (word r (get_or vs j 0)))
    read_at j h =
        subst (λ (x : Symbol). Reads r (window r chips j) x.value x.distance) (at_window j h)
        (of_symbol_lem r (window r chips j) (some_words r S) (ap (λ (x : Symbol). x.number) (at_window j h)))

    -- they begin with the frame
    pub stands_near : Near r chips f count
    stands_near =
        record {
          long = omega (arith, frame_size r S form report, whole_fits T.enough);
          chip = rw (frame_size r S form report) (front_chips r chips (length vs) (λ s h. (read_at s h).chip));
          near = λ s l. let h = window_of r S form report s l in rw (frame_window r S form report s h) (read_at s h).near;
          sum = T.total
              ∙ repaired_sum r chips f (length vs) T.enough
              (λ j h. rw (whole_at_lem r chips j (omega (arith, T.enough)), frame_window r S form report j h) (ap (λ (x : Symbol). x.distance) (at_window j h)))
              ∙ sym (sum_of_windows r S form report chips (omega (arith, frame_size r S form report, whole_fits T.enough)));
        }

    -- and the reading order's smallest gap is that of the windows
    pub stands_gap : smallest_gap (take (length (symbols r report)) (seen r (whole r chips))) ≡ frame_gap r chips report
    stands_gap =
        let e = symbols_same r form report in
        gap_seen r chips (length (symbols r report)) (some_symbols r S report) (rw (← e) T.enough)
        (λ j h. ap (λ (x : Symbol). x.number) (at_window j (rw e h)))

  module _ (N : Near r chips f count) where
    fits : length vs * r.size ≤ length chips
    fits = omega (arith, frame_size r S form report, N.long)

    near_read : (j : ℕ) → j < length vs → symbol_of r (window r chips j) ≡ read_as r (window r chips j) (get_or vs j 0)
    near_read j h =
        symbol_of_lem r (window r chips j) S (window_long r chips (length vs) j fits h) (get_or vs j 0) (distance (window r chips j) (word r (get_or vs j 0)))
        (record {
          chip = window_chips r chips (length vs) (rw (frame_size r S form report) at N.chip) j h;
          known = symbol_known r S form report j h;
          apart = refl;
          near = rw (frame_window r S form report j h) at (N.near j (window_in r S form report j h));
        })

    -- and those that begin with the frame
    pub near_stands : Stands r (whole r chips) vs count
    near_stands =
        let l : length vs ≤ length (whole r chips) = fits_whole fits in
        record {
          enough = l;
          stands = λ j h. rw (whole_at_lem r chips j (omega arith)) (near_read j h);
          total = N.sum
              ∙ sum_of_windows r S form report chips N.long
              ∙ sym (repaired_sum r chips f (length vs) l
              (λ j h. rw (whole_at_lem r chips j (omega arith), frame_window r S form report j h) (ap (λ (x : Symbol). x.distance) (near_read j h))));
        }
