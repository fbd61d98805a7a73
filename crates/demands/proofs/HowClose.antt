-- How close it was: the gap of chips near a frame is at least the least distance of two words less
-- twice the limit; that of a frame itself, followed by anything, is the least distance of two
-- words; and one wrong chip put right does not lower it. For every sound radio. In numbers: at
-- least 3, 2 and 2 in modes 0, 1 and 2, and 15, 12 and 6 as written; in mode 0 it tells the wrong
-- chips. Assumes nothing.
use mathlib.Core.Path.{◌≡◌, refl, sym, ap, ◌∙◌}
use mathlib.Core.List.{List, ◌++◌}
use mathlib.Core.Bool.{false}
use Prim.Native.Nat.{ℕ, zero, suc, ◌+◌, ◌-◌, ◌*◌, ◌≤◌, ◌<◌}
use native.Mathlib.Omega.{arith}
use native.Mathlib.Nat.{le_antisymm}
use lib.ListN.{length, get_or, set}
use lib.Seq.{take-length, take-append_seam}
use Rattle.codes.specs.Chips.{distance, bad}
use Rattle.codes.specs.Radio.{Radio, Sound, word, radio_of, bpsk, bpsk_words}
use Rattle.codes.specs.Symbol.{nearest, nearest_word, nearest_but, Spaced}
use Rattle.codes.proofs.Chips.{distance_both}
use Rattle.codes.proofs.Leasts.{nearest_at, but_at}
use Rattle.codes.proofs.Facts.{bpsk_words_lem, sound_bpsk, spaced_bpsk, spaced_oqpsk, spaced_lowband}
use Rattle.codes.proofs.Gap.{ahead, ahead_is, ahead_least, ahead_between}
use Rattle.frame.specs.Frame.{symbols, symbols_with}
use Rattle.frame.proofs.Count.{frame_size, symbols_same}
use Rattle.order.specs.Order.{window}
use Rattle.demands.specs.Words.{window_gap, frame_gap, apart_in, Near}
use Rattle.demands.proofs.Repair.{distance_self, between}
use Rattle.demands.proofs.Fronts.{window_long, window_same}
use Rattle.demands.proofs.Frames.{some_symbols, symbol_known, window_in, frame_window}
use Rattle.demands.proofs.Forms.{Sent}
use Rattle.demands.proofs.Gaps.{gap_le, gap_above, gap_rises}

module _ (r : Radio) (S : Sound r) (report frame : List ℕ) (B : Sent r report frame) where
  abbrev vs : List ℕ
  vs = symbols_with r B.0 report

  abbrev k : ℕ
  k = length (symbols r report)

  -- symbol j of the frame
  at : (j : ℕ) → j < k → j < length vs
  at j h = rw (symbols_same r B.0 report) h

  known : (j : ℕ) → j < k → get_or vs j 0 < length r.words
  known j h = symbol_known r S B.0 report j (at j h)

  inside : (j : ℕ) → j < k → suc j * r.size ≤ length frame
  inside j h = rw B.2 (window_in r S B.0 report j (at j h))

  its_word : (j : ℕ) → j < k → window r frame j ≡ word r (get_or vs j 0)
  its_word j h = rw B.2 (frame_window r S B.0 report j (at j h))

  -- chips near it: in each window the gap is how much nearer the frame's word is than every other
  module _ (chips : List ℕ) (count : ℕ) (N : Near r chips frame count) where
    sized : (j : ℕ) → j < k → length (window r chips j) ≡ r.size
    sized j h =
        let e : length frame ≡ length vs * r.size = ap length B.2 ∙ frame_size r S B.0 report in
        window_long r chips (length vs) j (omega (arith, e, N.long)) (at j h)

    close : (j : ℕ) → j < k → distance (window r chips j) (word r (get_or vs j 0)) ≤ r.limit
    close j h = rw (its_word j h) at (N.near j (inside j h))

    leads : (j : ℕ) → j < k → window_gap r (window r chips j) ≡ ahead r (window r chips j) (get_or vs j 0)
    leads j h = ahead_is r S (get_or vs j 0) (known j h) (window r chips j) (sized j h) (close j h)

    -- so it is at least the least distance of two words less twice the limit: where from every word
    -- the nearest other is d away or more
    pub near_gap : (d : ℕ) → ((v : ℕ) → v < length r.words → d ≤ nearest_but r (word r v) v) → d - 2 * r.limit ≤ frame_gap r chips report
    near_gap d apart =
        gap_above r chips k (some_symbols r S report) (d - 2 * r.limit)
        (λ j h. rw (leads j h) (ahead_least r S (get_or vs j 0) (known j h) d (apart (get_or vs j 0) (known j h)) (window r chips j) (sized j h) (close j h)))

  -- One wrong chip put right does not lower it.
  pub right_gap : (chips : List ℕ) (count : ℕ) → Near r chips frame count → (i c : ℕ) → i < length frame → Near r (set chips i (get_or frame i 0)) frame c
      → frame_gap r chips report ≤ frame_gap r (set chips i (get_or frame i 0)) report
  right_gap chips count N i c l M =
      let others = set chips i (get_or frame i 0) in
      gap_rises r chips others k (some_symbols r S report)
      (λ j h.
      let e = rw (its_word j h) at (between (j * r.size) r.size chips frame i l) in
      rw (leads chips count N j h, leads others c M j h)
      (ahead_between r S (get_or vs j 0) (known j h) (window r chips j) (window r others j) (sized chips count N j h ∙ sym (sized others c M j h)) e))

  -- Of the frame itself, followed by anything, it is the least distance of two words.
  pub written_gap : (d : ℕ) → Spaced r d → (more : List ℕ) → frame_gap r (frame ++ more) report ≡ d
  written_gap d spaced more =
      let some = some_symbols r S report in
      le_antisymm (rw (← each 0 some) (gap_le r (frame ++ more) k 0 some)) (gap_above r (frame ++ more) k some d (λ j h. rw (each j h) (omega arith)))
    where
      each : (j : ℕ) → j < k → window_gap r (window r (frame ++ more) j) ≡ d
      each j h =
          let w = word r (get_or vs j 0) in
          let z = distance_self w in
          let e : window r (frame ++ more) j ≡ w =
          window_same r j (length frame) (frame ++ more) frame (inside j h) (take-append_seam frame more ∙ sym (take-length frame)) ∙ its_word j h in
          ap (window_gap r) e
          ∙ ahead_is r S (get_or vs j 0) (known j h) w (S.sized (get_or vs j 0) (known j h)) (omega (arith, z))
          ∙ omega (arith, z, spaced (get_or vs j 0) (known j h))

-- In mode 0 the next-nearest word is the other one, so that the gap of fifteen chips is fifteen
-- less twice the nearest word's distance.
pub bpsk_gap : (w : List ℕ) → length w ≡ 15 → bad w ≡ false → window_gap bpsk w ≡ 15 - 2 * nearest bpsk w
unfolding bpsk_words
bpsk_gap w l b =
    let v = nearest_word bpsk w in
    let a = nearest_at bpsk w (omega arith) in
    let t = but_at bpsk w v a.0 (omega arith) in
    omega (arith, a.1, t.3, both v t.0 a.0 t.1 t.2)
  where
    all : distance w (word bpsk 0) + distance w (word bpsk 1) ≡ 15
    all =
        distance_both w (word bpsk 0) (word bpsk 1) b (sound_bpsk.chips 0 (omega arith)) (sound_bpsk.chips 1 (omega arith)) l refl bpsk_words_lem.0 ∙ l

    both : (v u : ℕ) → v < 2 → u < 2 → (u ≡ v → ⊥) → distance w (word bpsk v) + distance w (word bpsk u) ≡ 15
    both zero zero h j n = absurd (n refl)
    both zero (suc zero) h j n = all
    both zero (suc (suc u)) h j n = absurd (omega arith)
    both (suc zero) zero h j n = omega (arith, all)
    both (suc zero) (suc zero) h j n = absurd (n refl)
    both (suc zero) (suc (suc u)) h j n = absurd (omega arith)
    both (suc (suc v)) u h j n = absurd (omega arith)

-- the least distance of two words of a mode's radio
pub spaced : (mode : ℕ) → Spaced (radio_of mode) (apart_in mode)
spaced zero = spaced_bpsk
spaced (suc zero) = spaced_oqpsk
spaced (suc (suc zero)) = spaced_lowband
spaced (suc (suc (suc mode))) = spaced_bpsk

-- less twice the limit: 3, 2 and 2
pub edges : (apart_in 0 - 2 * (radio_of 0).limit ≡ 3) × (apart_in 1 - 2 * (radio_of 1).limit ≡ 2) × (apart_in 2 - 2 * (radio_of 2).limit ≡ 2)
edges = (refl, refl, refl)
