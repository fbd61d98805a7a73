-- A report's frames, and the windows of one: window s is the word of its symbol s, and a frame is
-- of chips 0 and 1. Nearness to a frame depends on no chip after it, and the distance of a whole
-- prefix from it is the sum over the windows. For any sound radio. Assumes nothing.
use mathlib.Core.Path.{◌≡◌, refl, sym, ap, ◌∙◌}
use mathlib.Core.Bool.{false}
use mathlib.Core.List.{List, [], ◌∷◌}
use Prim.Native.Nat.{ℕ, suc, ◌*◌, ◌^◌, ◌≤◌, ◌<◌}
use native.Mathlib.Nat.{mul-le-mul_right, le_of_mul-le-mul_right, le-add_right}
use native.Mathlib.Omega.{arith}
use lib.ListN.{length, get_or, take}
use lib.Seq.{take_all}
use Rattle.codes.specs.Chips.{distance, bad}
use Rattle.codes.specs.Radio.{Radio, Sound, word}
use Rattle.codes.proofs.Chips.{bad_append}
use Rattle.frame.specs.Frame.{per_octet, Form, plain, symbols, symbols_with, chips_of, frame_with}
use Rattle.frame.proofs.Count.{symbols_below, symbols_long, symbols_same, frame_size, frame_long}
use Rattle.frame.proofs.Below.{Below, below_at}
use Rattle.order.specs.Order.{window}
use Rattle.demands.specs.Words.{frames, OneOf, Near, differences}
use Rattle.order.proofs.Raw.{size_pos, per_positive}
use Rattle.demands.proofs.Fronts.{window_same, front_distance, word_window}
use Rattle.demands.proofs.Forms.{Sent, sent_as}

module _ (r : Radio) (S : Sound r) where
  chips_good : (vs : List ℕ) → Below (2 ^ r.bits) vs → bad (chips_of r vs) ≡ false
  unfolding chips_of bad
  chips_good [] p = refl
  chips_good (v ∷ vs) p = rw (bad_append, S.chips v (rw S.many p.0)) (chips_good vs p.1)

  -- a frame has symbols
  pub some_symbols : (report : List ℕ) → 0 < length (symbols r report)
  some_symbols report = omega (arith, symbols_long r plain report, per_positive r S, mul-le-mul_right (per_octet r) (le-add_right 6 (length report)))

  module _ (form : Form) (report : List ℕ) where
    abbrev vs : List ℕ
    vs = symbols_with r form report

    -- each symbol of a frame has a word
    pub symbol_known : (s : ℕ) → s < length vs → get_or vs s 0 < length r.words
    symbol_known s h = rw S.many (below_at (2 ^ r.bits) vs (symbols_below r S form report) s h)

    -- the windows of a frame's symbols end in the frame
    pub window_in : (s : ℕ) → s < length vs → suc s * r.size ≤ length (frame_with r form report)
    window_in s h = rw (frame_size r S form report) (mul-le-mul_right r.size h)

    -- and no others do
    pub window_of : (s : ℕ) → suc s * r.size ≤ length (frame_with r form report) → s < length vs
    window_of s h = le_of_mul-le-mul_right {k = r.size} (rw (frame_size r S form report) at h) (size_pos r S)

    -- window s of a frame is the word of its symbol s
    pub frame_window : (s : ℕ) → s < length vs → window r (frame_with r form report) s ≡ word r (get_or vs s 0)
    unfolding frame_with
    frame_window s h = word_window r S vs (symbols_below r S form report) s h

    -- a frame is of chips 0 and 1
    pub frame_good : bad (frame_with r form report) ≡ false
    unfolding frame_with
    frame_good = chips_good vs (symbols_below r S form report)

    -- The distance of a whole prefix from a frame is the sum of the distances of the windows of
    -- its symbols.
    pub sum_of_windows : (chips : List ℕ) → length (frame_with r form report) ≤ length chips
        → distance (take (length (frame_with r form report)) chips) (frame_with r form report) ≡ differences r chips (frame_with r form report) (length vs)
    sum_of_windows chips h =
        let f = frame_with r form report in
        let e = frame_size r S form report in
        let k = length vs * r.size in
        ap (λ (n : ℕ). distance (take n chips) f) e
        ∙ ap (distance (take k chips)) (sym (take_all k f (omega arith)))
        ∙ front_distance r chips f (length vs) (omega arith) (omega arith)

-- Chips near a frame are so by the chips of that frame alone: others that begin with the same are
-- as near.
pub near_same : (r : Radio) (chips others frame : List ℕ) (count : ℕ) → length frame ≤ length others
    → take (length frame) chips ≡ take (length frame) others → Near r chips frame count → Near r others frame count
near_same r chips others frame count h e n =
    record {
      long = h;
      chip = rw (← e) n.chip;
      near = λ s l. rw (window_same r s (length frame) others chips l (sym e)) (n.near s l);
      sum = rw (← e) n.sum;
    }

-- ---- the frames of a report

-- each is of chips 0 and 1, and as long as the one that is written
module _ (r : Radio) (S : Sound r) (report frame : List ℕ) (m : OneOf (frames r report) frame) where
  pub member_good : bad frame ≡ false
  member_good = go (sent_as r report frame m)
    where
      go : Sent r report frame → bad frame ≡ false
      go (form, h, e) = rw e (frame_good r S form report)

  -- its symbols' windows end in it
  pub member_window : (j : ℕ) → j < length (symbols r report) → suc j * r.size ≤ length frame
  member_window = go (sent_as r report frame m)
    where
      go : Sent r report frame → (j : ℕ) → j < length (symbols r report) → suc j * r.size ≤ length frame
      go (form, h, e) j l = rw e (window_in r S form report j (rw (symbols_same r form report) l))

  pub member_long : length frame ≡ length (frame_with r plain report)
  member_long = go (sent_as r report frame m)
    where
      go : Sent r report frame → length frame ≡ length (frame_with r plain report)
      go (form, h, e) = ap length e ∙ frame_long r S form report ∙ sym (frame_long r S plain report)
