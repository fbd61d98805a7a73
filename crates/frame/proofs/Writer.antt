-- The four ways of the writer, over plain values. Assumes nothing.
use mathlib.Core.Path.{◌≡◌, sym, ap, ◌∙◌}
use mathlib.Core.Bool.{true, false}
use mathlib.Core.List.{List, ◌++◌}
use Prim.Native.Nat.{ℕ, ◌+◌, ◌*◌, ◌≤◌, ◌<◌}
use native.Mathlib.Omega.{arith}
use lib.ListN.{length, drop}
use lib.Dec.{ltb}
use borrow.Author.Tests.{lt-ltb, le-ltb, ltb-false}
use Rattle.codes.specs.Numbers.{DONE, BADMODE, TOOLONG, NOROOM}
use Rattle.codes.specs.Radio.{known, radio_of}
use Rattle.codes.proofs.Tests.{by_test}
use Rattle.codes.proofs.Facts.{sound}
use Rattle.frame.specs.Outcome.{Outcome, outcome}
use Rattle.frame.specs.Frame.{plain, frame}
use Rattle.frame.specs.declared.Written.{Written}
use Rattle.frame.specs.Write.{refused, written}
use Rattle.frame.specs.Putting.{octet_chips}
use Rattle.frame.proofs.Modes.{few_chips}
use Rattle.frame.proofs.Count.{frame_long}

module _ (mode : ℕ) (report buffer : List ℕ) where
  pub no_radio : known mode ≡ false → outcome (refused BADMODE) buffer ≡ written mode report buffer
  unfolding written
  no_radio k = rw k

  module _ (m : known mode ≡ true) where
    pub too_long : 127 < length report → outcome (refused TOOLONG) buffer ≡ written mode report buffer
    unfolding written
    too_long h = rw (m, lt-ltb 127 (length report) h)

    module _ (l : length report ≤ 127) (count : ℕ) (e : count ≡ (6 + length report) * octet_chips (radio_of mode)) where
      is_count : length (frame (radio_of mode) report) ≡ count
      is_count = frame_long (radio_of mode) (sound mode) plain report ∙ sym e

      pub few : count ≤ 15960
      few = rw e (few_chips mode (length report) l)

      pub no_room : length buffer < count → outcome (refused NOROOM) buffer ≡ written mode report buffer
      unfolding written
      no_room h = rw (m, le-ltb 127 (length report) l, is_count, lt-ltb (length buffer) count h)

      pub done : count ≤ length buffer → (part : List ℕ) → part ≡ frame (radio_of mode) report
          → outcome (record { number = DONE; chips = count }) (part ++ drop count buffer) ≡ written mode report buffer
      unfolding written
      done h part w = rw (m, le-ltb 127 (length report) l, is_count, le-ltb (length buffer) count h, w)

-- the chips that it counts are in the buffer, which keeps its length
pub chips_fit : (mode : ℕ) (report buffer : List ℕ) (w : Written) (b : List ℕ)
    → outcome w b ≡ written mode report buffer → length b ≡ length buffer → w.chips ≤ length b
unfolding written
chips_fit mode report buffer w b e k =
    rw (k, ap (λ (o : Outcome Written). o.answer.chips) e)
    (by_test (known mode)
    (λ m. by_test (ltb 127 (length report))
    (λ l. rw (m, l) (omega arith))
    (λ l. by_test (ltb (length buffer) (length (frame (radio_of mode) report))) (λ r. rw (m, l, r) (omega arith)) (λ r. rw (m, l, r) (ltb-false _ _ r))))
    (λ m. rw m (omega arith)))
