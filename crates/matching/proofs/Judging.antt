-- What `judge` makes of what `nearest` gives is the symbol of the bits. Once over the radio.
-- Assumes nothing.
use mathlib.Core.Path.{◌≡◌, refl, ap, ◌∙◌}
use mathlib.Core.Bool.{true, false}
use mathlib.Core.List.{List}
use Prim.Native.Nat.{ℕ, ◌+◌, ◌*◌, ◌/◌, ◌%◌, ◌^◌, ◌≤◌, ◌<◌}
use native.Mathlib.Omega.{arith}
use lib.ListN.{length}
use lib.Dec.{leb, ltb}
use borrow.Author.Tests.{leb-true, ltb-true}
use Rattle.codes.specs.Chips.{bad}
use Rattle.codes.specs.Radio.{Radio, word, radio_of, known}
use Rattle.codes.specs.declared.Symbol.{Symbol}
use Rattle.codes.specs.Symbol.{nearest, nearest_word, next_nearest, symbol_of}
use Rattle.codes.specs.Gathered.{layout_of, chip_in, chips_in, symbol_in}
use Rattle.codes.specs.Near.{nearest_of, nearest_in}
use Rattle.matching.specs.Judged.{judged, judged_at}
use Rattle.codes.proofs.Tests.{by_test}
use Rattle.codes.proofs.Modes.{row_test}
use Rattle.codes.proofs.Chips.{distance_le}
use Rattle.codes.proofs.Gathering.{Loop, loop_ends, listed_long, chips_in_lem}
use Rattle.codes.proofs.Unique.{some_words}
use Rattle.codes.proofs.Facts.{sound}
use Rattle.codes.proofs.Leasts.{nearest_at}

-- three numbers in one
three : (n d v : ℕ) → d < 64 → v < 16
    → ((n * 1024 + d * 16 + v) % 16 ≡ v) × ((n * 1024 + d * 16 + v) / 16 % 64 ≡ d) × ((n * 1024 + d * 16 + v) / 1024 ≡ n)
three n d v h l =
    let e : (n * 1024 + d * 16 + v) / 16 ≡ n * 64 + d = omega arith in
    (omega arith, rw e (omega arith), omega arith)

-- of at most sixteen words of fewer than 64 chips the one number holds all three
judged_near : (r : Radio) → 0 < length r.words → length r.words ≤ 16 → (xs : List ℕ) → bad xs ≡ false → length xs < 64
    → judged r.limit (nearest_of r xs) ≡ symbol_of r xs
unfolding judged nearest_of symbol_of
judged_near r some few xs b short =
    let w = nearest_at r xs some in
    let l : nearest r xs < 64 = omega (arith, w.1, distance_le xs (word r (nearest_word r xs))) in
    let t = three (next_nearest r xs) (nearest r xs) (nearest_word r xs) l (omega (arith, w.0)) in
    rw (b, t.0, t.1, t.2)

-- so what `judge` makes of what `nearest` gives is the symbol of the bits
pub near_symbol : (mode bits : ℕ) → judged_at mode (nearest_in mode bits) ≡ symbol_in mode bits
unfolding judged_at nearest_in symbol_in
near_symbol mode bits =
    by_test (known mode)
    (λ k. rw k
    (judged_near (radio_of mode) (some_words (radio_of mode) (sound mode))
    (rw (sound mode).many (leb-true _ _ (row_test (λ r. leb (2 ^ r.bits) 16) refl mode)))
    (chips_in (radio_of mode) bits) (chips_in_lem (layout_of (radio_of mode)) bits (radio_of mode).size)
    (rw (listed_long (chip_in (layout_of (radio_of mode)) bits) (radio_of mode).size) (ltb-true _ _ (row_test (λ r. ltb r.size 64) refl mode)))))
    (λ k. rw k)

-- and after the last eight of a part it is the part's
pub judged_part : (mode : ℕ) → known mode ≡ true → (part : List ℕ) → length part ≡ (radio_of mode).size → {k bits : ℕ} → 4 ≤ k → Loop mode part k bits
    → {near : ℕ} → near ≡ nearest_in mode bits → {x : Symbol} → x ≡ judged_at mode near → x ≡ symbol_of (radio_of mode) part
judged_part mode m part long {k} {bits} h L n e =
    e ∙ ap (judged_at mode) n ∙ near_symbol mode bits ∙ loop_ends mode m part long k bits h L
