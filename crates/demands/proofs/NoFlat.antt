-- No symbol of an accepted frame is flat, all 0 or all 1: for any sound radio whose words are all
-- farther than the limit from both flat words. Assumes nothing.
use mathlib.Core.Path.{◌≡◌}
use mathlib.Core.List.{List}
use Prim.Native.Nat.{ℕ, ◌≤◌, ◌<◌}
use native.Mathlib.Omega.{arith}
use lib.ListN.{length, get_or, replicate}
use Rattle.codes.specs.Chips.{distance}
use Rattle.codes.specs.Radio.{Radio, Sound, Unflat, word}
use Rattle.frame.specs.Frame.{symbols, symbols_with}
use Rattle.frame.proofs.Count.{symbols_same}
use Rattle.order.specs.Order.{window, whole}
use Rattle.demands.specs.Words.{Answers, form_in}
use Rattle.demands.proofs.Demand3.{answer_frame}
use Rattle.demands.proofs.Frames.{symbol_known, window_in, frame_window}

-- No symbol of an accepted frame is all 0 or all 1.
pub no_flat : (r : Radio) → Sound r → Unflat r → (room : ℕ) (chips report : List ℕ) (count : ℕ) → Answers r room chips report count
    → (s : ℕ) → s < length (symbols r report) → (c : ℕ) → c ≤ 1 → window r chips s ≡ replicate r.size c → ⊥
no_flat r S U room chips report count a s h c l e =
    let form = form_in r (whole r chips) in
    let vs = symbols_with r form report in
    let q : s < length vs = rw (symbols_same r form report) h in
    let near = (answer_frame r S room chips report count a).1.near s (window_in r S form report s q) in
    let close : distance (replicate r.size c) (word r (get_or vs s 0)) ≤ r.limit = rw (e, frame_window r S form report s q) at near in
    omega (arith, U c (get_or vs s 0) l (symbol_known r S form report s q))
