-- A buffer has at most one answer, which depends neither on chips after the frame, nor on how much
-- room there is past the report, nor on what the report buffer held. Assumes nothing.
use mathlib.Core.Path.{◌≡◌, sym, ap, ◌∙◌}
use mathlib.Core.List.{List, ◌++◌}
use Prim.Native.Nat.{ℕ, ◌≤◌}
use native.Mathlib.Omega.{arith}
use lib.ListN.{length, take, length-append}
use lib.Seq.{take_at, length-take-le}
use Rattle.codes.specs.Radio.{Radio, Sound}
use Rattle.frame.specs.Frame.{symbols}
use Rattle.reader.specs.Read.{told, answer_at, read_of}
use Rattle.demands.specs.Words.{Report, frames, OneOf, frame_read, polarity_in, frame_gap, Answers, Near}
use Rattle.demands.proofs.Demand3.{answer_room, demand_3, near_read, near_polarity}
use Rattle.demands.proofs.Path.{same_parts}
use Rattle.demands.proofs.Frames.{near_same, some_symbols, member_long, member_window}
use Rattle.demands.proofs.Fronts.{window_same}
use Rattle.demands.proofs.Gaps.{gap_same}

-- chips are near one frame at most, of one report, with one count
pub one_frame : (r : Radio) → Sound r → (chips a b f g : List ℕ) (c d : ℕ) → Report a → Report b → OneOf (frames r a) f → OneOf (frames r b) g
    → Near r chips f c → Near r chips g d → (a ≡ b) × (f ≡ g) × (c ≡ d)
one_frame r S chips a b f g c d p q k l m n =
    let e =
    sym ((demand_3 r S 127 chips a c p.short).1 (p, record { frame = f; member = k; near = m }))
    ∙ (demand_3 r S 127 chips b d q.short).1 (q, record { frame = g; member = l; near = n }) in
    let s = same_parts _ _ c d _ _ _ _ a b e in
    (s.1, near_read r S chips a f c p k m ∙ ap (frame_read r chips) s.1 ∙ sym (near_read r S chips b g d q l n), s.2)

-- other chips after the frame, as long as each of the report's is: the same answer, gap and
-- polarity included
pub after_frame : (r : Radio) → Sound r → (room : ℕ) (chips report : List ℕ) (count : ℕ) → Answers r room chips report count
    → (frame : List ℕ) → OneOf (frames r report) frame → (more : List ℕ)
    → Answers r room (take (length frame) chips ++ more) report count × (frame_gap r (take (length frame) chips ++ more) report ≡ frame_gap r chips report)
    × (polarity_in r (take (length frame) chips ++ more) ≡ polarity_in r chips)
after_frame r S room chips report count a frame m more =
    let l = answer_room r S room chips report count a in
    let near = (demand_3 r S room chips report count l).0 a in
    let f = near.1.frame in
    let k = length f in
    let same : length frame ≡ k = member_long r S report frame m ∙ sym (member_long r S report f near.1.member) in
    let t = length-take-le k chips near.1.near.long in
    let others = take k chips ++ more in
    let long : k ≤ length others = omega (arith, length-append (take k chips) more) in
    let front : take k chips ≡ take k others = sym (take_at (take k chips) more k t) in
    let still = near_same r chips others f count long front near.1.near in
    rw same (
      (demand_3 r S room others report count l).1 (near.0, record { frame = f; member = near.1.member; near = still }),
      gap_same r others chips (length (symbols r report)) (some_symbols r S report)
          (λ j h. window_same r j k others chips (member_window r S report f near.1.member j h) (sym front)),
      near_polarity r S others report f count near.0 near.1.member still
          ∙ sym (near_polarity r S chips report f count near.0 near.1.member near.1.near),
    )

-- another room that has place for the report: the same answer
pub any_room : (r : Radio) → Sound r → (room : ℕ) (chips report : List ℕ) (count : ℕ) → Answers r room chips report count
    → (other : ℕ) → length report ≤ other → Answers r other chips report count
any_room r S room chips report count a other h =
    (demand_3 r S other chips report count h).1 ((demand_3 r S room chips report count (answer_room r S room chips report count a)).0 a)

-- another report buffer of that length: the same answer
pub any_buffer : (mode : ℕ) (chips b c : List ℕ) → length b ≡ length c → (read_of mode chips b).answer ≡ (read_of mode chips c).answer
any_buffer mode chips b c e = ap (λ (n : ℕ). told (answer_at mode n chips)) e
