-- An accepted buffer with one wrong chip of its frame put right is accepted with the same report
-- and polarity, a count one less and no smaller a gap. Assumes nothing.
use mathlib.Core.Path.{◌≡◌, sym, ap, ◌∙◌}
use mathlib.Core.Bool.{false}
use mathlib.Core.List.{List}
use Prim.Native.Nat.{ℕ, suc, ◌*◌, ◌≤◌, ◌<◌}
use native.Mathlib.Omega.{arith}
use lib.ListN.{length, get_or, set, take, length-set}
use lib.Seq.{take-set-lt, get_or-take, length-take-le}
use Rattle.codes.specs.Chips.{distance, bad}
use Rattle.codes.specs.Radio.{Radio, Sound}
use Rattle.codes.proofs.Chips.{chip_at_lem}
use Rattle.demands.specs.Words.{frames, OneOf, polarity_in, frame_gap, Answers, Near}
use Rattle.demands.proofs.Demand3.{answer_room, demand_3, near_polarity}
use Rattle.demands.proofs.Repair.{one_less, between, bad_set}
use Rattle.demands.proofs.HowClose.{right_gap}
use Rattle.demands.proofs.Forms.{sent_as}
use Rattle.demands.proofs.Frames.{member_good}

-- chips near a frame, with one wrong chip put right, are near it with a count one less
nearer : (r : Radio) (chips frame : List ℕ) (count : ℕ) → bad frame ≡ false → Near r chips frame count → (i : ℕ) → i < length frame
    → (get_or chips i 0 ≡ get_or frame i 0 → ⊥) → (c : ℕ) × (count ≡ suc c) × Near r (set chips i (get_or frame i 0)) frame c
nearer r chips frame count good n i h w =
    let x = get_or frame i 0 in
    let k = length frame in
    let first : take k (set chips i x) ≡ set (take k chips) i x = take-set-lt k chips i x h in
    let less = one_less (take k chips) frame i h (omega (arith, length-take-le k chips n.long)) (λ e. w (sym (get_or-take k chips i 0 h) ∙ e)) in (
      distance (set (take k chips) i x) frame,
      n.sum ∙ less,
      record {
        long = rw length-set n.long;
        chip = rw first (bad_set (take k chips) i x (chip_at_lem frame good i) n.chip);
        near = λ s l. omega (arith, between (s * r.size) r.size chips frame i h, n.near s l);
        sum = ap (λ (ys : List ℕ). distance ys frame) (sym first);
      },
    )

-- One wrong chip of an accepted frame put right, of that one of the report's frames which the chips
-- are near: the same report and polarity, a count one less, and no smaller a gap.
pub put_right : (r : Radio) → Sound r → (room : ℕ) (chips report : List ℕ) (count : ℕ) → Answers r room chips report count
    → (frame : List ℕ) → OneOf (frames r report) frame → Near r chips frame count
    → (i : ℕ) → i < length frame → (get_or chips i 0 ≡ get_or frame i 0 → ⊥)
    → (c : ℕ) × (count ≡ suc c) × Answers r room (set chips i (get_or frame i 0)) report c
    × (frame_gap r chips report ≤ frame_gap r (set chips i (get_or frame i 0)) report) × (polarity_in r (set chips i (get_or frame i 0)) ≡ polarity_in r chips)
put_right r S room chips report count a frame m near i h w =
    let l = answer_room r S room chips report count a in
    let p = ((demand_3 r S room chips report count l).0 a).0 in
    let n = nearer r chips frame count (member_good r S report frame m) near i h w in
    let others = set chips i (get_or frame i 0) in (
      n.0,
      n.1,
      (demand_3 r S room others report n.0 l).1 (p, record { frame = frame; member = m; near = n.2 }),
      right_gap r S report frame (sent_as r report frame m) chips count near i n.0 h n.2,
      near_polarity r S others report frame n.0 p m n.2 ∙ sym (near_polarity r S chips report frame count p m near),
    )
