-- Raw symbols at which nothing is wrong, as many as the length octet says, are those of a frame of
-- the report in them: the one with the reserved bit that they have. For any sound radio. Assumes
-- nothing.
use mathlib.Core.Path.{◌≡◌, sym, ◌∙◌}
use mathlib.Core.List.{List}
use Prim.Native.Nat.{ℕ, suc, ◌+◌, ◌-◌, ◌*◌, ◌/◌, ◌^◌, ◌≤◌, ◌<◌}
use native.Mathlib.Nat.{suc-mul, add-mul, mul-le-mul_right}
use native.Mathlib.Omega.{arith}
use lib.ListN.{length, get_or, take, drop, length-take}
use lib.Seq.{get_or-take, get_or-drop}
use Rattle.codes.specs.Radio.{Radio, Sound}
use Rattle.codes.proofs.Rows.{row_in}
use Rattle.frame.specs.Frame.{start_octet, octets_with, per_octet, raws}
use Rattle.frame.proofs.Below.{Below, at_below, below_at}
use Rattle.order.specs.Received.{octet_at, octets_from}
use Rattle.order.specs.Order.{length_in, report_in}
use Rattle.demands.specs.Words.{Report}
use Rattle.demands.proofs.Digits.{value_nought}
use Rattle.demands.proofs.Octet.{raws_octets, octets_below, octet_take}
use Rattle.order.proofs.Raw.{octets_long, per_positive}
use Rattle.order.proofs.Rules.{Clear}

module _ (r : Radio) (S : Sound r) (room : ℕ) (bs : List ℕ) (p : Below (2 ^ r.bits) bs)
    (clear : (s : ℕ) → s < length bs → Clear (per_octet r) room s (get_or bs s 0) (octet_at r 4 (take (suc s) bs)) (length_in r (take (suc s) bs)))
    (long : length bs ≡ (6 + length_in r bs) * per_octet r) where
  abbrev n : ℕ
  n = length_in r bs

  abbrev bit : ℕ
  bit = octet_at r 5 bs / 128

  enough : 6 * per_octet r ≤ length bs
  enough = omega (arith, long, add-mul 6 n (per_octet r))

  -- octet k has a last symbol, which is among them
  last_of : (k : ℕ) → k < 6 → (s : ℕ) × (suc s ≡ suc k * per_octet r) × (s < length bs)
  last_of k h =
      let q = per_positive r S in
      let m = suc-mul k (per_octet r) in
      let e : suc (k * per_octet r + (per_octet r - 1)) ≡ suc k * per_octet r = omega arith in
      (k * per_octet r + (per_octet r - 1), e, omega (arith, e, enough, mul-le-mul_right (per_octet r) h))

  preamble_octet : (k : ℕ) → k < 4 → octet_at r k bs ≡ 0
  preamble_octet k h =
      value_nought (2 ^ r.bits) (take (per_octet r) (drop (k * per_octet r) bs)) (at_below 1 (take (per_octet r) (drop (k * per_octet r) bs)) each)
    where
      each : (i : ℕ) → i < length (take (per_octet r) (drop (k * per_octet r) bs)) → get_or (take (per_octet r) (drop (k * per_octet r) bs)) i 0 < 1
      each i l =
          let w : i < per_octet r = omega (arith, l, length-take (per_octet r) (drop (k * per_octet r) bs)) in
          let u : k * per_octet r + i < 4 * per_octet r = omega (arith, row_in k 4 (per_octet r) h) in
          omega (
            arith,
            get_or-take (per_octet r) (drop (k * per_octet r) bs) i 0 w,
            get_or-drop (k * per_octet r) bs i 0,
            (clear (k * per_octet r + i) (omega (arith, enough))).preamble u,
          )

  start_octet_lem : octet_at r 4 bs ≡ start_octet
  start_octet_lem = go (last_of 4 (omega arith))
    where
      go : (s : ℕ) × (suc s ≡ 5 * per_octet r) × (s < length bs) → octet_at r 4 bs ≡ start_octet
      go (s, e, h) = sym (octet_take r 4 (suc s) bs (omega arith)) ∙ (clear s h).started e

  -- n has room
  roomy : n ≤ room
  roomy = go (last_of 5 (omega arith))
    where
      go : (s : ℕ) × (suc s ≡ 6 * per_octet r) × (s < length bs) → n ≤ room
      go (s, e, h) = omega (arith, octet_take r 5 (suc s) bs (omega arith), (clear s h).fits e)

  -- the length octet is n and the reserved bit
  length_octet : octet_at r 5 bs ≡ n + 128 * bit
  length_octet = omega arith

  pub found_bit : bit ≤ 1
  unfolding octets_from
  found_bit = omega (arith, (octets_below r S 5 1 bs p).0)

  report_long : length (report_in r bs) ≡ n
  report_long = octets_long r 6 n bs

  -- the octets of the frame
  frame_octets : octets_with bit (report_in r bs) ≡ octets_from r 0 (6 + n) bs
  unfolding octets_from
  frame_octets =
      let e : 6 + n ≡ suc (suc (suc (suc (suc (suc n))))) = omega arith in
      rw (
        e,
        preamble_octet 0 (omega arith),
        preamble_octet 1 (omega arith),
        preamble_octet 2 (omega arith),
        preamble_octet 3 (omega arith),
        start_octet_lem,
        report_long,
        ← length_octet,
      )

  -- it has room
  pub found_room : length (report_in r bs) ≤ room
  found_room = omega (arith, report_long, roomy)

  -- it is a report
  pub found_report : Report (report_in r bs)
  found_report =
      record { short = omega (arith, report_long); octets = below_at 256 (report_in r bs) (octets_below r S 6 n bs p) }

  -- and they are its raw symbols
  pub found_raws : raws r (octets_with bit (report_in r bs)) ≡ bs
  found_raws = rw frame_octets (raws_octets r S (6 + n) bs p long)
