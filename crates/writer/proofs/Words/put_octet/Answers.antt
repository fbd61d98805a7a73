-- `put_octet` meets its contract: what is written, and behind it what is still to be written, stay
-- the octet's chips (`OctetLeft`). Assumes nothing.
use Rattle.std.proofs.Common.{◌≡◌, ◌+◌, ◌*◌, ◌<◌, ◌≤◌, ℕ, ◌/◌, ap, ◌∙◌, arith, pow_pos, mod-lt, length-drop, length-take-le}
use Rattle.codes.specs.Radio.{Radio, radio_of}
use Rattle.codes.proofs.Facts.{sound}
use Rattle.codes.proofs.Rows.{row_in}
use Rattle.frame.specs.Frame.{per_octet}
use Rattle.frame.specs.Putting.{octet_chips}
use Rattle.frame.proofs.Modes.{few_octet, row_size, row_per, row_values}
use Rattle.frame.proofs.Count.{sent_below}
use Rattle.frame.proofs.Turns.{octet_ends, octet_turns}
use Rattle.writer.proofs.Words.put_octet.Goals as goal

pub nonzero_rem-rest : goal.nonzero_rem-rest
nonzero_rem-rest g c =
    let z = rw c.NUMBER.ensures at c.phy_of-phy.ensures in
    rw (row_values g.M.Mode.NUMBER g.M.Mode.is_known _ z) (pow_pos (radio_of g.M.Mode.NUMBER).bits)

pub sent_symbol-v-requires : goal.sent_symbol-v-requires
sent_symbol-v-requires g c =
    let z = rw c.NUMBER.ensures at c.phy_of-phy.ensures in (
      c.loop-i.invariant.value,
      rw (row_values g.M.Mode.NUMBER g.M.Mode.is_known _ z) (mod-lt _ (pow_pos (radio_of g.M.Mode.NUMBER).bits)),
    )

pub nonzero_div-rest : goal.nonzero_div-rest
nonzero_div-rest g c =
    let z = rw c.NUMBER.ensures at c.phy_of-phy.ensures in
    rw (row_values g.M.Mode.NUMBER g.M.Mode.is_known _ z) (pow_pos (radio_of g.M.Mode.NUMBER).bits)

-- a symbol's chips lie within the octet's
fits : (r : Radio) (i size n : ℕ) → size ≡ r.size → n ≡ octet_chips r → i < per_octet r → i * size + size ≤ n
fits r i size n z e h = rw (e, ← z) (row_in i (per_octet r) size h)

pub overflow_mul-at : goal.overflow_mul-at
overflow_mul-at g c =
    let m = g.M.Mode.NUMBER in
    let k = g.M.Mode.is_known in
    let z = rw c.NUMBER.ensures at c.phy_of-phy.ensures in
    let h : c.loop-i.i < per_octet (radio_of m) = omega (arith, row_per m k _ z) in
    omega (arith, fits (radio_of m) _ _ _ (row_size m k _ z) c.requires.room h, few_octet m, c.requires.room)

pub overflow_add-at : goal.overflow_add-at
overflow_add-at g c =
    let m = g.M.Mode.NUMBER in
    let k = g.M.Mode.is_known in
    let z = rw c.NUMBER.ensures at c.phy_of-phy.ensures in
    let h : c.loop-i.i < per_octet (radio_of m) = omega (arith, row_per m k _ z) in
    omega (arith, fits (radio_of m) _ _ _ (row_size m k _ z) c.requires.room h, few_octet m, c.requires.room)

pub slice_bounds-put_symbol-end : goal.slice_bounds-put_symbol-end
slice_bounds-put_symbol-end g c =
    let m = g.M.Mode.NUMBER in
    let k = g.M.Mode.is_known in
    let z = rw c.NUMBER.ensures at c.phy_of-phy.ensures in
    let h : c.loop-i.i < per_octet (radio_of m) = omega (arith, row_per m k _ z) in
    omega (arith, fits (radio_of m) _ _ _ (row_size m k _ z) c.requires.room h)

pub put_symbol-requires : goal.put_symbol-requires
put_symbol-requires g c =
    let m = g.M.Mode.NUMBER in
    let k = g.M.Mode.is_known in
    let z = rw c.NUMBER.ensures at c.phy_of-phy.ensures in
    let h : c.loop-i.i < per_octet (radio_of m) = omega (arith, row_per m k _ z) in
    let e = rw (row_values m k _ z) at c.sent_symbol-v.ensures in
    let l = c.loop-i.auto.out ∙ c.requires.room in
    let n = fits (radio_of m) _ _ _ (row_size m k _ z) l h in
    record {
      word = rw ((sound m).many, e) (sent_below (radio_of m) (sound m) _ _ (mod-lt _ (pow_pos (radio_of m).bits)));
      room = length-take-le _ _ (simp length-drop (omega arith)) ∙ omega (arith, row_size m k _ z);
    }

pub loop-i-preserved : goal.loop-i-preserved
loop-i-preserved g c =
    let m = g.M.Mode.NUMBER in
    let k = g.M.Mode.is_known in
    let z = rw c.NUMBER.ensures at c.phy_of-phy.ensures in
    let h : c.loop-i.i < per_octet (radio_of m) = omega (arith, row_per m k _ z) in
    let e = rw (row_values m k _ z) at c.sent_symbol-v.ensures in
    octet_turns (radio_of m) _ _ _ _ _ _ c.loop-i.invariant (c.loop-i.auto.out ∙ c.requires.room) h (sound m) _ _ e
    (ap (λ (b : ℕ). c.loop-i.rest / b) (row_values m k _ z)) _ _ _ (ap (λ (n : ℕ). c.loop-i.i * n) (row_size m k _ z)) c.put_symbol.ensures

pub returns : goal.returns
returns g c =
    let m = g.M.Mode.NUMBER in
    let z = rw c.NUMBER.ensures at c.phy_of-phy.ensures in
    let all : c.loop-i.i ≡ per_octet (radio_of m) = omega (arith, row_per m g.M.Mode.is_known _ z) in
    let e = octet_ends (radio_of m) _ _ _ _ _ _ c.loop-i.invariant (c.loop-i.auto.out ∙ c.requires.room) all in
    record { value = e.0; out = e.1 }
