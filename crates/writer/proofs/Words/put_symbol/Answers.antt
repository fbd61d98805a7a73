-- `put_symbol` meets its contract: the run that it copies is the symbol's word. Assumes nothing.
use Rattle.std.proofs.Common.{◌≡◌, ℕ, ◌+◌, ◌-◌, ◌<◌, true, List, length, take, drop, sym, ap, ◌∙◌, arith}
use Rattle.codes.specs.Radio.{known, radio_of, word}
use Rattle.codes.proofs.Facts.{sound}
use Rattle.strips.specs.Strip.{strip_at, row_at}
use Rattle.strips.proofs.Runs.{strip_row, strip_fits}
use Rattle.frame.proofs.Modes.{row_size, few_size}
use Rattle.writer.proofs.Words.put_symbol.Goals as goal

run : (mode : ℕ) → known mode ≡ true → (strip : List ℕ) → strip ≡ strip_at mode → (v : ℕ) → v < length (radio_of mode).words
    → (row size : ℕ) → row ≡ row_at mode v → size ≡ (radio_of mode).size → take (row + size - row) (drop row strip) ≡ word (radio_of mode) v
run mode m strip t v h row size b e = let k : row + size - row ≡ (radio_of mode).size = omega arith in
    rw (k, t, b) (strip_row mode m v h)

pub overflow_add-row : goal.overflow_add-row
overflow_add-row g c =
    let k = g.M.Mode.is_known in
    let z = row_size g.M.Mode.NUMBER k _ (rw c.NUMBER-mode.ensures at c.phy_of-size.ensures) in
    let b = rw c.NUMBER-mode.ensures at c.row_of-row.ensures in
    omega (arith, z, b, strip_fits g.M.Mode.NUMBER k _ c.requires.word)

pub slice_bounds-copy_word-end : goal.slice_bounds-copy_word-end
slice_bounds-copy_word-end g c =
    let k = g.M.Mode.is_known in
    let z = row_size g.M.Mode.NUMBER k _ (rw c.NUMBER-mode.ensures at c.phy_of-size.ensures) in
    let b = rw c.NUMBER-mode.ensures at c.row_of-row.ensures in
    omega (arith, z, b, strip_fits g.M.Mode.NUMBER k _ c.requires.word)

pub copy_word-requires : goal.copy_word-requires
copy_word-requires g c =
    let k = g.M.Mode.is_known in
    let h = c.requires.word in
    let z = row_size g.M.Mode.NUMBER k _ (rw c.NUMBER-mode.ensures at c.phy_of-size.ensures) in
    let b = rw c.NUMBER-mode.ensures at c.row_of-row.ensures in
    let w = run g.M.Mode.NUMBER k _ c.args.self.now.laid _ h _ _ b z in
    let l = ap length w ∙ (sound g.M.Mode.NUMBER).sized _ h in
    record { few = omega (arith, few_size g.M.Mode.NUMBER); room = c.requires.room ∙ sym l }

pub returns : goal.returns
returns g c =
    let k = g.M.Mode.is_known in
    let z = row_size g.M.Mode.NUMBER k _ (rw c.NUMBER-mode.ensures at c.phy_of-size.ensures) in
    let b = rw c.NUMBER-mode.ensures at c.row_of-row.ensures in
    c.copy_word.ensures ∙ run g.M.Mode.NUMBER k _ c.args.self.now.laid _ c.requires.word _ _ b z
