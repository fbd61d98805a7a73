-- How far the reader's loop has come in a chip buffer, over plain values: so far in the buffer's
-- windows, at the place of the next one. Assumes nothing.
use mathlib.Core.Path.{◌≡◌, sym, ap, ◌∙◌}
use mathlib.Core.Bool.{true}
use mathlib.Core.List.{List, []}
use Prim.Native.Nat.{ℕ, ◌+◌, ◌-◌, ◌*◌, ◌≤◌, ◌<◌}
use native.Mathlib.Nat.{zero-mul, suc-mul}
use native.Mathlib.Omega.{arith}
use lib.ListN.{length, get_or, take, drop}
use lib.Dec.{eqb}
use Rattle.codes.specs.Numbers.{DONE, NOCHIP, MORE}
use Rattle.codes.specs.Chips.{pick, bad}
use Rattle.codes.specs.Radio.{Radio, Sound}
use Rattle.codes.specs.Symbol.{symbol_of}
use Rattle.codes.specs.declared.Symbol.{Symbol}
use Rattle.frame.specs.Frame.{per_octet}
use Rattle.order.specs.declared.Hand.{Hand}
use Rattle.order.specs.Order.{whole, reading}
use Rattle.order.specs.Taking.{begun, stopped, advanced, onward, roomed, kept_in}
use Rattle.reader.specs.Telling.{Tells}
use Rattle.order.proofs.Raw.{size_pos}
use Rattle.order.proofs.Windows.{window_next, window_is, window_out}
use Rattle.order.proofs.Turns.{Small}
use Rattle.reader.proofs.Sofar.{Sofar, starts, out, bad_window, symbol_taken}

pub record Scanning (r : Radio) (room : ℕ) (chips octets : List ℕ) (h : Hand) (at : ℕ) : Type 0 where
  pub sofar : Sofar r room (whole r chips) octets h
  pub place : at ≡ h.taken * r.size
  pub upto : at ≤ length chips

pub scan_starts : (r : Radio) → Sound r → (room : ℕ) (chips octets : List ℕ) → length octets ≡ 127 → Scanning r room chips octets begun 0
scan_starts r S room chips octets o =
    record { sofar = starts r S room (whole r chips) octets o; place = sym (zero-mul r.size); upto = omega arith }

-- after a turn: on with the next symbol, or ended
abbrev pub Turning : Radio → ℕ → List ℕ → List ℕ → Hand → ℕ → Type 0
Turning r room chips octets g at =
    (g.number ≡ MORE → Scanning r room chips octets g at) × ((g.number ≡ MORE → ⊥) → Tells r room (reading r room chips) octets g)

module _ (r : Radio) (S : Sound r) (room : ℕ) (chips octets : List ℕ) (h : Hand) (at : ℕ) (L : Scanning r room chips octets h at) where
  pub scan_out : length chips - at < r.size → Tells r room (reading r room chips) octets h
  unfolding reading
  scan_out l = out r S room (whole r chips) octets h L.sofar (window_out r chips (size_pos r S) h.taken at L.place L.upto l)

  module _ (l : r.size ≤ length chips - at) where
    next : h.taken < length (whole r chips)
    next = window_next r chips (size_pos r S) h.taken at L.place L.upto l

    is_window : take r.size (drop at chips) ≡ get_or (whole r chips) h.taken []
    is_window = window_is r chips (size_pos r S) h.taken at L.place L.upto l

    pub scan_bad : bad (take r.size (drop at chips)) ≡ true → Tells r room (reading r room chips) octets (stopped NOCHIP h)
    unfolding reading
    scan_bad b = bad_window r S room (whole r chips) octets h L.sofar next (rw is_window at b)

    -- the hand after a turn, and the octets with it
    module _ (small : Small r) (y : Symbol) (i : y ≡ symbol_of r (take r.size (drop at chips))) (g : Hand)
        (e : g ≡ roomed room h (pick (eqb y.number DONE) (advanced r h y) (stopped y.number h)))
        (kept : List ℕ) (k : kept ≡ onward g.number (kept_in (per_octet r) g octets) octets) where
      pub turned_scan : Turning r room chips kept g (at + r.size)
      unfolding reading
      turned_scan =
          let way = symbol_taken r S room (whole r chips) octets h L.sofar next small y (i ∙ ap (symbol_of r) is_window) g e kept k in (
            λ m.
                let w = way.0 m in
                record { sofar = w.1; place = rw w.0 (omega (arith, suc-mul h.taken r.size, L.place)); upto = omega (arith, L.upto) },
            way.1,
          )
