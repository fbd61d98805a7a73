-- One symbol more at a mode, for the stepping receiver, and the laws of the reader's loop at a
-- mode, over what the functions that it calls promise. Assumes nothing.
use mathlib.Core.Path.{◌≡◌, refl, sym, ap, ◌∙◌}
use mathlib.Core.Bool.{true}
use mathlib.Core.List.{List, []}
use Prim.Native.Nat.{ℕ, suc, ◌+◌, ◌-◌, ◌≤◌, ◌<◌}
use native.Mathlib.Omega.{arith}
use lib.ListN.{length, get_or, take, drop}
use lib.Dec.{eqb, leb}
use borrow.Author.Tests.{leb-true, le-ltb}
use Rattle.codes.specs.Numbers.{DONE, NOCHIP, MORE}
use Rattle.codes.specs.Chips.{pick, bad}
use Rattle.codes.specs.Radio.{known, radio_of}
use Rattle.codes.specs.Symbol.{symbol_of}
use Rattle.codes.specs.declared.Symbol.{Symbol}
use Rattle.codes.proofs.Modes.{row_test}
use Rattle.codes.proofs.Facts.{sound}
use Rattle.order.specs.declared.Hand.{Hand}
use Rattle.order.specs.Order.{reading}
use Rattle.order.specs.Taking.{begun, stopped, advanced, followed, roomed, kept_at}
use Rattle.reader.specs.Telling.{Tells}
use Rattle.order.proofs.Raw.{size_pos}
use Rattle.order.proofs.Steps.{followed_stops, kept_stops}
use Rattle.order.proofs.Carried.{Carries}
use Rattle.order.proofs.Turns.{Small, Open, Turned, next_hand, room_for_any}
use Rattle.reader.proofs.Sofar.{Sofar, Ways, symbol_taken}
use Rattle.reader.proofs.Scanning.{Scanning, Turning, scan_starts, scan_out, scan_bad, turned_scan}

small : (mode : ℕ) → Small (radio_of mode)
small mode =
    record {
      low = leb-true _ _ (row_test (λ r. leb r.limit 255) refl mode);
      short = leb-true _ _ (row_test (λ r. leb r.size 255) refl mode);
    }

-- `followed` is what the test of room, with room for every report, leaves as it is
followed_is : (mode : ℕ) → known mode ≡ true → (h : Hand) (x : Symbol) → h.length ≤ 127
    → followed mode h x ≡ roomed 127 h (pick (eqb x.number DONE) (advanced (radio_of mode) h x) (stopped x.number h))
unfolding followed
followed_is mode m h x l = rw m (sym (room_for_any (radio_of mode) h x l))

-- a hand that carries the symbols before and wants more, and the symbol of any window
pub followed_turned : (mode : ℕ) → known mode ≡ true → (before : List Symbol) (h : Hand)
    → Carries (radio_of mode) before h → Open (radio_of mode) 127 h → (w : List ℕ)
    → Turned (radio_of mode) 127 before (symbol_of (radio_of mode) w) (followed mode h (symbol_of (radio_of mode) w))
followed_turned mode m before h C O w =
    let x = symbol_of (radio_of mode) w in
    next_hand (radio_of mode) (sound mode) (small mode) 127 before h C O w x refl (followed mode h x) (followed_is mode m h x O.few)

-- one symbol more of a list of windows
pub symbol_followed : (mode : ℕ) → known mode ≡ true → (ws : List (List ℕ)) (octets : List ℕ) (h : Hand)
    → Sofar (radio_of mode) 127 ws octets h → h.taken < length ws
    → (g : Hand) → g ≡ followed mode h (symbol_of (radio_of mode) (get_or ws h.taken [])) → Ways (radio_of mode) 127 ws (kept_at mode g octets) (suc h.taken) g
unfolding kept_at
symbol_followed mode m ws octets h L next g e =
    let x = symbol_of (radio_of mode) (get_or ws h.taken []) in
    symbol_taken (radio_of mode) (sound mode) 127 ws octets h L next (small mode) x
    refl g (e ∙ followed_is mode m h x L.goes.few) (kept_at mode g octets) (rw m)

pub size_positive : (mode size : ℕ) → size ≡ (radio_of mode).size → 0 < size
size_positive mode size e = rw e (size_pos (radio_of mode) (sound mode))

module _ (mode : ℕ) (m : known mode ≡ true) (room : ℕ) (chips : List ℕ) where
  pub starts : (octets : List ℕ) (h : Hand) → h ≡ begun → length octets ≡ 127 → Scanning (radio_of mode) room chips octets h 0
  starts octets h e o = rw e (scan_starts (radio_of mode) (sound mode) room chips octets o)

  module _ (octets : List ℕ) (h : Hand) (at size : ℕ) (is : size ≡ (radio_of mode).size) (L : Scanning (radio_of mode) room chips octets h at) where
    pub runs_out : length chips - at < size → Tells (radio_of mode) room (reading (radio_of mode) room chips) octets h
    runs_out l = scan_out (radio_of mode) (sound mode) room chips octets h at L (rw is at l)

    module _ (l : size ≤ length chips - at) where
      -- the symbol's chips, as they are lent
      module _ (part : List ℕ) (ep : part ≡ take (at + size - at) (drop at chips)) where
        part_is : part ≡ take (radio_of mode).size (drop at chips)
        part_is = let n : at + size - at ≡ (radio_of mode).size = omega (arith, is) in rw n at ep

        -- the loop over their eights leaves both loops where a byte is no chip
        pub eights_stop : bad part ≡ true → (g : Hand) → g ≡ stopped NOCHIP h → Tells (radio_of mode) room (reading (radio_of mode) room chips) octets g
        eights_stop b g q = rw q (scan_bad (radio_of mode) (sound mode) room chips octets h at L (rw is at l) (rw part_is at b))

        -- and after the last one the symbol is taken
        module _ (f : Hand) (ef : f ≡ followed mode h (symbol_of (radio_of mode) part)) (g : Hand)
            (eg : g ≡ roomed room h f) (kept : List ℕ) (ek : kept ≡ kept_at mode g octets) where
          pub turns : Turning (radio_of mode) room chips kept g (at + size)
          unfolding followed kept_at
          turns =
              let way = turned_scan (radio_of mode) (sound mode) room chips octets h at L (rw is at l)
              (small mode) _ (ap (symbol_of (radio_of mode)) part_is) g (eg ∙ ap (roomed room h) (ef ∙ rw m)) kept (ek ∙ rw m) in
              (λ n. rw is (way.0 n), way.1)

        -- where it is refused, the hand stays as it was but for the number
        pub refusal_ends : (f : Hand) → f ≡ followed mode h (symbol_of (radio_of mode) part) → (f.number ≡ MORE → ⊥) → (f.number ≡ DONE → ⊥)
            → (g : Hand) → g ≡ stopped f.number h → Tells (radio_of mode) room (reading (radio_of mode) room chips) octets g
        refusal_ends f ef m d g eg =
            let x = symbol_of (radio_of mode) part in
            let n = ap (λ (k : Hand). k.number) ef in
            let s : f ≡ stopped f.number h = rw ef (followed_stops mode h x (λ e. m (n ∙ e)) (λ e. d (n ∙ e))) in
            let l : f.length ≤ room = omega (arith, ap (λ (k : Hand). k.length) s, L.sofar.goes.fits) in
            let i : g.number ≡ f.number = ap (λ (k : Hand). k.number) eg in
            (turns f ef g (eg ∙ sym s ∙ rw (le-ltb room f.length l)) octets
            (sym (kept_stops mode g octets (λ e. m (sym i ∙ e)) (λ e. d (sym i ∙ e))))).1 (λ e. m (sym i ∙ e))
