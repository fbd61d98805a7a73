-- The laws of the reader's loop (Modes.antt) at what is left of the buffer, from which it cuts one
-- symbol after another. Assumes nothing.
use Rattle.std.proofs.Common.{◌≡◌, ℕ, ◌+◌, ◌-◌, ◌≤◌, ◌<◌, true, List, ◌++◌, length, take, drop, sym, ap, ◌∙◌, arith}
use Rattle.std.proofs.lemmas.List.{length-append, length-drop}
use Rattle.std.proofs.Math.Seq.{take-append_seam, drop-append_seam, drop-drop}
use Rattle.codes.specs.Numbers.{DONE, NOCHIP, MORE}
use Rattle.codes.specs.Chips.{bad}
use Rattle.codes.specs.Radio.{known, radio_of}
use Rattle.codes.specs.declared.Symbol.{Symbol}
use Rattle.codes.specs.Symbol.{symbol_of}
use Rattle.codes.specs.Near.{nearest_in}
use Rattle.codes.proofs.Gathering.{Loop}
use Rattle.matching.specs.Judged.{judged_at}
use Rattle.matching.proofs.Judging.{judged_part}
use Rattle.order.specs.declared.Hand.{Hand}
use Rattle.order.specs.Order.{reading}
use Rattle.order.specs.Taking.{begun, stopped, followed, roomed, kept_at}
use Rattle.reader.specs.Telling.{Tells}
use Rattle.reader.proofs.Scanning.{Scanning}
use Rattle.reader.proofs.Modes.{starts, runs_out, eights_stop, turns, refusal_ends}

-- before a turn of the loop: so far, with this left of the buffer
pub record Cutting (mode room : ℕ) (chips octets : List ℕ) (h : Hand) (rest : List ℕ) (size : ℕ) : Type 0 where
  at : ℕ
  so_far : Scanning (radio_of mode) room chips octets h at
  left : rest ≡ drop at chips
  sized : size ≡ (radio_of mode).size

pub cutting_same : {mode room : ℕ} {chips octets : List ℕ} {g h : Hand} {rest : List ℕ} {size : ℕ} → g ≡ h → Cutting mode room chips octets h rest size
    → Cutting mode room chips octets g rest size
cutting_same e C = rw e C

pub cut_fits : {mode room : ℕ} {chips octets : List ℕ} {h : Hand} {rest : List ℕ} {size : ℕ} → Cutting mode room chips octets h rest size → h.length ≤ room
cut_fits C = C.so_far.sofar.goes.fits

module _ {mode room : ℕ} (m : known mode ≡ true) {chips octets : List ℕ} {h : Hand} {rest : List ℕ} {size : ℕ} where
  pub cutting_starts : h ≡ begun → length octets ≡ 127 → rest ≡ chips → size ≡ (radio_of mode).size → Cutting mode room chips octets h rest size
  cutting_starts e o l s =
      record { at = 0; so_far = starts mode m room chips octets h e o; left = l; sized = s }

  module _ (C : Cutting mode room chips octets h rest size) where
    left_long : length rest ≡ length chips - C.at
    left_long = ap length C.left ∙ length-drop C.at chips

    pub cut_out : length rest < size → Tells (radio_of mode) room (reading (radio_of mode) room chips) octets h
    cut_out l = runs_out mode m room chips octets h C.at size C.sized C.so_far (omega (arith, l, left_long))

    -- a symbol is cut
    module _ (part next : List ℕ) (cut : (rest ≡ part ++ next) × (length part ≡ size)) where
      fits : size ≤ length chips - C.at
      fits = omega (arith, left_long, ap length cut.0, length-append part next, cut.1)

      is : part ≡ take (C.at + size - C.at) (drop C.at chips)
      is =
          let n : C.at + size - C.at ≡ length part = omega (arith, cut.1) in
          rw (n, ← C.left, cut.0) (sym (take-append_seam part next))

      after : next ≡ drop (C.at + size) chips
      after = sym (drop-append_seam part next) ∙ rw (← cut.0, cut.1, C.left) (drop-drop size C.at chips)

      pub cut_long : length part ≡ (radio_of mode).size
      cut_long = cut.1 ∙ C.sized

      -- its match, taken
      pub cut_taken : {k bits : ℕ} → 4 ≤ k → Loop mode part k bits → (near : ℕ) → near ≡ nearest_in mode bits → (x : Symbol) → x ≡ judged_at mode near
          → (f : Hand) → f ≡ followed mode h x → f ≡ followed mode h (symbol_of (radio_of mode) part)
      cut_taken l L near n x e f ef = ef ∙ ap (followed mode h) (judged_part mode m part cut_long l L n e)

      pub cut_stops : bad part ≡ true → {g : Hand} → g ≡ stopped NOCHIP h → Tells (radio_of mode) room (reading (radio_of mode) room chips) octets g
      cut_stops b {g} = eights_stop mode m room chips octets h C.at size C.sized C.so_far fits part is b g

      module _ {f : Hand} (ef : f ≡ followed mode h (symbol_of (radio_of mode) part)) where
        -- refused
        pub cut_refused : (f.number ≡ MORE → ⊥) → (f.number ≡ DONE → ⊥) → {g : Hand} → g ≡ stopped f.number h
            → Tells (radio_of mode) room (reading (radio_of mode) room chips) octets g
        cut_refused n d {g} = refusal_ends mode m room chips octets h C.at size C.sized C.so_far fits part is f ef n d g

        -- or taken: on with the next, or ended
        module _ {g : Hand} (eg : g ≡ roomed room h f) {kept : List ℕ} (ek : kept ≡ kept_at mode g octets) where
          pub cut_on : g.number ≡ MORE → {s : ℕ} → s ≡ size → Cutting mode room chips kept g next s
          cut_on n {s} e =
              record {
                at = C.at + size;
                so_far = (turns mode m room chips octets h C.at size C.sized C.so_far fits part is f ef g eg kept ek).0 n;
                left = after;
                sized = e ∙ C.sized;
              }

          pub cut_ends : (g.number ≡ MORE → ⊥) → Tells (radio_of mode) room (reading (radio_of mode) room chips) kept g
          cut_ends = (turns mode m room chips octets h C.at size C.sized C.so_far fits part is f ef g eg kept ek).1
