-- The windows of a buffer pushed one by one: while the record is open it is as far in the reading
-- as the reader would be, and when it has ended take gives the reading's answer. A law for start,
-- push, finish and the end. Assumes nothing.
use mathlib.Core.Path.{◌≡◌, refl, sym, ap, ◌∙◌}
use mathlib.Core.Bool.{true, false}
use mathlib.Core.List.{List, []}
use Prim.Native.Nat.{ℕ, suc, ◌<◌}
use native.Mathlib.Omega.{arith}
use lib.ListN.{length, get_or, take}
use lib.Dec.{eqb}
use borrow.Author.Tests.{eq-eqb, ne_eqb, eqb-true, eqb-false}
use Rattle.codes.specs.Numbers.{DONE, BADMODE, RUNOUT, MORE}
use Rattle.codes.specs.Radio.{known, radio_of}
use Rattle.codes.specs.Symbol.{symbol_of}
use Rattle.codes.proofs.Tests.{by_test}
use Rattle.codes.proofs.Facts.{sound}
use Rattle.order.specs.Order.{Answer, refused, done, reading_from}
use Rattle.order.specs.Taking.{followed, kept_at}
use Rattle.reader.specs.Telling.{handed, Tells}
use Rattle.reader.proofs.Sofar.{Sofar, starts, out, handed_open, handed_refused, handed_done}
use Rattle.reader.proofs.Modes.{symbol_followed}
use Rattle.receiver.specs.declared.Receiver.{Receiver}
use Rattle.receiver.specs.Record.{start_of, forged, hand_of, held, push_of, ended_with, finish_of, room_for, takes}
use Rattle.receiver.proofs.Ways.{forged_refused, takes_refused}
use Rattle.receiver.proofs.Honest.{open_honest, complete_honest}

-- open, and so far in the windows
pub record Going (mode : ℕ) (ws : List (List ℕ)) (c : Receiver) : Type 0 where
  pub own : c.mode ≡ mode
  pub sofar : Sofar (radio_of mode) 127 ws c.octets (hand_of c)

-- ended, the numbers and octets held tell the answer a, and take gives it
pub record Gone (a : Answer) (c : Receiver) : Type 0 where
  pub more : c.ended ≡ MORE → ⊥
  pub is : a ≡ handed (hand_of c) c.octets
  pub same : (room : ℕ) → takes c room ≡ room_for room a

pub start_gone : (mode : ℕ) → known mode ≡ false → Gone (refused BADMODE 0) (start_of mode).receiver
unfolding start_of takes room_for forged handed
start_gone mode k = rw k (record { more = λ m. omega arith; is = refl; same = λ room. refl })

module _ (mode : ℕ) (k : known mode ≡ true) (ws : List (List ℕ)) where
  abbrev answer : Answer
  answer = reading_from (radio_of mode) 127 [] ws

  pub start_going : Going mode ws (start_of mode).receiver
  unfolding start_of
  start_going = rw k (record { own = refl; sofar = starts (radio_of mode) (sound mode) 127 ws _ refl })

  -- a record that has ended, whose numbers and octets tell the answer
  told_gone : (c : Receiver) → c.mode ≡ mode → (c.ended ≡ MORE → ⊥) → Tells (radio_of mode) 127 answer c.octets (hand_of c) → Gone answer c
  unfolding takes room_for
  told_gone c own more T =
      record {
        more = more;
        is = T.is;
        same = λ room. by_test (eqb c.ended DONE)
            (λ d.
            let e = eqb-true c.ended DONE d in
            rw (complete_honest c (rw own k) e (rw own (T.well e)), ne_eqb c.ended MORE more, d)
            (ap (room_for room) (ap (done c.taken (take c.length c.octets) c.count c.gap) (rw own (T.well e).start)
            ∙ sym (T.is ∙ handed_done (hand_of c) c.octets e))))
            (λ d.
            let e = eqb-false c.ended DONE d in
            sym (takes_refused c room (sym (forged_refused c more e)) more e) ∙ ap (room_for room) (sym (T.is ∙ handed_refused (hand_of c) c.octets more e)));
      }

  module _ (c : Receiver) (G : Going mode ws c) where
    pub honest : forged c ≡ false
    honest = open_honest c (rw G.own k) (rw G.own G.sofar.goes)

    pub going_open : c.ended ≡ MORE
    going_open = G.sofar.goes.number

    pub finish_gone : length ws ≡ c.taken → Gone answer (finish_of c).receiver
    unfolding finish_of
    finish_gone e =
        let T = out (radio_of mode) (sound mode) 127 ws c.octets (hand_of c) G.sofar e in
        rw (honest, eq-eqb c.ended MORE going_open)
        (told_gone (ended_with RUNOUT c) G.own (λ m. omega arith)
        (record {
          is = T.is ∙ handed_open (hand_of c) c.octets going_open
              ∙ sym (handed_refused (hand_of (ended_with RUNOUT c)) c.octets (λ m. omega arith) (λ d. omega arith));
          well = λ d. absurd (omega arith);
          long = T.long;
        }))

    module _ (next : c.taken < length ws) (sized : length (get_or ws c.taken []) ≡ (radio_of mode).size) where
      -- the next symbol pushed
      pub push_going : (g : Receiver) → g ≡ (push_of c (get_or ws c.taken [])).receiver
          → (g.ended ≡ MORE → (g.taken ≡ suc c.taken) × Going mode ws g) × ((g.ended ≡ MORE → ⊥) → Gone answer g)
      unfolding push_of
      push_going g e =
          let h = followed mode (hand_of c) (symbol_of (radio_of mode) (get_or ws c.taken [])) in
          let p : g ≡ held mode h (kept_at mode h c.octets) =
          e ∙ rw (honest, eq-eqb c.ended MORE going_open, G.own, eq-eqb (length (get_or ws c.taken [])) (radio_of mode).size sized) in
          let way = symbol_followed mode k ws c.octets (hand_of c) G.sofar next h refl in
          rw p (
            λ m. let w = way.0 m in (w.0, record { own = refl; sofar = w.1 }),
            λ m. told_gone (held mode h (kept_at mode h c.octets)) refl m (way.1 m),
          )
