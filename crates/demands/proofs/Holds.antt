-- Take of a record that calls made and that ended well: it holds a report, which take gives into
-- any buffer with room; into a shorter one it gives 3, at the number of symbols of that report's
-- frame. No other record that calls made gives 3. Assumes nothing.
use mathlib.Core.Path.{◌≡◌, refl, sym, ap, ◌∙◌}
use mathlib.Core.Bool.{true, false}
use mathlib.Core.List.{List}
use Prim.Native.Nat.{ℕ, ◌+◌, ◌*◌}
use native.Mathlib.Omega.{arith}
use lib.ListN.{length, take}
use lib.Seq.{length-take-le}
use Rattle.codes.specs.Numbers.{DONE, NOROOM, MORE}
use Rattle.codes.specs.Radio.{known, radio_of}
use Rattle.frame.specs.Frame.{per_octet, plain, symbols}
use Rattle.frame.proofs.Count.{symbols_long}
use Rattle.order.specs.Order.{Answer, refused, done}
use Rattle.reader.specs.Read.{told, left, answered}
use Rattle.order.specs.Taking.{Complete}
use Rattle.receiver.specs.declared.Receiver.{Receiver}
use Rattle.receiver.specs.Record.{start_of, forged, hand_of, told_polarity, take_of}
use Rattle.receiver.proofs.Ways.{takes_open, takes_refused, takes_short, takes_done}
use Rattle.demands.specs.Calls.{Call, after, Holds}
use Rattle.demands.proofs.Made.{Honest, wanting, complete, ended, Made, not_ending, passes, made}

module _ (mode : ℕ) (c : Receiver) (M : Made mode c) where
  module _ (k : known c.mode ≡ true) (d : c.ended ≡ DONE) (F : Complete (radio_of c.mode) 127 (hand_of c)) where
    abbrev report : List ℕ
    report = take c.length c.octets

    report_long : length report ≡ c.length
    report_long = length-take-le c.length c.octets (omega (arith, F.few, M.long))

    place : c.taken ≡ length (symbols (radio_of mode) report)
    place =
        F.total
        ∙ ap (λ (m : ℕ). (6 + c.length) * per_octet (radio_of m)) M.own
        ∙ ap (λ (l : ℕ). (6 + l) * per_octet (radio_of mode)) (sym report_long)
        ∙ sym (symbols_long (radio_of mode) plain report)

    passed : forged c ≡ false
    passed = passes c (complete k d F)

    holds : Holds mode c report c.count c.gap (told_polarity c)
    unfolding told left
    holds =
        record {
          given = λ buffer h.
              ap (λ (a : Answer). answered a buffer)
              (sym (takes_done c (length buffer) passed d M.long (omega (arith, report_long)))
              ∙ ap (λ (s : ℕ). done s report c.count c.gap (told_polarity c)) place);
          lacking = λ buffer l.
              ap (λ (a : Answer). answered a buffer)
              (sym (takes_short c (length buffer) passed d M.long (omega (arith, report_long))) ∙ ap (refused NOROOM) place);
        }

  held : Honest c → c.ended ≡ DONE → (report : List ℕ) × (count gap polarity : ℕ) × Holds mode c report count gap polarity
  held (wanting k before C O) d = absurd (omega (arith, O.number, d))
  held (complete k d F) _ = (_, _, _, _, holds k d F)
  held (ended t) d = absurd (not_ending c.ended DONE t refl d)

  -- no other record tells 3
  well : Honest c → (buffer : List ℕ) → (take_of c buffer).answer.number ≡ NOROOM → c.ended ≡ DONE
  unfolding told
  well (wanting k before C O) buffer n =
      absurd (omega (arith, ap (λ (a : Answer). (told a).number) (takes_open c (length buffer) (passes c (wanting k before C O)) O.number) ∙ n))
  well (complete k d F) buffer n = d
  well (ended t) buffer n =
      let m = not_ending c.ended MORE t refl in
      let d = not_ending c.ended DONE t refl in
      absurd (not_ending c.ended NOROOM t refl (ap (λ (a : Answer). (told a).number) (takes_refused c (length buffer) (passes c (ended t)) m d) ∙ n))

module _ (mode : ℕ) (xs : List Call) where
  abbrev c : Receiver
  c = after (start_of mode).receiver xs

  -- A record that calls made and that ended well holds a report.
  pub take_holds : c.ended ≡ DONE → (report : List ℕ) × (count gap polarity : ℕ) × Holds mode c report count gap polarity
  take_holds = held mode c (made mode xs) (made mode xs).honest

  -- And take's 3 comes of no other.
  pub take_short : (buffer : List ℕ) → (take_of c buffer).answer.number ≡ NOROOM → c.ended ≡ DONE
  take_short = well mode c (made mode xs) (made mode xs).honest
