-- A reading that is done: the windows begin with the symbols of one of a report's frames, the one
-- with the reserved bit and the polarity that they have; it is that report and that polarity that
-- are answered, and the report has room. For any sound radio. Assumes nothing.
use mathlib.Core.Path.{◌≡◌, refl, sym, ap, ap₂, ◌∙◌}
use mathlib.Core.Logic.{◌⊎◌, inl, inr, ⊎_elim}
use mathlib.Core.List.{List, []}
use Prim.Native.Nat.{ℕ, suc, ◌+◌, ◌*◌, ◌/◌, ◌^◌, ◌≤◌, ◌<◌}
use native.Mathlib.Nat.{eq-or-lt_of_le, zero-add, add-mul}
use native.Mathlib.Omega.{arith}
use lib.ListN.{length, get_or, take}
use lib.Seq.{get_or-take}
use Rattle.codes.specs.Numbers.{DONE, MORE}
use Rattle.codes.specs.Radio.{Radio, Sound}
use Rattle.codes.specs.Symbol.{symbol_of}
use Rattle.codes.proofs.Tests.{upto}
use Rattle.codes.proofs.Unique.{Reads, some_words, of_symbol_lem, read_as_lem}
use Rattle.frame.specs.Frame.{per_octet, encode, Form, formed, symbols, symbols_with}
use Rattle.frame.proofs.Count.{symbols_same}
use Rattle.frame.proofs.Below.{Below, at_below}
use Rattle.order.specs.Received.{polarity_of, received, octet_at}
use Rattle.order.specs.Order.{done, values, repaired, smallest_gap, length_in, verdict, report_in, reading_from}
use Rattle.demands.specs.Words.{Report, form_in}
use Rattle.demands.proofs.Back.{received_take, encode_decode}
use Rattle.order.proofs.Raw.{decode_long, decode_below}
use Rattle.order.proofs.Carried.{polarity_low}
use Rattle.order.proofs.Rules.{Clear, rules_clear, rules_last}
use Rattle.demands.proofs.Path.{raws_to, Run, ending, same_parts, reading_run}
use Rattle.order.proofs.Windows.{seen}
use Rattle.demands.proofs.Found.{found_room, found_bit, found_report, found_raws}
use Rattle.demands.proofs.Stands.{Stands, values_long, values_at, values_take, octet_front, polarity_front}
use Rattle.demands.proofs.Forms.{Proper}

-- what a reading of windows that is done says
pub record Heard (r : Radio) (room : ℕ) (ws : List (List ℕ)) (place : ℕ) (report : List ℕ) (count gap polarity : ℕ) : Type 0 where
  pub proper : Report report
  pub fits : length report ≤ room
  pub at : place ≡ length (symbols r report)
  pub form : Proper r (form_in r ws)
  pub row : Stands r ws (symbols_with r (form_in r ws) report) count
  pub closest : gap ≡ smallest_gap (take place (seen r ws))
  pub start : polarity ≡ (form_in r ws).polarity

module _ (r : Radio) (S : Sound r) (room : ℕ) (ws : List (List ℕ)) where
  module _ (k : ℕ) (R : Run r room ws 0 k) where
    abbrev vs : List ℕ
    vs = values (take (suc k) (seen r ws))

    abbrev bs : List ℕ
    bs = raws_to r ws (suc k)

    long : length vs ≡ suc k
    long = values_long r ws (suc k) R.inside

    read_at : (j : ℕ) → j < suc k → Reads r (get_or ws j []) (get_or vs j 0) (symbol_of r (get_or ws j [])).distance
    read_at j h =
        let w = get_or ws j [] in
        let z = R.good j (omega arith) (omega arith) in
        rw (values_at r ws (suc k) j R.inside h)
        (of_symbol_lem r w (some_words r S) z)

    vs_below : Below (2 ^ r.bits) vs
    vs_below = at_below (2 ^ r.bits) vs (λ j h. rw (← S.many) (read_at j (omega (arith, long))).known)

    -- the raw symbols up to symbol j are the first of them all
    prefix : (j : ℕ) → j < suc k → raws_to r ws (suc j) ≡ take (suc j) bs
    prefix j h = ap (received r) (values_take r ws (suc j) (suc k) h) ∙ sym (received_take r (suc j) vs)

    bs_long : length bs ≡ suc k
    bs_long = decode_long r (polarity_of r vs) vs ∙ long

    bs_below : Below (2 ^ r.bits) bs
    bs_below = decode_below r S (polarity_of r vs) vs vs_below

    number_at : (j : ℕ) → j < suc k → (verdict r room j (take (suc j) bs) ≡ MORE) ⊎ (verdict r room j (take (suc j) bs) ≡ DONE)
    number_at j h =
        rw (← prefix j h)
        (⊎_elim (λ (e : j ≡ k). inr (rw e R.last)) (λ (l : j < k). inl (R.more j (omega arith) l)) (eq-or-lt_of_le (upto j k h)))

    clear : (j : ℕ) → j < length bs → Clear (per_octet r) room j (get_or bs j 0) (octet_at r 4 (take (suc j) bs)) (length_in r (take (suc j) bs))
    clear j h =
        rw (← get_or-take (suc j) bs j 0 (omega arith))
        (rules_clear (per_octet r) room j _ _ _ (verdict r room j (take (suc j) bs)) (number_at j (omega (arith, bs_long))) refl)

    whole_long : length bs ≡ (6 + length_in r bs) * per_octet r
    whole_long = bs_long ∙ rules_last (per_octet r) room k (get_or bs k 0) (octet_at r 4 bs) (length_in r bs) R.last

    form_is : form_in r ws ≡ formed (octet_at r 5 bs / 128) (polarity_of r vs)
    form_is =
        ap₂ formed
        (ap (λ (x : ℕ). x / 128) (sym (octet_front r ws 5 (suc k) (omega (arith, bs_long, whole_long, add-mul 6 (length_in r bs) (per_octet r))))))
        (sym (polarity_front r ws (suc k) (omega arith)))

    same : symbols_with r (form_in r ws) (report_in r bs) ≡ vs
    unfolding symbols_with
    same =
        ap (λ (form : Form). symbols_with r form (report_in r bs)) form_is
        ∙ ap (encode r (polarity_of r vs)) (found_raws r S room bs bs_below clear whole_long) ∙ encode_decode r S (polarity_of r vs) vs vs_below

    form_proper : Proper r (form_in r ws)
    form_proper = rw form_is (record { low = found_bit r S room bs bs_below clear whole_long; start = polarity_low r S vs vs_below })

    row_of : Stands r ws vs (repaired (take (suc k) (seen r ws)))
    row_of =
        record {
          enough = omega (arith, long, R.inside);
          stands = λ j h.
              let l : j < suc k = omega (arith, long) in
              rw (values_at r ws (suc k) j R.inside l) (read_as_lem r (get_or ws j []) (some_words r S) (R.good j (omega arith) (omega arith)));
          total = ap (λ (n : ℕ). repaired (take n (seen r ws))) (sym long);
        }

    heard : Heard r room ws (suc k) (report_in r bs) (repaired (take (suc k) (seen r ws))) (smallest_gap (take (suc k) (seen r ws))) (polarity_of r vs)
    heard =
        record {
          proper = found_report r S room bs bs_below clear whole_long;
          fits = found_room r S room bs bs_below clear whole_long;
          at = sym (sym (symbols_same r (form_in r ws) (report_in r bs)) ∙ ap length same ∙ long);
          form = form_proper;
          row = rw same row_of;
          closest = refl;
          start = polarity_front r ws (suc k) (omega arith);
        }

  -- a reading of windows that is done says so
  pub reading_heard : (place count gap polarity : ℕ) (report : List ℕ) → reading_from r room [] ws ≡ done place report count gap polarity
      → Heard r room ws place report count gap polarity
  reading_heard place count gap polarity report e = go (reading_run r room ws (length ws) 0 place count gap polarity report (zero-add (length ws)) e)
    where
      go : (k : ℕ) × Run r room ws 0 k × (ending r ws k ≡ done place report count gap polarity) → Heard r room ws place report count gap polarity
      go (k, R, o) =
          let s = same_parts (suc k) place _ count _ gap _ polarity (report_in r (raws_to r ws (suc k))) report o in
          rw (← s.0, ← s.1, ← s.2, ← s.3, ← s.4) (heard k R)
