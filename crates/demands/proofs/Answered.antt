-- Windows that begin with the symbols of one of a report's frames: they have that frame's reserved
-- bit and polarity, and where the report has room their reading answers it; where it has none, that
-- is 3. For any sound radio. Assumes nothing.
use mathlib.Core.Path.{◌≡◌, refl, sym, ap, ap₂, ◌∙◌}
use mathlib.Core.List.{List, []}
use Prim.Native.Nat.{ℕ, suc, ◌-◌, ◌*◌, ◌/◌, ◌≤◌, ◌<◌}
use native.Mathlib.Nat.{add-mul, mul-le-mul_right, le-add_right}
use native.Mathlib.Omega.{arith}
use lib.ListN.{length, get_or, take}
use lib.Seq.{take_all}
use Rattle.codes.specs.Numbers.{NOROOM}
use Rattle.codes.specs.Radio.{Radio, Sound}
use Rattle.codes.specs.declared.Symbol.{Symbol}
use Rattle.codes.proofs.Tests.{by_test}
use Rattle.frame.specs.Frame.{per_octet, octets_with, raws, sent, Form, formed, symbols, symbols_with}
use Rattle.frame.proofs.Chain.{encode_long, symbols_first}
use Rattle.frame.proofs.Count.{raws_below, symbols_long, symbols_same}
use Rattle.order.specs.Received.{decode, chain_start, polarity_of, received, octet_at}
use Rattle.order.specs.Order.{refused, done, values, smallest_gap, reading_from}
use Rattle.demands.specs.Words.{Report, form_in}
use Rattle.demands.proofs.Back.{decode_encode}
use Rattle.order.proofs.Raw.{per_positive}
use Rattle.demands.proofs.Path.{raws_to, Run, ending, run_reading, run_refused}
use Rattle.order.proofs.Windows.{seen}
use Rattle.demands.proofs.Framed.{bit_in, report_in_lem, all_long, preamble_in, framed_more, framed_done, framed_short}
use Rattle.demands.proofs.Stands.{Stands, octet_front, polarity_front, values_are, raws_are}
use Rattle.demands.proofs.Forms.{Proper}

module _ (r : Radio) (S : Sound r) (ws : List (List ℕ)) (form : Form) (F : Proper r form) (report : List ℕ) (P : Report report)
    (count : ℕ) (T : Stands r ws (symbols_with r form report) count) where
  abbrev vs : List ℕ
  vs = symbols_with r form report

  abbrev all : List ℕ
  all = raws r (octets_with form.bit report)

  long : length vs ≡ length all
  unfolding symbols_with
  long = encode_long r form.polarity all

  some : 0 < length all
  some = omega (arith, all_long r S form.bit F.low report P, per_positive r S, mul-le-mul_right (per_octet r) (le-add_right 6 (length report)))

  -- the first symbol of the frame is its polarity: the first raw one is 0
  polarity_sent : polarity_of r vs ≡ form.polarity
  polarity_sent =
      let nought = preamble_in r S form.bit F.low report P 0 (omega (arith, per_positive r S)) in
      let e : get_or vs 0 0 ≡ sent r form.polarity 0 = symbols_first r form report some ∙ ap (sent r form.polarity) nought in
      ap (chain_start r) e ∙ by_test r.chained (λ c. rw c (omega (arith, rw c at F.start))) (λ c. rw c (rw c at F.start))

  raw_again : received r vs ≡ all
  unfolding symbols_with
  raw_again =
      ap (λ (e : ℕ). decode r e vs) polarity_sent
      ∙ decode_encode r S form.polarity all (raws_below r (octets_with form.bit report))

  -- the raw symbols read are the frame's
  raws_in : (j : ℕ) → j < length vs → raws_to r ws (suc j) ≡ take (suc j) all
  raws_in j h = raws_are r ws vs count T (suc j) h ∙ ap (take (suc j)) raw_again

  headed : 6 * per_octet r ≤ length vs
  headed = omega (arith, symbols_long r form report, add-mul 6 (length report) (per_octet r))

  -- the reserved bit and the polarity that they have
  pub form_read : form_in r ws ≡ form
  form_read =
      ap₂ formed
      (ap (λ (x : ℕ). x / 128)
      (sym (octet_front r ws 5 (length vs) headed) ∙ ap (λ (l : List ℕ). octet_at r 5 (received r l)) (values_are r ws vs count T) ∙ ap (octet_at r 5) raw_again)
      ∙ bit_in r S form.bit F.low report P)
      (sym (polarity_front r ws (length vs) (omega (arith, long, some))) ∙ ap (polarity_of r) (values_are r ws vs count T) ∙ polarity_sent)

  module _ (room : ℕ) (fits : length report ≤ room) (k : ℕ) (e : suc k ≡ length vs) where
    run : Run r room ws 0 k
    run =
        record {
          from = omega arith;
          inside = omega (arith, T.enough);
          good = λ j u v. ap (λ (x : Symbol). x.number) (T.stands j (omega arith));
          more = λ j u v. rw (raws_in j (omega arith)) (framed_more r S form.bit F.low report P room j (λ _. fits) (omega (arith, long)));
          last = rw (raws_in k (omega arith)) (framed_done r S form.bit F.low report P room k (λ _. fits) (e ∙ long));
        }

    all_in : raws_to r ws (suc k) ≡ all
    all_in = raws_in k (omega arith) ∙ take_all (suc k) all (omega (arith, long))

    ends : ending r ws k ≡ done (length vs) report count (smallest_gap (take (length vs) (seen r ws))) form.polarity
    ends =
        let polarity : polarity_of r (values (take (length vs) (seen r ws))) ≡ form.polarity = ap (polarity_of r) (values_are r ws vs count T) ∙ polarity_sent in
        rw (all_in, e, report_in_lem r S form.bit F.low report P, ← T.total, polarity)

    answered_at : reading_from r room [] ws ≡ done (length vs) report count (smallest_gap (take (length vs) (seen r ws))) form.polarity
    answered_at = run_reading r room ws k run ∙ ends

  -- the reading answers the report
  pub windows_answer : (room : ℕ) → length report ≤ room
      → reading_from r room [] ws
      ≡ done (length (symbols r report)) report count (smallest_gap (take (length (symbols r report)) (seen r ws))) form.polarity
  windows_answer room fits =
      answered_at room fits (length vs - 1) (omega (arith, headed, per_positive r S))
      ∙ ap (λ (n : ℕ). done n report count (smallest_gap (take n (seen r ws))) form.polarity) (symbols_same r form report)

  -- and refuses it at the last symbol of the length octet where there is too little
  pub windows_short : (room : ℕ) → room < length report → reading_from r room [] ws ≡ refused NOROOM (6 * per_octet r - 1)
  windows_short room short =
      let k = 6 * per_octet r - 1 in
      let e : suc k ≡ 6 * per_octet r = omega (arith, per_positive r S) in
      run_refused r room ws k NOROOM (omega (arith, headed, T.enough)) (λ j l. ap (λ (x : Symbol). x.number) (T.stands j (omega (arith, headed))))
      (λ j l. rw (raws_in j (omega (arith, headed)))
      (framed_more r S form.bit F.low report P room j (λ q. absurd (omega (arith, e))) (omega (arith, headed, long))))
      (rw (raws_in k (omega (arith, headed))) (framed_short r S form.bit F.low report P room k short e)) refl refl
