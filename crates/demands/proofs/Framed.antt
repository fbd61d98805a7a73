-- The raw symbols of one of a report's frames, at each of them what the rules say, and the report
-- that is in them. For any sound radio. Assumes nothing.
use mathlib.Core.Path.{◌≡◌, refl, sym, ap, ◌∙◌}
use mathlib.Core.List.{List, [], ◌∷◌, ◌++◌}
use Prim.Native.Nat.{ℕ, suc, ◌+◌, ◌*◌, ◌/◌, ◌%◌, ◌^◌, ◌≤◌, ◌<◌}
use native.Mathlib.Nat.{add-mul}
use native.Mathlib.Omega.{arith}
use lib.ListN.{length, get_or, take, drop}
use lib.Seq.{get_or-take}
use borrow.Author.Tests.{eq-eqb, ne_eqb}
use Rattle.codes.specs.Numbers.{DONE, NOROOM, MORE}
use Rattle.codes.specs.Radio.{Radio, Sound}
use Rattle.frame.specs.Frame.{start_octet, octets_with, per_octet, raw_of, raws}
use Rattle.frame.proofs.Count.{digits_nought, raws_long}
use Rattle.frame.proofs.Below.{Below, below_append, at_below, below_at}
use Rattle.frame.proofs.Parts.{before}
use Rattle.order.specs.Received.{octet_at, octets_from}
use Rattle.order.specs.Order.{length_in, verdict, report_in}
use Rattle.demands.specs.Words.{Report}
use Rattle.demands.proofs.Octet.{octets_raws, octet_take}
use Rattle.order.proofs.Rules.{Clear, clear_rules, wrong_3}

-- raw symbols of octets that are 0 are 0
nought : (r : Radio) → Below 1 (raws r (0 ∷ 0 ∷ 0 ∷ 0 ∷ []))
unfolding raws
nought r = z _ (z _ (z _ (z [] tt)))
  where
    z : (bs : List ℕ) → Below 1 bs → Below 1 (raw_of r 0 ++ bs)
    z bs p = below_append 1 (raw_of r 0) bs (digits_nought (per_octet r) (2 ^ r.bits)) p

module _ (r : Radio) (S : Sound r) (bit : ℕ) (low : bit ≤ 1) (report : List ℕ) (R : Report report) where
  abbrev all : List ℕ
  all = raws r (octets_with bit report)

  octets_below : Below 256 (octets_with bit report)
  octets_below =
      (omega arith, (omega arith, (omega arith, (omega arith, (omega arith, (omega (arith, R.short), at_below 256 report R.octets))))))

  -- the octets from the first on
  pub again : octets_from r 0 (length (octets_with bit report)) all ≡ octets_with bit report
  again = octets_raws r S (octets_with bit report) octets_below

  -- octet 4 is the start octet
  start_in : octet_at r 4 all ≡ start_octet
  unfolding octets_from
  start_in = ap (λ (xs : List ℕ). get_or xs 4 0) again

  -- octet 5 is the length octet
  length_octet_in : octet_at r 5 all ≡ length report + 128 * bit
  unfolding octets_from
  length_octet_in = ap (λ (xs : List ℕ). get_or xs 5 0) again

  -- of which n is the length
  length_in_lem : length_in r all ≡ length report
  length_in_lem = omega (arith, length_octet_in, R.short)

  -- and the bit the reserved one
  pub bit_in : octet_at r 5 all / 128 ≡ bit
  bit_in = omega (arith, length_octet_in, R.short)

  -- the report in a report's raw symbols is that report
  pub report_in_lem : report_in r all ≡ report
  unfolding octets_from
  report_in_lem = rw length_in_lem (ap (λ (xs : List ℕ). drop 6 xs) again)

  pub all_long : length all ≡ (6 + length report) * per_octet r
  all_long = raws_long r (octets_with bit report) ∙ ap (λ (n : ℕ). n * per_octet r) (omega arith)

  -- the preamble is 0
  pub preamble_in : (s : ℕ) → s < 4 * per_octet r → get_or all s 0 ≡ 0
  preamble_in s h =
      let e : take (4 * per_octet r) all ≡ raws r (0 ∷ 0 ∷ 0 ∷ 0 ∷ []) =
      before r (0 ∷ 0 ∷ 0 ∷ 0 ∷ []) (start_octet ∷ (length report + 128 * bit) ∷ report) (4 * per_octet r) refl in
      let g : get_or all s 0 ≡ get_or (raws r (0 ∷ 0 ∷ 0 ∷ 0 ∷ [])) s 0 = sym (get_or-take (4 * per_octet r) all s 0 h) ∙ ap (λ (xs : List ℕ). get_or xs s 0) e in
      omega (arith, g, below_at 1 (raws r (0 ∷ 0 ∷ 0 ∷ 0 ∷ [])) (nought r) s (omega (arith, raws_long r (0 ∷ 0 ∷ 0 ∷ 0 ∷ []))))

  module _ (room s : ℕ) where
    abbrev upto : List ℕ
    upto = take (suc s) all

    length_upto : 6 * per_octet r ≤ suc s → length_in r upto ≡ length report
    length_upto h = ap (λ (x : ℕ). x % 128) (octet_take r 5 (suc s) all h) ∙ length_in_lem

    raw_clear : s < 4 * per_octet r → get_or upto s 0 ≡ 0
    raw_clear h = get_or-take (suc s) all s 0 (omega arith) ∙ preamble_in s h

    start_clear : suc s ≡ 5 * per_octet r → octet_at r 4 upto ≡ start_octet
    start_clear e = octet_take r 4 (suc s) all (omega arith) ∙ start_in

    -- with too little room the last symbol of the length octet is refused with 3
    pub framed_short : room < length report → suc s ≡ 6 * per_octet r → verdict r room s upto ≡ NOROOM
    framed_short l e =
        wrong_3 (per_octet r) room s _ _ _ raw_clear start_clear e (omega (arith, l, length_upto (omega arith)))

    module _ (fits : suc s ≡ 6 * per_octet r → length report ≤ room) where
      clear : Clear (per_octet r) room s (get_or upto s 0) (octet_at r 4 upto) (length_in r upto)
      clear = record { preamble = raw_clear; started = start_clear; fits = λ e. omega (arith, length_upto (omega arith), fits e) }

      -- before the last symbol more is wanted
      pub framed_more : suc s < length all → verdict r room s upto ≡ MORE
      framed_more h =
          clear_rules (per_octet r) room s _ _ _ clear
          ∙ rw (ne_eqb (suc s) ((6 + length_in r upto) * per_octet r) (λ e. early e))
        where
          early : suc s ≡ (6 + length_in r upto) * per_octet r → ⊥
          early e =
              let l : 6 * per_octet r ≤ suc s = omega (arith, add-mul 6 (length_in r upto) (per_octet r)) in
              omega (arith, ap (λ (n : ℕ). (6 + n) * per_octet r) (length_upto l), all_long)

      -- and the reading is done on it
      pub framed_done : suc s ≡ length all → verdict r room s upto ≡ DONE
      framed_done h =
          let l : 6 * per_octet r ≤ suc s = omega (arith, all_long, add-mul 6 (length report) (per_octet r)) in
          clear_rules (per_octet r) room s _ _ _ clear
          ∙ rw (eq-eqb (suc s) ((6 + length_in r upto) * per_octet r) (h ∙ all_long ∙ ap (λ (n : ℕ). (6 + n) * per_octet r) (sym (length_upto l))))
