-- What the tests catch: octets as many as a report with its FCS, and other ones, are 15 where the
-- bits that differ are within one run of 16, or odd in number, or fewer than four. Assumes nothing.
use mathlib.Core.Path.{◌≡◌, sym, ap, ◌∙◌}
use mathlib.Core.List.{List}
use Prim.Native.Nat.{ℕ, ◌+◌, ◌-◌, ◌%◌, ◌≤◌, ◌<◌}
use native.Mathlib.Omega.{arith}
use lib.ListN.{length, get_or}
use Rattle.codes.specs.Numbers.{BADCHECK}
use Rattle.codes.specs.Chips.{distance}
use Rattle.frame.proofs.Below.{Below, below_take}
use Rattle.fcs.specs.Fcs.{bits, with_fcs}
use Rattle.fcs.proofs.Remainder.{with_long}
use Rattle.fcs.proofs.Catches.{never_within_16}
use Rattle.fcs.proofs.Even.{even_apart_lem}
use Rattle.fcs.proofs.Four.{four_apart}
use Rattle.checked.specs.Profile.{body, check_of}
use Rattle.checked.proofs.Passing.{check_wrong}

module _ (report got : List ℕ) (p : Below 256 report) (q : Below 256 got) (l : length got ≡ length report + 2) (one : 1 ≤ length report)
    (n : with_fcs report ≡ got → ⊥) where
  -- where they can't be another report with its FCS
  no_other : (got ≡ with_fcs (body got) → length report ≡ length (body got) → Below 256 (body got) → report ≡ body got) → check_of got ≡ BADCHECK
  no_other same =
      check_wrong got q (omega (arith, l, one))
      (λ w.
      let e : length report ≡ length (body got) = omega (arith, ap length w, with_long (body got), l) in
      n (ap with_fcs (same w e (below_take 256 (length got - 2) got q)) ∙ sym w))

  pub run_caught : (at : ℕ) → ((i : ℕ) → (get_or (bits (with_fcs report)) i 0 ≡ get_or (bits got) i 0 → ⊥) → (at ≤ i) × (i < at + 16)) → check_of got ≡ BADCHECK
  run_caught at w =
      no_other
      (λ e h b. never_within_16 report (body got) p b h at (λ i d. w i (λ z. d (z ∙ ap (λ (xs : List ℕ). get_or (bits xs) i 0) e))))

  pub odd_caught : distance (bits (with_fcs report)) (bits got) % 2 ≡ 1 → check_of got ≡ BADCHECK
  odd_caught o =
      no_other
      (λ e h b.
      let d = even_apart_lem report (body got) h in
      absurd (omega (arith, o, d, ap (λ (xs : List ℕ). distance (bits (with_fcs report)) (bits xs)) e)))

  pub few_caught : length report ≤ 125 → distance (bits (with_fcs report)) (bits got) < 4 → check_of got ≡ BADCHECK
  few_caught short f =
      no_other
      (λ e h b.
      let d = four_apart report (body got) p b h short (λ z. n (ap with_fcs z ∙ sym e)) in
      absurd (omega (arith, f, d, ap (λ (xs : List ℕ). distance (bits (with_fcs report)) (bits xs)) e)))
