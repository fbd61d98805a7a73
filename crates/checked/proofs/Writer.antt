-- What the checked writer refuses, what it sends, and how many chips. Assumes nothing.
use mathlib.Core.Path.{◌≡◌, refl, ap, ◌∙◌}
use mathlib.Core.Bool.{Bool, true}
use mathlib.Core.List.{List, ◌++◌}
use Prim.Native.Nat.{ℕ, ◌+◌, ◌-◌, ◌/◌, ◌%◌, ◌≤◌}
use native.Mathlib.Omega.{arith}
use lib.ListN.{length, take, length-append}
use lib.Seq.{take_at}
use lib.Dec.{eqb, ltb}
use borrow.Author.Tests.{le-ltb, ne_eqb}
use borrow.Rule.Slice.PartMut.{put_mid}
use Rattle.std.specs.Int.{w16, to_le_bytes}
use Rattle.std.proofs.lemmas.Slice.{take-put_mid}
use Rattle.codes.specs.Numbers.{BADMODE, TOOLONG, TOOFEW, ALLZERO}
use Rattle.codes.specs.Radio.{known}
use Rattle.codes.proofs.Tests.{by_test}
use Rattle.frame.specs.declared.Written.{Written}
use Rattle.frame.specs.Outcome.{Outcome, outcome}
use Rattle.frame.specs.Write.{refused, unwritten}
use Rattle.frame.proofs.Writer.{chips_fit}
use Rattle.fcs.specs.Fcs.{fcs_of, fcs_octets, with_fcs}
use Rattle.fcs.proofs.Remainder.{fcs_below}
use Rattle.checked.specs.Profile.{all_zero, written_checked}

-- the way of a report whose octets are all 0, where the tests before it pass
module _ (mode : ℕ) (report buffer : List ℕ) (m : known mode ≡ true) (s : length report ≡ 0 → ⊥) (l : length report ≤ 125)
    (zero : Bool) (z : zero ≡ all_zero report) where
  pub all_zero_lem : (w : Written) → w ≡ refused ALLZERO → zero ≡ true → outcome w buffer ≡ written_checked mode report buffer
  unfolding written_checked
  all_zero_lem w e t = rw (e, m, ne_eqb (length report) 0 s, le-ltb 125 (length report) l, ← z, t)

-- a report at the front of octets aside, and the two of its FCS written after it
pub appended : (report front rest two : List ℕ) (fcs : ℕ) → front ≡ report → fcs ≡ fcs_of report → two ≡ to_le_bytes w16 fcs
    → take (length report + 2) (put_mid (length report) (length report + 2 - length report) (front ++ rest) two) ≡ with_fcs report
appended report front rest two fcs f e t =
    let high : fcs / 256 % 256 ≡ fcs / 256 = omega (arith, e, fcs_below report) in
    let last : two ≡ fcs_octets report = t ∙ rw (high, e) in
    rw (f, last)
    (take-put_mid (length report) (length report + 2 - length report) (report ++ rest) (fcs_octets report) (length report + 2) refl
    (omega (arith, length-append report rest))
    ∙ rw (take_at report rest (length report) refl))

-- the chips that it counts are in the buffer, which keeps its length
pub checked_chips_fit : (mode : ℕ) (report buffer : List ℕ) (w : Written) (b : List ℕ)
    → outcome w b ≡ written_checked mode report buffer → length b ≡ length buffer
    → w.chips ≤ length b
unfolding written_checked
checked_chips_fit mode report buffer w b e k =
    by_test (known mode)
    (λ m. by_test (eqb (length report) 0)
    (λ z. none TOOFEW (e ∙ rw (m, z)))
    (λ z. by_test (ltb 125 (length report))
    (λ l. none TOOLONG (e ∙ rw (m, z, l)))
    (λ l. by_test (all_zero report)
    (λ a. none ALLZERO (e ∙ rw (m, z, l, a)))
    (λ a. chips_fit mode (with_fcs report) buffer w b (e ∙ rw (m, z, l, a)) k))))
    (λ m. none BADMODE (e ∙ rw m))
  where
    none : (x : ℕ) → outcome w b ≡ unwritten x buffer → w.chips ≤ length b
    none x q = rw (ap (λ (o : Outcome Written). o.answer.chips) q) (omega arith)
