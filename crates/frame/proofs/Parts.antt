-- Which symbols are which part of the frame (document 01's table of symbol numbers): the raw
-- symbols from each number on are those of that part's octets. What is sent for them is
-- Chain.antt's. Assumes nothing.
use mathlib.Core.Path.{◌≡◌, refl, sym, ap, ◌∙◌}
use mathlib.Core.List.{List, [], ◌∷◌, ◌++◌, append_assoc}
use Prim.Native.Nat.{ℕ, ◌+◌, ◌*◌}
use native.Mathlib.Nat.{add-mul, mul_comm}
use native.Mathlib.Omega.{arith}
use lib.ListN.{length, take, drop}
use lib.Seq.{take_at, drop_at}
use Rattle.codes.specs.Radio.{Radio, bpsk, oqpsk, lowband}
use Rattle.frame.specs.Frame.{start_octet, octets_with, per_octet, raw_of, raws, Form, symbols_with}
use Rattle.frame.proofs.Count.{raw_long, raws_long, symbols_long}

-- the preamble is before symbol p, the start octet before s, the length octet before l, and the
-- report after it
pub record Parts (r : Radio) (p s l k : ℕ) : Type 0 where
  pub preamble : (bit : ℕ) (report : List ℕ) → take p (raws r (octets_with bit report)) ≡ raws r (0 ∷ 0 ∷ 0 ∷ 0 ∷ [])
  pub start : (bit : ℕ) (report : List ℕ) → take k (drop p (raws r (octets_with bit report))) ≡ raw_of r start_octet
  pub length_octet : (bit : ℕ) (report : List ℕ) → take k (drop s (raws r (octets_with bit report))) ≡ raw_of r (length report + 128 * bit)
  pub rest : (bit : ℕ) (report : List ℕ) → drop l (raws r (octets_with bit report)) ≡ raws r report
  pub total : (form : Form) (report : List ℕ) → length (symbols_with r form report) ≡ l + k * length report

module _ (r : Radio) where
  -- octets xs, then ys: the raw symbols of ys begin where those of xs end
  pub raws_append : (xs ys : List ℕ) → raws r (xs ++ ys) ≡ raws r xs ++ raws r ys
  unfolding raws
  raws_append [] ys = refl
  raws_append (x ∷ xs) ys = rw (raws_append xs ys) (sym (append_assoc (raw_of r x) (raws r xs) (raws r ys)))

  pub after : (xs ys : List ℕ) (n : ℕ) → length xs * per_octet r ≡ n → drop n (raws r (xs ++ ys)) ≡ raws r ys
  after xs ys n e = rw raws_append (drop_at (raws r xs) (raws r ys) n (raws_long r xs ∙ e))

  pub before : (xs ys : List ℕ) (n : ℕ) → length xs * per_octet r ≡ n → take n (raws r (xs ++ ys)) ≡ raws r xs
  before xs ys n e = rw raws_append (take_at (raws r xs) (raws r ys) n (raws_long r xs ∙ e))

  one : (x : ℕ) (ys : List ℕ) → take (per_octet r) (raws r (x ∷ ys)) ≡ raw_of r x
  unfolding raws
  one x ys = take_at (raw_of r x) (raws r ys) (per_octet r) (raw_long r x)

  pub parts : (p s l k : ℕ) → 4 * per_octet r ≡ p → 5 * per_octet r ≡ s → 6 * per_octet r ≡ l → per_octet r ≡ k → Parts r p s l k
  parts p s l k ep es el ek =
      record {
        preamble = λ bit report. before (0 ∷ 0 ∷ 0 ∷ 0 ∷ []) (start_octet ∷ (length report + 128 * bit) ∷ report) p ep;
        start = λ bit report. rw (after (0 ∷ 0 ∷ 0 ∷ 0 ∷ []) (start_octet ∷ (length report + 128 * bit) ∷ report) p ep, ← ek)
            (one start_octet ((length report + 128 * bit) ∷ report));
        length_octet = λ bit report. rw (after (0 ∷ 0 ∷ 0 ∷ 0 ∷ start_octet ∷ []) ((length report + 128 * bit) ∷ report) s es, ← ek)
            (one (length report + 128 * bit) report);
        rest = λ bit report. after (0 ∷ 0 ∷ 0 ∷ 0 ∷ start_octet ∷ (length report + 128 * bit) ∷ []) report l el;
        total = λ form report. symbols_long r form report ∙ omega (
          arith,
          add-mul 6 (length report) (per_octet r),
          mul_comm (length report) (per_octet r),
          ap (λ (n : ℕ). n * length report) ek,
        );
      }

-- preamble 0 to 31, start octet 32 to 39, length octet 40 to 47, report 48 to 47 + 8n
pub bpsk_parts : Parts bpsk 32 40 48 8
bpsk_parts = parts bpsk 32 40 48 8 refl refl refl refl

-- preamble 0 to 7, start octet 8 and 9, length octet 10 and 11, report 12 to 11 + 2n, in mode 1
-- and in mode 2
pub oqpsk_parts : Parts oqpsk 8 10 12 2
oqpsk_parts = parts oqpsk 8 10 12 2 refl refl refl refl

pub lowband_parts : Parts lowband 8 10 12 2
lowband_parts = parts lowband 8 10 12 2 refl refl refl refl
