-- The bench sheet of document 01, A to L, shown of the definitions together in one statement, and
-- beside it those of its lines that mode 2 has. Where a symbol is matched all three numbers stand
-- there: the nearest word, how far it is and how far the next-nearest is. Assumes nothing.
use mathlib.Core.Path.{◌≡◌, refl, ap}
use mathlib.Core.List.{List, [], ◌∷◌, ◌++◌}
use Prim.Native.Nat.{ℕ, zero, suc, ◌+◌, ◌-◌, ◌*◌, ◌≤◌, ◌<◌}
use native.Mathlib.Omega.{arith}
use lib.ListN.{length, take, drop, replicate}
use Rattle.codes.specs.Numbers.{DONE, LOST}
use Rattle.codes.specs.Chips.{distance, bad}
use Rattle.codes.specs.Radio.{Radio, word, bpsk, oqpsk, lowband}
use Rattle.codes.specs.Radio.{bpsk_words, oqpsk_word, oqpsk_words, lowband_word, lowband_words, turned_words, turns, turned, odd_inverted}
use Rattle.codes.specs.Symbol.{least, first, nearest, nearest_word, nearest_but, symbol_of}
use Rattle.codes.specs.declared.Symbol.{Symbol}
use Rattle.codes.proofs.Facts.{oqpsk_flat, lowband_flat}
use Rattle.frame.specs.Outcome.{outcome}
use Rattle.frame.specs.Frame.{octets_with, digits, raws, encode, plain, symbols, symbols_with, chips_of, frame, frame_with}
use Rattle.frame.specs.Write.{written}
use Rattle.frame.proofs.Count.{bpsk_chips, oqpsk_chips, lowband_chips}

-- chips with the first k inverted
abbrev pub inverted : ℕ → List ℕ → List ℕ
inverted zero w = w
inverted (suc k) [] = []
inverted (suc k) (x ∷ w) = (1 - x) ∷ inverted k w

-- a number, the nearest word, how far it is and how far the next-nearest is
abbrev pub says : ℕ → ℕ → ℕ → ℕ → Symbol
says x v d n = record { number = x; value = v; distance = d; next = n }

-- a symbol lost, and a symbol read
abbrev pub lost : ℕ → ℕ → ℕ → Symbol
lost = says LOST

abbrev pub reads : ℕ → ℕ → ℕ → Symbol
reads = says DONE

pub record BenchSheet : Type 0 where
  -- mode 1 words 0 and 9 differ in 12 chips
  pub A : distance (word oqpsk 0) (word oqpsk 9) ≡ 12
  -- 0 and 3 in 20
  pub B : distance (word oqpsk 0) (word oqpsk 3) ≡ 20
  -- 0 and 8 in 16
  pub C : distance (word oqpsk 0) (word oqpsk 8) ≡ 16
  -- 32 flat chips, all 0 or all 1, are 16 from every mode 1 word: 6
  pub D : (c : ℕ) → c ≤ 1 → ((v : ℕ) → v < 16 → distance (replicate 32 c) (word oqpsk v) ≡ 16) × (symbol_of oqpsk (replicate 32 c) ≡ lost 0 16 16)
  -- 15 zeros are 7 from the word for 1 and 8 from the word for 0: 6
  pub E : (distance (replicate 15 0) (word bpsk 1) ≡ 7) × (distance (replicate 15 0) (word bpsk 0) ≡ 8) × (symbol_of bpsk (replicate 15 0) ≡ lost 1 7 8)
  -- 15 ones are 7 from the word for 0: 6
  pub F : (distance (replicate 15 1) (word bpsk 0) ≡ 7) × (symbol_of bpsk (replicate 15 1) ≡ lost 0 7 8)
  -- word 0 of mode 1 with its first five chips inverted reads as 0 at distance 5
  pub G : symbol_of oqpsk (inverted 5 (word oqpsk 0)) ≡ reads 0 5 13
  -- with its first six inverted: 6
  pub H : symbol_of oqpsk (inverted 6 (word oqpsk 0)) ≡ lost 0 6 14
  -- the mode 0 word for 0 with its first six inverted reads as 0
  pub I : symbol_of bpsk (inverted 6 (word bpsk 0)) ≡ reads 0 6 9
  -- with seven: 6; with nine it reads as 1
  pub J : (symbol_of bpsk (inverted 7 (word bpsk 0)) ≡ lost 0 7 8) × (symbol_of bpsk (inverted 9 (word bpsk 0)) ≡ reads 1 6 9)
  -- the start octet is symbols 7, 10 in mode 1 and encoded bits 1 0 1 1 1 0 0 1 after the preamble
  -- in mode 0
  pub K : (report : List ℕ) → (take 2 (drop 8 (symbols oqpsk report)) ≡ 7 ∷ 10 ∷ [])
      × (take 8 (drop 32 (symbols bpsk report)) ≡ 1 ∷ 0 ∷ 1 ∷ 1 ∷ 1 ∷ 0 ∷ 0 ∷ 1 ∷ [])
  -- five octets give 704 chips in mode 1 and 1,320 in mode 0
  pub L : (report : List ℕ) → length report ≡ 5 → (length (frame oqpsk report) ≡ 704) × (length (frame bpsk report) ≡ 1320)

-- mode 2's, each under the letter of the line that it is like
pub record LowbandSheet : Type 0 where
  -- words 0 and 10 differ in 6 chips
  pub A : distance (word lowband 0) (word lowband 10) ≡ 6
  -- 0 and 3 in 10
  pub B : distance (word lowband 0) (word lowband 3) ≡ 10
  -- 0 and 8 in 8
  pub C : distance (word lowband 0) (word lowband 8) ≡ 8
  -- 16 flat chips, all 0 or all 1, are 8 from every word: 6
  pub D : (c : ℕ) → c ≤ 1 → ((v : ℕ) → v < 16 → distance (replicate 16 c) (word lowband v) ≡ 8) × (symbol_of lowband (replicate 16 c) ≡ lost 0 8 8)
  -- word 0 with its first two chips inverted reads as 0 at distance 2
  pub G : symbol_of lowband (inverted 2 (word lowband 0)) ≡ reads 0 2 6
  -- with its first three inverted: 6
  pub H : symbol_of lowband (inverted 3 (word lowband 0)) ≡ lost 0 3 7
  -- the start octet is symbols 7, 10
  pub K : (report : List ℕ) → take 2 (drop 8 (symbols lowband report)) ≡ 7 ∷ 10 ∷ []
  -- five octets give 352 chips
  pub L : (report : List ℕ) → length report ≡ 5 → length (frame lowband report) ≡ 352

lost_flat : (r : Radio) (x : Symbol) → symbol_of r (replicate r.size 0) ≡ x → symbol_of r (replicate r.size 1) ≡ x
    → (c : ℕ) → c ≤ 1 → symbol_of r (replicate r.size c) ≡ x
lost_flat r x z o zero h = z
lost_flat r x z o (suc zero) h = o
lost_flat r x z o (suc (suc c)) h = absurd (omega arith)

pub bench : BenchSheet
unfolding distance bad least first nearest nearest_word nearest_but symbol_of bpsk_words oqpsk_words turned_words turns turned odd_inverted oqpsk_word
    digits raws encode symbols_with
bench =
    record {
      A = refl;
      B = refl;
      C = refl;
      D = λ c h. (oqpsk_flat c h, lost_flat oqpsk (lost 0 16 16) refl refl c h);
      E = (refl, refl, refl);
      F = (refl, refl);
      G = refl;
      H = refl;
      I = refl;
      J = (refl, refl);
      K = λ report. (refl, refl);
      L = λ report h. (omega (arith, oqpsk_chips plain report), omega (arith, bpsk_chips plain report));
    }

pub lowband_bench : LowbandSheet
unfolding distance bad least first nearest nearest_word nearest_but symbol_of lowband_words turned_words turns turned odd_inverted lowband_word
    digits raws encode symbols_with
lowband_bench =
    record {
      A = refl;
      B = refl;
      C = refl;
      D = λ c h. (lowband_flat c h, lost_flat lowband (lost 0 8 8) refl refl c h);
      G = refl;
      H = refl;
      K = λ report. refl;
      L = λ report h. omega (arith, lowband_chips plain report);
    }

-- Every frame that is written: its length octet is n, the reserved bit 0, and its chain starts from
-- 0.
pub written_plain : (r : Radio) (report : List ℕ)
    → frame r report ≡ chips_of r (encode r 0 (raws r (0 ∷ 0 ∷ 0 ∷ 0 ∷ 0xA7 ∷ length report ∷ report)))
unfolding frame_with symbols_with
written_plain r report =
    let e : length report + 128 * 0 ≡ length report = omega arith in
    ap (λ (n : ℕ). chips_of r (encode r 0 (raws r (0 ∷ 0 ∷ 0 ∷ 0 ∷ 0xA7 ∷ n ∷ report)))) e

-- What the writer leaves of two octets in mode 2, in numerals: a length octet of 2, its reserved
-- bit 0, and a byte behind the frame as it was. And the octets of a frame with that bit set.
pub written_sheet : (written 2 (1 ∷ 2 ∷ []) (replicate 257 9)
    ≡ outcome (record { number = 0; chips = 256 }) (chips_of lowband (0 ∷ 0 ∷ 0 ∷ 0 ∷ 0 ∷ 0 ∷ 0 ∷ 0 ∷ 7 ∷ 10 ∷ 2 ∷ 0 ∷ 1 ∷ 0 ∷ 2 ∷ 0 ∷ []) ++ 9 ∷ []))
    × (octets_with 1 (1 ∷ 2 ∷ []) ≡ 0 ∷ 0 ∷ 0 ∷ 0 ∷ 0xA7 ∷ 0x82 ∷ 1 ∷ 2 ∷ [])
unfolding written lowband_words turned_words turns turned odd_inverted lowband_word digits raws encode symbols_with chips_of frame_with
written_sheet = (refl, refl)
