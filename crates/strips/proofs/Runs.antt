-- The strip of a mode's radio holds each of its words, at the word's row; and how the loops make
-- it. Assumes nothing.
use mathlib.Core.Path.{◌≡◌, refl, ap, sym, ◌∙◌}
use mathlib.Core.Bool.{Bool, true, false}
use mathlib.Core.List.{List}
use Prim.Native.Nat.{ℕ, ◌+◌, ◌*◌, ◌/◌, ◌%◌, ◌^◌, ◌≤◌, ◌<◌}
use native.Mathlib.Omega.{arith}
use lib.ListN.{length, get_or, take, drop, set, replicate, length-set, get_or-replicate}
use lib.Seq.{ext_get_or, get_or-set_same, get_or-set_other}
use lib.Bits.{bit_xor}
use lib.Dec.{eqb, leb, ltb}
use lib.Pointwise.{pointwise, bytes_decides}
use borrow.Author.Tests.{eqb-true, eqb-false, leb-true, ltb-true, ltb-false, lt-ltb, le-ltb}
use Rattle.codes.specs.declared.Phy.{Phy}
use Rattle.codes.specs.Chips.{pick, bad}
use Rattle.codes.specs.Radio.{Radio, bpsk_words, oqpsk_word, oqpsk_words, lowband_word, lowband_words, turned_words, turns, turned, odd_inverted}
use Rattle.codes.specs.Radio.{known, radio_of, word}
use Rattle.codes.specs.Packed.{packed}
use Rattle.codes.specs.Gathered.{gathered, gathered_all, listed}
use Rattle.codes.specs.Phy.{phy_of, no_phy, phy_at}
use Rattle.strips.specs.Strip.{chip_of, flip_of, strip_chip, strip_at, row_by, row_at, Fits}
use Rattle.codes.proofs.Tests.{by_test, both_true, every, each}
use Rattle.codes.proofs.Chips.{window_chip}
use Rattle.codes.proofs.Modes.{each_row, every_row, row_test, phy_known}
use Rattle.codes.proofs.Gathering.{listed_long, listed_at}

-- a strip has 128 chips
pub strip_long : (mode : ℕ) → length (strip_at mode) ≡ 128
unfolding strip_at
strip_long mode = listed_long (strip_chip (phy_at mode)) 128

-- the word of v is the run of a strip at its row, and lies in it: one test of each word
run_test : Radio → Phy → List ℕ → ℕ → Bool
run_test r p strip v = pick (leb (row_by p v + r.size) 128) (pointwise eqb (take r.size (drop (row_by p v) strip)) (word r v)) false

Runs : Radio → Phy → Type 0
Runs r p = every (run_test r p (listed (strip_chip p) 128)) (length r.words) ≡ true

runs : (mode : ℕ) → Runs (radio_of mode) (phy_of (radio_of mode))
unfolding
    Runs run_test every listed chip_of gathered gathered_all packed bad
    bpsk_words oqpsk_word oqpsk_words lowband_word lowband_words turned_words turns turned odd_inverted
runs = each_row (λ r. Runs r (phy_of r)) refl refl refl

module _ (mode : ℕ) (m : known mode ≡ true) (v : ℕ) (h : v < length (radio_of mode).words) where
  run_at : (leb (row_at mode v + (radio_of mode).size) 128 ≡ true)
      × (pointwise eqb (take (radio_of mode).size (drop (row_at mode v) (strip_at mode))) (word (radio_of mode) v) ≡ true)
  unfolding Runs run_test row_at strip_at
  run_at = rw (phy_known mode m) (both_true _ _ (each _ (length (radio_of mode).words) (runs mode) v h))

  pub strip_row : take (radio_of mode).size (drop (row_at mode v) (strip_at mode)) ≡ word (radio_of mode) v
  strip_row = (bytes_decides _ _).0 run_at.1

  pub strip_fits : row_at mode v + (radio_of mode).size ≤ 128
  strip_fits = leb-true _ _ run_at.0

-- chip k of a word, and of the strip from the word's row on
pub strip_chip_lem : (mode : ℕ) → known mode ≡ true → (v k : ℕ) → v < length (radio_of mode).words → k < (radio_of mode).size
    → get_or (strip_at mode) (row_at mode v + k) 0 ≡ get_or (word (radio_of mode) v) k 0
strip_chip_lem mode h v k hv hk =
    window_chip (strip_at mode) (row_at mode v) (radio_of mode).size k hk ∙ ap (λ (u : List ℕ). get_or u k 0) (strip_row mode h v hv)

-- the numbers of a mode's radio are small, and where there is one a chip's place is one of 64 bits
row_fits : (mode : ℕ) → Fits (phy_of (radio_of mode)) × (2 ^ (radio_of mode).bits ≤ 16)
row_fits mode = (
  record {
    some = above (λ p. p.eights) 1 refl;
    few = upto (λ p. p.eights) 4 refl;
    near = upto (λ p. p.step) 8 refl;
    lifted = above (λ p. p.lift) 1 refl;
    low = upto (λ p. p.eights * p.lift) 8 refl;
  },
  upto (λ p. p.values) 16 refl,
)
  where
    upto : (f : Phy → ℕ) (n : ℕ) → every_row (λ r. leb (f (phy_of r)) n) ≡ true → f (phy_of (radio_of mode)) ≤ n
    upto f n t = leb-true _ _ (row_test (λ r. leb (f (phy_of r)) n) t mode)

    above : (f : Phy → ℕ) (n : ℕ) → every_row (λ r. leb n (f (phy_of r))) ≡ true → n ≤ f (phy_of (radio_of mode))
    above f n t = leb-true _ _ (row_test (λ r. leb n (f (phy_of r))) t mode)

module _ (mode : ℕ) (p : Phy) (e : p ≡ phy_at mode) where
  pub phy_few : (p.eights ≤ 4) × (p.values ≤ 16)
  unfolding phy_at
  phy_few =
      by_test (known mode)
      (λ k. let q : p ≡ phy_of (radio_of mode) = e ∙ rw k in rw q ((row_fits mode).0.few, (row_fits mode).1))
      (λ k. let q : p ≡ no_phy = e ∙ rw k in rw q (omega arith, omega arith))

  pub phy_fits : 1 ≤ p.eights → Fits p
  unfolding phy_at
  phy_fits h =
      by_test (known mode)
      (λ k. let q : p ≡ phy_of (radio_of mode) = e ∙ rw k in rw q (row_fits mode).0)
      (λ k. let q : p ≡ no_phy = e ∙ rw k in absurd (omega (arith, ap (λ (x : Phy). x.eights) q)))

-- a row's numbers, where there is such a word
pub record Row (p : Phy) (v : ℕ) : Type 0 where
  pub some : 0 < p.values / 2
  pub half : 16 * p.eights * (v / (p.values / 2)) ≤ 64
  pub turn : p.eights * (v % (p.values / 2)) ≤ 8 * p.eights

pub row_few : (mode : ℕ) (p : Phy) → p ≡ phy_at mode → (v : ℕ) → v < p.values → Row p v
unfolding phy_at
row_few mode p e v h =
    by_test (known mode)
    (λ k. let q : p ≡ phy_of (radio_of mode) = e ∙ rw k in rw q (row_of_row mode v (rw q at h)))
    (λ k. let q : p ≡ no_phy = e ∙ rw k in absurd (omega (arith, ap (λ (x : Phy). x.values) q)))
  where
    row_of_row : (mode : ℕ) → (v : ℕ) → v < 2 ^ (radio_of mode).bits → Row (phy_of (radio_of mode)) v
    row_of_row =
        each_row (λ r. (v : ℕ) → v < 2 ^ r.bits → Row (phy_of r) v)
        (λ v h. record { some = omega arith; half = omega arith; turn = omega arith })
        (λ v h. record { some = omega arith; half = omega arith; turn = omega arith })
        (λ v h. record { some = omega arith; half = omega arith; turn = omega arith })

-- the chips of a strip: of its first half, of its second, and behind both
module _ (p : Phy) (i : ℕ) where
  pub first_half : i < 16 * p.eights → chip_of p i ≡ strip_chip p i
  first_half h = rw (lt-ltb i (16 * p.eights) h)

  pub second_half : 16 * p.eights ≤ i → i < 2 * (16 * p.eights) → bit_xor (chip_of p i) (flip_of p.values i) ≡ strip_chip p i
  second_half l h = rw (le-ltb i (16 * p.eights) l, lt-ltb i (2 * (16 * p.eights)) h)

  pub behind : 2 * (16 * p.eights) ≤ i → strip_chip p i ≡ 0
  behind h = rw (le-ltb i (16 * p.eights) (omega arith), le-ltb i (2 * (16 * p.eights)) h)

-- A strip in the making: the first i chips of 128, and zeros. A turn stores the next.
pub record Made (f : ℕ → ℕ) (t : List ℕ) (i : ℕ) : Type 0 where
  long : length t ≡ 128
  chips : (j : ℕ) → j < 128 → get_or t j 0 ≡ pick (ltb j i) (f j) 0

module _ (f : ℕ → ℕ) where
  pub made_none : Made f (replicate 128 0) 0
  made_none = record { long = refl; chips = λ j h. get_or-replicate 128 j 0 0 h ∙ rw (le-ltb j 0 (omega arith)) }

  pub made_turn : (t : List ℕ) (i x : ℕ) → i < 128 → x ≡ f i → Made f t i → Made f (set t i x) (i + 1)
  made_turn t i x h e M =
      record {
        long = length-set t i x ∙ M.long;
        chips = λ j l. by_test (eqb j i)
            (λ q. let z = eqb-true j i q in
            rw (z, lt-ltb i (i + 1) (omega arith)) (get_or-set_same t i x 0 (omega (arith, M.long)) ∙ e))
            (λ q. let n = eqb-false j i q in
            get_or-set_other t i j x 0 (λ z. n z)
            ∙ M.chips j l
            ∙ by_test (ltb j i)
            (λ s. rw (s, lt-ltb j (i + 1) (omega (arith, ltb-true j i s))))
            (λ s. rw (s, le-ltb j (i + 1) (omega (arith, ltb-false j i s, n)))));
      }

  -- where the others are 0, all are made
  pub made_all : (t : List ℕ) (i : ℕ) → Made f t i → ((j : ℕ) → i ≤ j → f j ≡ 0) → t ≡ listed f 128
  made_all t i M z =
      ext_get_or 0 t (listed f 128) (M.long ∙ sym (listed_long f 128))
      (λ j h.
      let l : j < 128 = omega (arith, M.long) in
      M.chips j l
      ∙ by_test (ltb j i) (λ s. rw s (sym (listed_at f 128 j l))) (λ s. rw s (sym (listed_at f 128 j l ∙ z j (ltb-false j i s)))))
