-- Facts of the words that the work stands on, each one test that antt computes over every word or
-- pair of words, and from them that every radio is sound. Assumes nothing.
use Rattle.std.proofs.Common.{◌≡◌, ℕ, zero, suc, ◌+◌, ◌*◌, ◌/◌, ◌^◌, ◌<◌, ◌≤◌, Bool, true, false, not, eqb, ltb, List, [], ◌∷◌, length, replicate, refl, arith, ltb-true, ne_eqb, eqb-true}
use borrow.Author.Tests.{eqb-false, not-true}
use Rattle.codes.specs.Chips.{pick, among, distance, bad}
use Rattle.codes.specs.Radio.{Radio, word, Sound, Unflat, radio_of, bpsk, oqpsk, lowband}
use Rattle.codes.specs.Radio.{bpsk_words, oqpsk_word, oqpsk_words, lowband_word, lowband_words, turned, turns, odd_inverted, turned_words}
use Rattle.codes.specs.Symbol.{least, nearest_but, Spaced}
use Rattle.codes.proofs.Tests.{by_test, not_both, every, each}
use Rattle.codes.proofs.Modes.{each_row}

abbrev pub ones : List ℕ → ℕ
ones [] = 0
ones (x ∷ xs) = x + ones xs

-- a test of each word, and of each pair of different words
every_word : Radio → (ℕ → Bool) → Bool
every_word r p = every p (length r.words)

every_pair : Radio → (ℕ → ℕ → Bool) → Bool
every_pair r p = every (λ u. every (λ v. pick (eqb u v) true (p u v)) (length r.words)) (length r.words)

each_word : (r : Radio) (p : ℕ → Bool) → every_word r p ≡ true → (v : ℕ) → v < length r.words → p v ≡ true
unfolding every_word
each_word r p t = each p (length r.words) t

each_pair : (r : Radio) (p : ℕ → ℕ → Bool) → every_pair r p ≡ true → (u v : ℕ) → u < length r.words → v < length r.words → (u ≡ v → ⊥) → p u v ≡ true
unfolding every_pair
each_pair r p t u v hu hv n =
    rw (ne_eqb u v n) at (each (λ v. pick (eqb u v) true (p u v)) (length r.words)
    (each (λ u. every (λ v. pick (eqb u v) true (p u v)) (length r.words)) (length r.words) t u hu) v hv)

-- any two mode 1 words differ in 12, 14, 16, 18 or 20 chips
pub oqpsk_pairs : (u v : ℕ) → u < 16 → v < 16 → (u ≡ v → ⊥) → among (distance (word oqpsk u) (word oqpsk v)) (12 ∷ 14 ∷ 16 ∷ 18 ∷ 20 ∷ []) ≡ true
unfolding every_pair every distance oqpsk_words turned_words turns turned odd_inverted oqpsk_word
oqpsk_pairs = each_pair oqpsk (λ u v. among (distance (word oqpsk u) (word oqpsk v)) (12 ∷ 14 ∷ 16 ∷ 18 ∷ 20 ∷ [])) refl

-- every mode 1 word has 16 ones
pub oqpsk_ones : (v : ℕ) → v < 16 → ones (word oqpsk v) ≡ 16
unfolding every_word every oqpsk_words turned_words turns turned odd_inverted oqpsk_word
oqpsk_ones v h = eqb-true _ _ (each_word oqpsk (λ v. eqb (ones (word oqpsk v)) 16) refl v h)

-- the two mode 0 words differ in all 15 chips and have 8 and 7 ones
pub bpsk_words_lem : (distance (word bpsk 0) (word bpsk 1) ≡ 15) × (ones (word bpsk 0) ≡ 8) × (ones (word bpsk 1) ≡ 7)
unfolding distance bpsk_words
bpsk_words_lem = (refl, refl, refl)

-- any two mode 2 words differ in 6, 8 or 10 chips
pub lowband_pairs : (u v : ℕ) → u < 16 → v < 16 → (u ≡ v → ⊥) → among (distance (word lowband u) (word lowband v)) (6 ∷ 8 ∷ 10 ∷ []) ≡ true
unfolding every_pair every distance lowband_words turned_words turns turned odd_inverted lowband_word
lowband_pairs = each_pair lowband (λ u v. among (distance (word lowband u) (word lowband v)) (6 ∷ 8 ∷ 10 ∷ [])) refl

-- every mode 2 word has 8 ones
pub lowband_ones : (v : ℕ) → v < 16 → ones (word lowband v) ≡ 8
unfolding every_word every lowband_words turned_words turns turned odd_inverted lowband_word
lowband_ones v h = eqb-true _ _ (each_word lowband (λ v. eqb (ones (word lowband v)) 8) refl v h)

-- flat chips, all 0 or all 1, stand d from every word
abbrev pub FlatApart : Radio → ℕ → Type 0
FlatApart r d = (c : ℕ) → c ≤ 1 → (v : ℕ) → v < 2 ^ r.bits → distance (replicate r.size c) (word r v) ≡ d

flat_at : Radio → ℕ → ℕ → ℕ → Bool
flat_at r d c v = eqb (distance (replicate r.size c) (word r v)) d

flat_apart : (r : Radio) (d : ℕ) → every (flat_at r d 0) (2 ^ r.bits) ≡ true → every (flat_at r d 1) (2 ^ r.bits) ≡ true → FlatApart r d
unfolding flat_at
flat_apart r d z o zero l v h = eqb-true _ _ (each (flat_at r d 0) (2 ^ r.bits) z v h)
flat_apart r d z o (suc zero) l v h = eqb-true _ _ (each (flat_at r d 1) (2 ^ r.bits) o v h)
flat_apart r d z o (suc (suc c)) l v h = absurd (omega arith)

-- 16 in mode 1, 8 in mode 2
pub oqpsk_flat : FlatApart oqpsk 16
unfolding flat_at every distance oqpsk_words turned_words turns turned odd_inverted oqpsk_word
oqpsk_flat = flat_apart oqpsk 16 refl refl

pub lowband_flat : FlatApart lowband 8
unfolding flat_at every distance lowband_words turned_words turns turned odd_inverted lowband_word
lowband_flat = flat_apart lowband 8 refl refl

-- a flat symbol, all 0 or all 1, is farther than the limit from every word
flat_test : Radio → Bool
flat_test r = every_word r (λ v. pick (ltb r.limit (distance (replicate r.size 0) (word r v)))
    (ltb r.limit (distance (replicate r.size 1) (word r v))) false)

unflat_by : (r : Radio) → flat_test r ≡ true → Unflat r
unfolding flat_test
unflat_by r t c v l h = go c l (ltb r.limit (distance (replicate r.size 0) (word r v))) refl (each_word r _ t v h)
  where
    go : (c : ℕ) → c ≤ 1 → (b : Bool) → ltb r.limit (distance (replicate r.size 0) (word r v)) ≡ b
        → pick b (ltb r.limit (distance (replicate r.size 1) (word r v))) false ≡ true → r.limit < distance (replicate r.size c) (word r v)
    go c l false e x = not_both false x refl
    go zero l true e x = ltb-true _ _ e
    go (suc zero) l true e x = ltb-true _ _ x
    go (suc (suc c)) l true e x = absurd (omega arith)

-- from every word the nearest other word is 15 away in mode 0, 12 in mode 1, 6 in mode 2
spaced_by : (r : Radio) (d : ℕ) → every_word r (λ v. eqb (nearest_but r (word r v) v) d) ≡ true → Spaced r d
spaced_by r d t v h = eqb-true _ _ (each_word r (λ v. eqb (nearest_but r (word r v) v) d) t v h)

pub spaced_bpsk : Spaced bpsk 15
unfolding every_word every least nearest_but distance bpsk_words
spaced_bpsk = spaced_by bpsk 15 refl

pub spaced_oqpsk : Spaced oqpsk 12
unfolding every_word every least nearest_but distance oqpsk_words turned_words turns turned odd_inverted oqpsk_word
spaced_oqpsk = spaced_by oqpsk 12 refl

pub spaced_lowband : Spaced lowband 6
unfolding every_word every least nearest_but distance lowband_words turned_words turns turned odd_inverted lowband_word
spaced_lowband = spaced_by lowband 6 refl

-- the tests that make a radio sound
sized_test : Radio → Bool
sized_test r = every_word r (λ v. eqb (length (word r v)) r.size)

chips_test : Radio → Bool
chips_test r = every_word r (λ v. not (bad (word r v)))

apart_test : Radio → Bool
apart_test r = every_pair r (λ u v. ltb (2 * r.limit) (distance (word r u) (word r v)))

sound_by : (r : Radio) → sized_test r ≡ true → chips_test r ≡ true → apart_test r ≡ true
    → length r.words ≡ 2 ^ r.bits → (r.chained ≡ true → r.bits ≡ 1) → 8 / r.bits * r.bits ≡ 8 → Sound r
unfolding sized_test chips_test apart_test
sound_by r s c a m b o =
    record {
      sized = λ v h. eqb-true _ _ (each_word r (λ v. eqb (length (word r v)) r.size) s v h);
      chips = λ v h. not-true _ (each_word r (λ v. not (bad (word r v))) c v h);
      many = m;
      apart = λ u v hu hv l. by_test (eqb u v) (λ e. eqb-true _ _ e)
          (λ e. absurd (omega (
            arith,
            ltb-true (2 * r.limit) (distance (word r u) (word r v))
                (each_pair r (λ u v. ltb (2 * r.limit) (distance (word r u) (word r v))) a u v hu hv (eqb-false _ _ e)),
          )));
      single = b;
      divides = o;
    }

pub sound_bpsk : Sound bpsk
unfolding sized_test chips_test apart_test every_word every_pair every distance bad bpsk_words
sound_bpsk = sound_by bpsk refl refl refl refl (λ _. refl) refl

pub sound_oqpsk : Sound oqpsk
unfolding sized_test chips_test apart_test every_word every_pair every distance bad oqpsk_words turned_words turns turned odd_inverted oqpsk_word
sound_oqpsk = sound_by oqpsk refl refl refl refl (λ c. not_both false c refl) refl

pub sound_lowband : Sound lowband
unfolding sized_test chips_test apart_test every_word every_pair every distance bad lowband_words turned_words turns turned odd_inverted lowband_word
sound_lowband = sound_by lowband refl refl refl refl (λ c. not_both false c refl) refl

unflat_bpsk : Unflat bpsk
unfolding flat_test every_word every distance bpsk_words
unflat_bpsk = unflat_by bpsk refl

unflat_oqpsk : Unflat oqpsk
unfolding flat_test every_word every distance oqpsk_words turned_words turns turned odd_inverted oqpsk_word
unflat_oqpsk = unflat_by oqpsk refl

unflat_lowband : Unflat lowband
unfolding flat_test every_word every distance lowband_words turned_words turns turned odd_inverted lowband_word
unflat_lowband = unflat_by lowband refl

-- no row takes a flat symbol for a word
pub unflat : (mode : ℕ) → Unflat (radio_of mode)
unflat = each_row Unflat unflat_bpsk unflat_oqpsk unflat_lowband

-- each row is sound
pub sound : (mode : ℕ) → Sound (radio_of mode)
sound = each_row Sound sound_bpsk sound_oqpsk sound_lowband
