-- Matching one symbol: 1, 11 and 5 in that order, with zeros; else 0 or 6, by the limit, and either
-- way the nearest word, the lowest number on a tie, how far it is, and how far the next-nearest
-- other word is. Every radio. Assumes nothing.
use mathlib.Core.Path.{◌≡◌, refl, sym, ◌∙◌}
use mathlib.Core.Bool.{true, false}
use mathlib.Core.List.{List, [], ◌∷◌}
use Prim.Native.Nat.{ℕ}
use native.Mathlib.Omega.{arith}
use lib.ListN.{length}
use lib.Dec.{eqb, leb}
use borrow.Author.Tests.{eq-eqb, ne_eqb}
use Rattle.codes.specs.Numbers.{DONE, BADMODE, NOCHIP, LOST, BADPART}
use Rattle.codes.specs.Chips.{pick, among, bad}
use Rattle.codes.specs.Radio.{Radio, Sound, known, radio_of}
use Rattle.codes.specs.Symbol.{nearest, nearest_word, closeness, symbol_of, match_of}
use Rattle.codes.specs.declared.Symbol.{Symbol}
use Rattle.codes.proofs.Tests.{by_pick}
use Rattle.codes.proofs.Leasts.{nearest_le, nearest_at, nearest_first, but_le, but_at}
use Rattle.codes.proofs.Unique.{some_words, two_words, symbol_numbers, nochip_of}
use Rattle.codes.proofs.Facts.{sound}
use Rattle.demands.specs.Match.{Says}

-- the nearest word with both distances says so, whatever number it comes with
closeness_says : (r : Radio) → Sound r → (chips : List ℕ) (x : ℕ) → Says r chips (closeness x r chips)
closeness_says r S chips x =
    let w = nearest_at r chips (some_words r S) in
    record {
      known = w.0;
      apart = sym w.1;
      nearest = nearest_le r chips;
      lowest = λ u l. nearest_first r chips u l (omega (arith, w.0));
      next = but_le r chips (nearest_word r chips) w.0;
      other = but_at r chips (nearest_word r chips) w.0 (two_words r S);
    }

-- a number, with zeros
abbrev nothing : ℕ → Symbol
nothing x = record { number = x; value = 0; distance = 0; next = 0 }

module _ (mode : ℕ) (part : List ℕ) where
  -- A mode that has no radio is 1, whatever the part.
  pub match_bad_mode : known mode ≡ false → match_of mode part ≡ nothing 1
  unfolding match_of
  match_bad_mode k = rw k

  module _ (k : known mode ≡ true) where
    -- A part that isn't exactly one symbol long is 11, whatever its bytes.
    pub match_bad_part : (length part ≡ (radio_of mode).size → ⊥) → match_of mode part ≡ nothing 11
    unfolding match_of
    match_bad_part n = rw (k, ne_eqb (length part) (radio_of mode).size n)

    module _ (l : length part ≡ (radio_of mode).size) where
      matched : match_of mode part ≡ symbol_of (radio_of mode) part
      unfolding match_of
      matched = rw (k, eq-eqb (length part) (radio_of mode).size l)

      -- A byte above 1 in one is 5.
      pub match_no_chip : bad part ≡ true → match_of mode part ≡ nothing 5
      match_no_chip b = matched ∙ nochip_of (radio_of mode) part b

      -- Of chips the answer is 0 where the nearest word is within the limit, else 6, and says which
      -- it is and how far, and how far the next-nearest other word is.
      pub match_says : bad part ≡ false
          → ((match_of mode part).number ≡ pick (leb (match_of mode part).distance (radio_of mode).limit) DONE LOST)
          × Says (radio_of mode) part (match_of mode part)
      unfolding symbol_of
      match_says b =
          let r = radio_of mode in
          let e : match_of mode part ≡ closeness (pick (leb (nearest r part) r.limit) DONE LOST) r part = matched ∙ rw b in
          rw e (refl, closeness_says r (sound mode) part _)

  -- Match gives back one of these numbers.
  pub match_numbers : among (match_of mode part).number (DONE ∷ BADMODE ∷ NOCHIP ∷ LOST ∷ BADPART ∷ []) ≡ true
  unfolding match_of
  match_numbers =
      by_pick P (known mode) _ _
      (λ _. by_pick P (eqb (length part) (radio_of mode).size) _ _
      (λ _. symbol_numbers (radio_of mode) part (λ x. among x (DONE ∷ BADMODE ∷ NOCHIP ∷ LOST ∷ BADPART ∷ []) ≡ true) refl refl refl) (λ _. refl))
      (λ _. refl)
    where
      P : Symbol → Type 0
      P x = among x.number (DONE ∷ BADMODE ∷ NOCHIP ∷ LOST ∷ BADPART ∷ []) ≡ true
