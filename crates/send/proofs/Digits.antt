-- A turn of the loop over an argument's digits: what is still to be read is the mode.
-- Assumes nothing.
use Rattle.std.proofs.Common.{◌≡◌, refl, sym, ◌∙◌, ℕ, ◌+◌, ◌-◌, ◌*◌, ◌≤◌, ◌<◌, ◌⊎◌, inl, inr, min, true, false, ◌==◌, leb, List, [], ◌∷◌, length, get_or, drop, drop-cons, add-one, arith}
use lib.Seq.{drop-length}
use Rattle.codes.proofs.Tests.{by_test}
use borrow.Author.Tests.{le-leb, lt-leb, ne_eqb}
use Rattle.send.specs.Mode.{none, mode_from, mode_of}

pub no_text : (text : List ℕ) → true ≡ (length text == 0) → mode_of text ≡ none
unfolding mode_of
no_text [] e = refl
no_text (c ∷ cs) e = let k : (length (c ∷ cs) == 0) ≡ false = ne_eqb (length (c ∷ cs)) 0 (λ h. omega arith) in cc

pub some_text : (text : List ℕ) → false ≡ (length text == 0) → mode_of text ≡ mode_from 0 text
unfolding mode_of
some_text [] e = cc
some_text (c ∷ cs) e = refl

-- whatever follows `none`, it stays
stays : (cs : List ℕ) → mode_from none cs ≡ none
unfolding mode_from
stays [] = refl
stays (c ∷ cs) =
    let k : min (10 * none + (c - 48)) none ≡ none = omega arith in
    by_test (leb 48 c) (λ l. by_test (leb c 57) (λ g. rw (l, g, k) (stays cs)) (λ g. rw (l, g))) (λ l. rw l)

module _ (text : List ℕ) (m i : ℕ) (e : mode_of text ≡ mode_from m (drop i text)) where
  pub all_read : i ≤ length text → length text ≤ i → m ≡ mode_of text
  unfolding mode_from
  all_read l h = let z : i ≡ length text = omega arith in sym (e ∙ rw (z, drop-length text))

  module _ (h : i < length text) where
    pub no_digit : (get_or text i 0 < 48) ⊎ (57 < get_or text i 0) → mode_of text ≡ none
    unfolding mode_from
    no_digit (inl l) = e ∙ rw (drop-cons text i 0 h, lt-leb 48 (get_or text i 0) l)
    no_digit (inr g) = e ∙ rw (drop-cons text i 0 h, le-leb 48 (get_or text i 0) (omega arith), lt-leb (get_or text i 0) 57 g)

    module _ (l : 48 ≤ get_or text i 0) (g : get_or text i 0 ≤ 57) where
      one_more : mode_of text ≡ mode_from (min (10 * m + (get_or text i 0 - 48)) none) (drop (i + 1) text)
      unfolding mode_from
      one_more = e ∙ rw (add-one, drop-cons text i 0 h, le-leb 48 (get_or text i 0) l, le-leb (get_or text i 0) 57 g)

      pub digit : (n : ℕ) → n ≡ m * 10 + (get_or text i 0 - 48) → n < 4294967296 → mode_of text ≡ mode_from n (drop (i + 1) text)
      digit n q b = let k : min (10 * m + (get_or text i 0 - 48)) none ≡ n = omega arith in one_more ∙ rw k

      pub too_large : 4294967296 ≤ m * 10 + (get_or text i 0 - 48) → mode_of text ≡ none
      too_large b = let k : min (10 * m + (get_or text i 0 - 48)) none ≡ none = omega arith in one_more ∙ rw k (stays (drop (i + 1) text))
