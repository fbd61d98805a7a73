-- The front of a buffer and its windows: what is said of the one by the others, for any radio; and
-- the windows of a row of words, for a sound one. Assumes nothing.
use mathlib.Core.Path.{◌≡◌, refl, sym, ap, ◌∙◌}
use mathlib.Core.Bool.{true, false}
use mathlib.Core.Logic.{⊎_elim}
use mathlib.Core.List.{List, [], ◌∷◌, ◌++◌}
use Prim.Native.Nat.{ℕ, zero, suc, ◌+◌, ◌*◌, ◌^◌, ◌≤◌, ◌<◌}
use native.Mathlib.Nat.{zero-mul, suc-mul, eq-or-lt_of_le}
use native.Mathlib.Omega.{arith}
use lib.ListN.{length, get_or, take, drop, length-take, length-drop}
use lib.Seq.{take-add, take-take, take_at, length-take-le}
use Rattle.codes.specs.Chips.{pick, distance, bad}
use Rattle.codes.specs.Radio.{Radio, Sound, word}
use Rattle.codes.proofs.Tests.{by_test, not_both, upto}
use Rattle.codes.proofs.Chips.{distance_append, bad_append}
use Rattle.codes.proofs.Rows.{row_in, drop_past}
use Rattle.frame.specs.Frame.{chips_of}
use Rattle.frame.proofs.Count.{word_long}
use Rattle.frame.proofs.Below.{Below}
use Rattle.order.specs.Order.{window}
use Rattle.demands.specs.Words.{differences}
use Rattle.demands.proofs.Octet.{drop_take}

module _ (r : Radio) (chips : List ℕ) where
  -- a window within the buffer is one symbol long
  pub window_long : (k s : ℕ) → k * r.size ≤ length chips → s < k → length (window r chips s) ≡ r.size
  window_long k s h l = simp (length-take, length-drop) (omega (arith, row_in s k r.size l))

  -- the chips of one symbol more
  front_next : (k : ℕ) → take (suc k * r.size) chips ≡ take (k * r.size) chips ++ window r chips k
  front_next k = rw (suc-mul k r.size) (take-add (k * r.size) r.size chips)

  -- the front is of chips where its windows are
  pub front_chips : (k : ℕ) → ((s : ℕ) → s < k → bad (window r chips s) ≡ false) → bad (take (k * r.size) chips) ≡ false
  unfolding bad
  front_chips zero p = rw zero-mul
  front_chips (suc k) p =
      rw (front_next k, bad_append, front_chips k (λ s h. p s (omega arith))) (p k (omega arith))

  -- and its windows where it is
  pub window_chips : (k : ℕ) → bad (take (k * r.size) chips) ≡ false → (s : ℕ) → s < k → bad (window r chips s) ≡ false
  window_chips zero b s h = absurd (omega arith)
  window_chips (suc k) b s h =
      let e : pick (bad (take (k * r.size) chips)) true (bad (window r chips k)) ≡ false =
      sym (ap bad (front_next k) ∙ bad_append (take (k * r.size) chips) (window r chips k)) ∙ b in
      by_test (bad (take (k * r.size) chips))
      (λ t. not_both true refl (rw t at e))
      (λ t. ⊎_elim (λ (w : s ≡ k). rw w (rw t at e)) (λ (w : s < k). window_chips k t s w) (eq-or-lt_of_le (upto s k h)))

module _ (r : Radio) where
  -- a window depends on the first n chips only, where it ends among them
  pub window_same : (s n : ℕ) (xs ys : List ℕ) → suc s * r.size ≤ n → take n xs ≡ take n ys → window r xs s ≡ window r ys s
  window_same s n xs ys h e = of_first xs ∙ ap (λ (zs : List ℕ). drop (s * r.size) (take (s * r.size + r.size) zs)) e ∙ sym (of_first ys)
    where
      of_first : (zs : List ℕ) → window r zs s ≡ drop (s * r.size) (take (s * r.size + r.size) (take n zs))
      of_first zs = rw (take-take (s * r.size + r.size) n zs (omega (arith, suc-mul s r.size))) (sym (drop_take (s * r.size) r.size zs))

-- the distance of two fronts is the sum of the distances of their windows
pub front_distance : (r : Radio) (xs ys : List ℕ) (k : ℕ) → k * r.size ≤ length xs → k * r.size ≤ length ys
    → distance (take (k * r.size) xs) (take (k * r.size) ys) ≡ differences r xs ys k
unfolding differences distance
front_distance r xs ys zero h l = rw zero-mul
front_distance r xs ys (suc k) h l =
    let e : suc k * r.size ≡ k * r.size + r.size = suc-mul k r.size in
    rw (front_next r xs k, front_next r ys k)
    (distance_append (take (k * r.size) xs) (take (k * r.size) ys) (window r xs k) (window r ys k)
    (length-take-le (k * r.size) xs (omega arith) ∙ sym (length-take-le (k * r.size) ys (omega arith)))
    ∙ ap (λ (d : ℕ). d + distance (window r xs k) (window r ys k)) (front_distance r xs ys k (omega arith) (omega arith)))

-- window s of a row of words is word s
pub word_window : (r : Radio) → Sound r → (vs : List ℕ) → Below (2 ^ r.bits) vs → (s : ℕ) → s < length vs → window r (chips_of r vs) s ≡ word r (get_or vs s 0)
unfolding chips_of
word_window r S [] p s h = absurd (omega arith)
word_window r S (v ∷ vs) p zero h = rw zero-mul (take_at (word r v) (chips_of r vs) r.size (word_long r S v p.0))
word_window r S (v ∷ vs) p (suc s) h =
    let e : suc s * r.size ≡ r.size + s * r.size = omega (arith, suc-mul s r.size) in
    rw (e, drop_past (word r v) (chips_of r vs) r.size (s * r.size) (word_long r S v p.0)) (word_window r S vs p.1 s (omega arith))
