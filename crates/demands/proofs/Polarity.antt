-- Either polarity. A reading that is done in mode 0 has the polarity 0 where the chips are near one
-- of the report's frames as they are sent, the reserved bit 0 or 1, and 1 where they are near the
-- inverse of one in every chip; the count is against that one of the four. In the other modes the
-- polarity is 0. Assumes nothing.
use mathlib.Core.Path.{◌≡◌, refl, ap, ◌∙◌, subst}
use mathlib.Core.Bool.{true, false}
use mathlib.Core.Logic.{inl, inr}
use mathlib.Core.List.{List, [], ◌∷◌}
use Prim.Native.Nat.{ℕ, zero, suc}
use native.Mathlib.Omega.{arith}
use lib.ListN.{length}
use borrow.Author.Tests.{ltb-true}
use Rattle.codes.specs.Radio.{Radio, known, radio_of, bpsk}
use Rattle.codes.proofs.Facts.{sound, sound_bpsk}
use Rattle.frame.specs.Frame.{Form, formed, frame_with}
use Rattle.order.specs.Order.{whole}
use Rattle.reader.specs.Read.{read_of}
use Rattle.demands.specs.Words.{forms, OneOf, inverse, form_in, Answers, Near, NearEither, success}
use Rattle.demands.proofs.Demand3.{answer_form, answer_frame}
use Rattle.demands.proofs.Reader.{success_done}
use Rattle.demands.proofs.TurnsOver.{bpsk_opposite, inverse_frame}

module _ (mode : ℕ) (k : known mode ≡ true) (chips buffer report : List ℕ) (count gap polarity : ℕ)
    (o : read_of mode chips buffer ≡ success mode buffer report count gap polarity) where
  abbrev r : Radio
  r = radio_of mode

  abbrev form : Form
  form = form_in r (whole r chips)

  answers : Answers r (length buffer) chips report count
  answers = (success_done mode k chips buffer report count gap polarity o).0

  polarity_is : polarity ≡ form.polarity
  polarity_is = (success_done mode k chips buffer report count gap polarity o).2

  one : OneOf (forms r) form
  one = answer_form r (sound mode) (length buffer) chips report count answers

  near : Near r chips (frame_with r form report) count
  near = (answer_frame r (sound mode) (length buffer) chips report count answers).1

-- In mode 0 the chips are near one of the report's frames, or near the inverse of one, with that
-- count, and the polarity says which.
pub reads_either : (chips buffer report : List ℕ) (count gap polarity : ℕ) → read_of 0 chips buffer ≡ success 0 buffer report count gap polarity
    → NearEither chips report count polarity
reads_either chips buffer report count gap polarity o = go (one 0 refl chips buffer report count gap polarity o)
  where
    f : Form
    f = form 0 refl chips buffer report count gap polarity o

    p : polarity ≡ f.polarity
    p = polarity_is 0 refl chips buffer report count gap polarity o

    n : Near bpsk chips (frame_with bpsk f report) count
    n = near 0 refl chips buffer report count gap polarity o

    -- in a form that it is
    sent : (form : Form) → f ≡ form → Near bpsk chips (frame_with bpsk form report) count
    sent form e = subst (λ (g : Form). Near bpsk chips (frame_with bpsk g report) count) e n

    turned : (bit : ℕ) → f ≡ formed bit 1 → Near bpsk chips (inverse (frame_with bpsk (formed bit 0) report)) count
    turned bit e = subst (λ (g : List ℕ). Near bpsk chips g count) (inverse_frame bpsk sound_bpsk refl bpsk_opposite bit report) (sent (formed bit 1) e)

    go : OneOf (formed 0 0 ∷ formed 1 0 ∷ formed 0 1 ∷ formed 1 1 ∷ []) f → NearEither chips report count polarity
    go (inl e) = (0, omega arith, inl (p ∙ ap (λ (g : Form). g.polarity) e, sent (formed 0 0) e))
    go (inr (inl e)) = (1, omega arith, inl (p ∙ ap (λ (g : Form). g.polarity) e, sent (formed 1 0) e))
    go (inr (inr (inl e))) = (0, omega arith, inr (p ∙ ap (λ (g : Form). g.polarity) e, turned 0 e))
    go (inr (inr (inr (inl e)))) = (1, omega arith, inr (p ∙ ap (λ (g : Form). g.polarity) e, turned 1 e))
    go (inr (inr (inr (inr e)))) = absurd e

-- In the other modes it is 0.
pub reads_one : (mode : ℕ) → known mode ≡ true → (mode ≡ 0 → ⊥) → (chips buffer report : List ℕ) (count gap polarity : ℕ)
    → read_of mode chips buffer ≡ success mode buffer report count gap polarity → polarity ≡ 0
reads_one mode k n chips buffer report count gap polarity o =
    polarity_is mode k chips buffer report count gap polarity o ∙ rw (unchained mode k n)
  where
    unchained : (m : ℕ) → known m ≡ true → (m ≡ 0 → ⊥) → (radio_of m).chained ≡ false
    unchained zero k n = absurd (n refl)
    unchained (suc zero) k n = refl
    unchained (suc (suc zero)) k n = refl
    unchained (suc (suc (suc m))) k n = absurd (omega (arith, ltb-true (suc (suc (suc m))) 3 k))
