-- How a radio's frames are sent: the reserved bit is 0 or 1, and the polarity is one that the radio
-- has, 0 or 1 with a chain and 0 without. For any radio. Assumes nothing.
use mathlib.Core.Path.{◌≡◌, refl, sym, ap, subst}
use mathlib.Core.Bool.{true, false}
use mathlib.Core.Logic.{inl, inr}
use mathlib.Core.List.{List, [], ◌∷◌, map}
use Prim.Native.Nat.{ℕ, zero, suc, ◌%◌, ◌≤◌}
use native.Mathlib.Omega.{arith}
use Rattle.codes.specs.Radio.{Radio}
use Rattle.codes.proofs.Tests.{by_test}
use Rattle.frame.specs.Frame.{Form, formed, plain, frame_with}
use Rattle.order.specs.Received.{chain_start}
use Rattle.demands.specs.Words.{forms, frames, OneOf}

-- a form that is one of a radio's
pub record Proper (r : Radio) (form : Form) : Type 0 where
  pub low : form.bit ≤ 1
  pub start : chain_start r (form.polarity % 2) ≡ form.polarity

-- what is so of each of some is so of one of them
abbrev Each : (Form → Type 0) → List Form → Type 0
Each P [] = Unit {0}
Each P (x ∷ xs) = P x × Each P xs

of_each : (P : Form → Type 0) (xs : List Form) → Each P xs → (x : Form) → OneOf xs x → P x
of_each P [] p x m = absurd m
of_each P (y ∷ xs) p x (inl e) = subst P (sym e) p.0
of_each P (y ∷ xs) p x (inr m) = of_each P xs p.1 x m

-- those in the list are
pub proper : (r : Radio) (form : Form) → OneOf (forms r) form → Proper r form
proper r form = of_each (Proper r) (forms r) all form
  where
    all : Each (Proper r) (forms r)
    all = by_test r.chained
        (λ c. rw c (
          record { low = omega arith; start = refl },
          (
            record { low = omega arith; start = refl },
            (
              record { low = omega arith; start = refl },
              (record { low = omega arith; start = refl }, tt),
            ),
          ),
        ))
        (λ c. rw c (record { low = omega arith; start = refl }, (record { low = omega arith; start = refl }, tt)))

-- and no others
pub in_forms : (r : Radio) (form : Form) → Proper r form → OneOf (forms r) form
in_forms r form F =
    by_test r.chained
    (λ c. four c form.bit form.polarity F.low (omega (arith, rw c at F.start)))
    (λ c. two c form.bit form.polarity F.low (omega (arith, rw c at F.start)))
  where
    four : r.chained ≡ true → (b p : ℕ) → b ≤ 1 → p ≤ 1 → OneOf (forms r) (formed b p)
    four c zero zero h l = rw c (inl refl)
    four c zero (suc zero) h l = rw c (inr (inr (inl refl)))
    four c zero (suc (suc p)) h l = absurd (omega arith)
    four c (suc zero) zero h l = rw c (inr (inl refl))
    four c (suc zero) (suc zero) h l = rw c (inr (inr (inr (inl refl))))
    four c (suc zero) (suc (suc p)) h l = absurd (omega arith)
    four c (suc (suc b)) p h l = absurd (omega arith)

    two : r.chained ≡ false → (b p : ℕ) → b ≤ 1 → p ≤ 0 → OneOf (forms r) (formed b p)
    two c zero zero h l = rw c (inl refl)
    two c zero (suc p) h l = absurd (omega arith)
    two c (suc zero) zero h l = rw c (inr (inl refl))
    two c (suc zero) (suc p) h l = absurd (omega arith)
    two c (suc (suc b)) p h l = absurd (omega arith)

-- as is the form in which frames are written
pub plain_proper : (r : Radio) → Proper r plain
plain_proper r = record { low = omega arith; start = by_test r.chained (λ c. rw c) (λ c. rw c) }

-- what is made of each of some
module _ {A B : Type 0} (f : A → B) where
  made_of : (xs : List A) (x : A) → OneOf xs x → OneOf (map f xs) (f x)
  made_of [] x m = absurd m
  made_of (y ∷ xs) x (inl e) = inl (ap f e)
  made_of (y ∷ xs) x (inr m) = inr (made_of xs x m)

  of_made : (xs : List A) (z : B) → OneOf (map f xs) z → (x : A) × OneOf xs x × (z ≡ f x)
  of_made [] z m = absurd m
  of_made (x ∷ xs) z (inl e) = (x, inl refl, e)
  of_made (x ∷ xs) z (inr m) = let o = of_made xs z m in (o.0, inr o.1, o.2)

-- so a report's frames are those sent in one of these forms
module _ (r : Radio) (report : List ℕ) where
  pub one_of : (form : Form) → OneOf (forms r) form → OneOf (frames r report) (frame_with r form report)
  one_of form = made_of (λ (f : Form). frame_with r f report) (forms r) form

  abbrev pub Sent : List ℕ → Type 0
  Sent frame = (form : Form) × OneOf (forms r) form × (frame ≡ frame_with r form report)

  pub sent_as : (frame : List ℕ) → OneOf (frames r report) frame → Sent frame
  sent_as frame = of_made (λ (f : Form). frame_with r f report) (forms r) frame
