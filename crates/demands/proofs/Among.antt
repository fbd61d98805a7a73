-- Numbers of a list. Assumes nothing.
use mathlib.Core.Path.{◌≡◌, refl}
use mathlib.Core.Bool.{Bool, true, false}
use mathlib.Core.List.{List, [], ◌∷◌}
use Prim.Native.Nat.{ℕ}
use lib.Dec.{eqb}
use borrow.Author.Tests.{eqb-true}
use Rattle.codes.specs.Chips.{pick, among}
use Rattle.codes.proofs.Tests.{by_test, not_both}

-- every number of a list passes a test
abbrev pub pass : (ℕ → Bool) → List ℕ → Bool
pass p [] = true
pass p (x ∷ xs) = pick (p x) (pass p xs) false

-- then so does one that is among them
pub among_pass : (p : ℕ → Bool) (xs : List ℕ) → pass p xs ≡ true → (x : ℕ) → among x xs ≡ true → p x ≡ true
among_pass p [] t x m = not_both false m refl
among_pass p (y ∷ ys) t x m =
    by_test (p y)
    (λ a. by_test (eqb x y) (λ e. rw (eqb-true x y e) a) (λ e. among_pass p ys (rw a at t) x (rw e at m)))
    (λ a. not_both false (rw a at t) refl)
