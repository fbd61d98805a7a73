-- Laws of a search for the first number that passes a test. Assumes nothing.
use Rattle.std.proofs.Common.{◌≡◌, ℕ, zero, suc, ◌+◌, ◌<◌, ◌≤◌, Bool, true, false, ◌⊎◌, refl, inl, inr, eq-or-lt_of_le, arith}
use Rattle.codes.specs.Chips.{pick}
use Rattle.codes.specs.Symbol.{first}
use Rattle.codes.proofs.Tests.{not_both}

module _ (p : ℕ → Bool) where
  -- what it finds passes the test
  pub first_true : (i k : ℕ) → first p i k < i + k → p (first p i k) ≡ true
  unfolding first
  first_true i zero h = absurd (omega arith)
  first_true i (suc k) h = go (p i) refl (first_true (suc i) k) h
    where
      go : (b : Bool) → p i ≡ b → (first p (suc i) k < suc i + k → p (first p (suc i) k) ≡ true)
          → pick b i (first p (suc i) k) < i + suc k → p (pick b i (first p (suc i) k)) ≡ true
      go true e r h = e
      go false e r h = r (omega arith)

  -- nothing before it passes the test
  pub first_upto : (i k v : ℕ) → i ≤ v → v < i + k → p v ≡ true → first p i k ≤ v
  unfolding first
  first_upto i zero v l h t = absurd (omega arith)
  first_upto i (suc k) v l h t = go (p i) refl (eq-or-lt_of_le l) (λ w. first_upto (suc i) k v w (omega arith) t)
    where
      go : (b : Bool) → p i ≡ b → (i ≡ v) ⊎ (i < v) → (i < v → first p (suc i) k ≤ v) → pick b i (first p (suc i) k) ≤ v
      go true e d r = l
      go false e (inl q) r = not_both (p v) t (rw (← q) e)
      go false e (inr w) r = r w
