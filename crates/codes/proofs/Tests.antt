-- Tests and what they say. Assumes nothing.
use Rattle.std.proofs.Common.{◌≡◌, ℕ, zero, suc, ◌<◌, ◌≤◌, Bool, true, false, T, ◌⊎◌, sym, refl, ap, ◌∙◌, subst, inl, inr, eq-or-lt_of_le, arith, le-ltb, lt-ltb, eq-eqb, ne_eqb, le-leb}
use borrow.Author.Tests.{lt-leb}
use Rattle.codes.specs.Chips.{pick}

pub ruleset tests = (lt-ltb, le-ltb, le-leb, lt-leb, eq-eqb, ne_eqb)

-- a proof by the two answers of a test
pub by_test : {P : Type 0} (b : Bool) → (b ≡ true → P) → (b ≡ false → P) → P
by_test true f g = f refl
by_test false f g = g refl

-- what is true of either side of a choice is true of the choice
pub by_pick : {A : Type 0} (P : A → Type 0) (b : Bool) (x y : A) → (b ≡ true → P x) → (b ≡ false → P y) → P (pick b x y)
by_pick P true x y p q = p refl
by_pick P false x y p q = q refl

pub not_both : {P : Type 0} (b : Bool) → b ≡ true → b ≡ false → P
not_both b t f = absurd (subst (λ (x : Bool). T x) (sym t ∙ f) tt)

-- two tests that both hold
pub both_true : (a b : Bool) → pick a b false ≡ true → (a ≡ true) × (b ≡ true)
both_true true b e = (refl, e)
both_true false b e = not_both false e refl

-- the test of each number below k, which antt computes
unfoldable pub every : (ℕ → Bool) → ℕ → Bool
every p zero = true
every p (suc k) = pick (p k) (every p k) false

pub upto : (v k : ℕ) → v < suc k → v ≤ k
upto v k h = omega arith

-- and what it says of each
pub each : (p : ℕ → Bool) (k : ℕ) → every p k ≡ true → (v : ℕ) → v < k → p v ≡ true
unfolding every
each p zero t v h = absurd (omega arith)
each p (suc k) t v h = go (p k) refl t (eq-or-lt_of_le (upto v k h)) (λ t l. each p k t v l)
  where
    go : (b : Bool) → p k ≡ b → pick b (every p k) false ≡ true → (v ≡ k) ⊎ (v < k) → (every p k ≡ true → v < k → p v ≡ true) → p v ≡ true
    go true e t (inl q) r = ap p q ∙ e
    go true e t (inr l) r = r t l
    go false e t d r = not_both false t refl
