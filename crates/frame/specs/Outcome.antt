-- What a function that is lent a buffer comes to. A promise says that this is one definition's
-- value, so it settles both.
use Rattle.std.specs.Prelude.{ℕ, List}

-- the answer, and every byte of the lent buffer at exit
pub record Outcome (A : Type 0) : Type 0 where
  pub answer : A
  pub buffer : List ℕ

abbrev pub outcome : {A : Type 0} → A → List ℕ → Outcome A
outcome a b = record { answer = a; buffer = b }
