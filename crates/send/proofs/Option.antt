-- The test of an argument for "-c" is the option's definition. Assumes nothing.
use Rattle.std.proofs.Common.{◌≡◌, refl, ℕ, List, [], ◌∷◌}
use Rattle.std.specs.Prelude.{nat_eq}
use lib.Pointwise.{pointwise}
use Rattle.codes.proofs.Tests.{by_test}
use Rattle.send.specs.Option.{is_option}

pub equal_option : (text : List ℕ) → pointwise nat_eq text (45 ∷ 99 ∷ []) ≡ is_option text
unfolding is_option
equal_option [] = refl
equal_option (a ∷ []) = by_test (nat_eq a 45) (λ t. rw t) (λ t. rw t)
equal_option (a ∷ b ∷ []) =
    by_test (nat_eq a 45) (λ t. by_test (nat_eq b 99) (λ u. rw (t, u)) (λ u. rw (t, u))) (λ t. rw t)
equal_option (a ∷ b ∷ c ∷ cs) =
    by_test (nat_eq a 45) (λ t. by_test (nat_eq b 99) (λ u. rw (t, u)) (λ u. rw (t, u))) (λ t. rw t)
