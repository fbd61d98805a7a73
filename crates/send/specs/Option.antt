-- The option: an argument "-c", and the profile that it asks for.
use Rattle.std.specs.Prelude.{ℕ, Bool, true, false, List, [], ◌∷◌, eqb}
use Rattle.codes.specs.Chips.{pick}
use Rattle.frame.specs.declared.Written.{Written}
use Rattle.frame.specs.Outcome.{Outcome}
use Rattle.frame.specs.Write.{written}
use Rattle.checked.specs.Profile.{written_checked}
use Rattle.send.specs.declared.Profile.{Profile}
use Rattle.send.specs.declared.Profile.TheVariants.{Plain, Checked}

-- 45 is the hyphen, 99 the letter c
unfoldable pub is_option : List ℕ → Bool
is_option [] = false
is_option (a ∷ []) = false
is_option (a ∷ b ∷ []) = pick (eqb a 45) (eqb b 99) false
is_option (a ∷ b ∷ c ∷ cs) = false

-- whether a profile is the checked one
abbrev pub is_checked : Profile → Bool
is_checked Plain = false
is_checked Checked = true

-- the checked writer with it, the plain one without
unfoldable pub written_as : Bool → ℕ → List ℕ → List ℕ → Outcome Written
written_as true = written_checked
written_as false = written
