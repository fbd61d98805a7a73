-- The promises of a refusal and of an answer settle their results, and speak of the functions' own
-- contracts, as `Settles` does. And what an outcome is made of, and an answer. Assumes nothing.
use Rattle.std.proofs.Common.{◌≡◌, ℕ, List, Result, Ok, Err, eqb, refl, sym, ap, ◌∙◌}
use Rattle.codes.specs.declared.Refusal.{Refusal}
use Rattle.codes.specs.declared.Refusal.TheVariants.{BadMode, TooLong, NoRoom, RunOut, NoChip, Lost, Preamble, BadStart, Ended, BadPart, NotEnded, TooFew, BadCheck, AllZero, Forged}
use Rattle.codes.specs.Chips.{pick}
use Rattle.codes.proofs.Settled.{settled, Settles, AsksNothing}
use Rattle.frame.specs.declared.Written.{Written}
use Rattle.frame.specs.Outcome.{Outcome, outcome}
use Rattle.frame.specs.Write.{answer_of}
use Rattle.frame.proofs.WrittenFromResultU32Refusal.from.Kinds as from_kinds
use Rattle.frame.proofs.WrittenFromResultU32Refusal.from.Reads as from_promise
use Rattle.frame.proofs.refusal.Kinds as refusal_kinds
use Rattle.frame.proofs.refusal.Reads as refusal_promise

-- an outcome is an answer and a buffer
pub same_outcome : {A : Type 0} (p q : A) (b c : List ℕ) → outcome p b ≡ outcome q c → (p ≡ q) × (b ≡ c)
same_outcome {A} p q b c e = (ap (λ (o : Outcome A). o.answer) e, ap (λ (o : Outcome A). o.buffer) e)

-- the refusal of a number
refusal_at : ℕ → Refusal
refusal_at n =
    pick (eqb n 1) BadMode (pick (eqb n 2) TooLong (pick (eqb n 3) NoRoom (pick (eqb n 4) RunOut (pick (eqb n 5) NoChip
    (pick (eqb n 6) Lost (pick (eqb n 7) Preamble (pick (eqb n 8) BadStart (pick (eqb n 10) Ended (pick (eqb n 11) BadPart
    (pick (eqb n 12) NotEnded (pick (eqb n 14) TooFew (pick (eqb n 15) BadCheck (pick (eqb n 16) AllZero Forged)))))))))))))

-- an answer has all of the outcome that it is of
outcome_at : Written → Result ℕ Refusal
outcome_at w = pick (eqb w.number 0) (Ok w.chips) (Err (refusal_at w.number))

outcome_back : (r : Result ℕ Refusal) → outcome_at (answer_of r) ≡ r
unfolding outcome_at refusal_at
outcome_back (Ok chips) = refl
outcome_back (Err BadMode) = refl
outcome_back (Err TooLong) = refl
outcome_back (Err NoRoom) = refl
outcome_back (Err RunOut) = refl
outcome_back (Err NoChip) = refl
outcome_back (Err Lost) = refl
outcome_back (Err Preamble) = refl
outcome_back (Err BadStart) = refl
outcome_back (Err Ended) = refl
outcome_back (Err BadPart) = refl
outcome_back (Err NotEnded) = refl
outcome_back (Err TooFew) = refl
outcome_back (Err BadCheck) = refl
outcome_back (Err AllZero) = refl
outcome_back (Err Forged) = refl

pub same_answer : (p q : Result ℕ Refusal) → answer_of p ≡ answer_of q → p ≡ q
same_answer p q e = sym (outcome_back p) ∙ ap outcome_at e ∙ outcome_back q

pub from_settled : Settles 0 from_kinds.ps from_kinds.r from_promise.Post
from_settled κs a p q s t = settled p q

pub from_asks_nothing : AsksNothing 0 from_kinds.ps from_promise.Pre
from_asks_nothing κs a = tt

pub refusal_settled : Settles 0 refusal_kinds.ps refusal_kinds.r refusal_promise.Post
refusal_settled κs a p q s t = settled p q

pub refusal_asks_nothing : AsksNothing 0 refusal_kinds.ps refusal_promise.Pre
refusal_asks_nothing κs a = tt
