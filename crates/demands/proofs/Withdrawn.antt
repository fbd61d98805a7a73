-- 9 is withdrawn: no call gives it, whatever it is lent, and no record that the calls make holds
-- it. Take alone repeats it, of a record that was given it from outside, as it repeats any other
-- number. Assumes nothing.
use mathlib.Core.Path.{◌≡◌, refl, sym, ap, ◌∙◌}
use mathlib.Core.Bool.{true, false}
use mathlib.Core.List.{List, [], ◌∷◌}
use mathlib.Core.Logic.{⊎_elim}
use Prim.Native.Nat.{ℕ}
use native.Mathlib.Omega.{arith}
use Rattle.codes.specs.Numbers.{DONE, BADMODE, TOOLONG, NOROOM, RUNOUT, NOCHIP, LOST, PREAMBLE, BADSTART, ENDED, BADPART, NOTENDED, MORE, TOOFEW}
use Rattle.codes.specs.Numbers.{BADCHECK, ALLZERO, FORGED}
use Rattle.codes.specs.Chips.{pick, among}
use Rattle.codes.specs.Radio.{known}
use Rattle.codes.proofs.Tests.{by_pick, not_both}
use Rattle.codes.specs.Symbol.{match_of}
use Rattle.frame.specs.Write.{written}
use Rattle.reader.specs.Read.{read_of}
use Rattle.receiver.specs.declared.Receiver.{Receiver}
use Rattle.receiver.specs.declared.Step.{Step}
use Rattle.receiver.specs.Record.{start_of, push_of, finish_of, take_of}
use Rattle.checked.specs.Profile.{check_of, read_checked_of, written_checked}
use Rattle.checked.proofs.Passing.{check_numbers}
use Rattle.demands.specs.Words.{tells}
use Rattle.demands.specs.Calls.{Call, pushing, finishing, taking, called, after}
use Rattle.demands.proofs.Demand1.{read_numbers, write_numbers}
use Rattle.demands.proofs.Matched.{match_numbers}
use Rattle.demands.proofs.Given.{start_tells, push_numbers, finish_numbers, take_numbers}
use Rattle.demands.proofs.Made.{holds_no, made}
use Rattle.demands.proofs.Forged.{refused_idle}
use Rattle.demands.proofs.Checked.{checked_write_numbers, checked_read_numbers}

-- a number that is among others
other : (ns : List ℕ) → among 9 ns ≡ false → (x : ℕ) → among x ns ≡ true → x ≡ 9 → ⊥
other ns f x t e = not_both (among 9 ns) (rw e at t) f

-- Writer and reader, of either profile.
module _ (mode : ℕ) (xs buffer : List ℕ) where
  pub write_never : (written mode xs buffer).answer.number ≡ 9 → ⊥
  write_never = other (DONE ∷ BADMODE ∷ TOOLONG ∷ NOROOM ∷ []) refl _ (write_numbers mode xs buffer)

  pub read_never : (read_of mode xs buffer).answer.number ≡ 9 → ⊥
  read_never = other (DONE ∷ BADMODE ∷ NOROOM ∷ RUNOUT ∷ NOCHIP ∷ LOST ∷ PREAMBLE ∷ BADSTART ∷ []) refl _ (read_numbers mode xs buffer)

  pub checked_write_never : (written_checked mode xs buffer).answer.number ≡ 9 → ⊥
  checked_write_never = other (DONE ∷ BADMODE ∷ TOOLONG ∷ NOROOM ∷ TOOFEW ∷ ALLZERO ∷ []) refl _ (checked_write_numbers mode xs buffer)

  pub checked_read_never : (read_checked_of mode xs buffer).answer.number ≡ 9 → ⊥
  checked_read_never =
      other (DONE ∷ BADMODE ∷ NOROOM ∷ RUNOUT ∷ NOCHIP ∷ LOST ∷ PREAMBLE ∷ BADSTART ∷ TOOFEW ∷ BADCHECK ∷ ALLZERO ∷ []) refl _
      (checked_read_numbers mode xs buffer)

-- Match.
pub match_never : (mode : ℕ) (part : List ℕ) → (match_of mode part).number ≡ 9 → ⊥
match_never mode part = other (DONE ∷ BADMODE ∷ NOCHIP ∷ LOST ∷ BADPART ∷ []) refl _ (match_numbers mode part)

-- The check of a report.
pub check_never : (octets : List ℕ) → check_of octets ≡ 9 → ⊥
check_never octets = other (DONE ∷ TOOFEW ∷ BADCHECK ∷ ALLZERO ∷ []) refl _ (check_numbers octets)

-- Start, and push and finish of every record.
pub start_never : (mode : ℕ) → (start_of mode).number ≡ 9 → ⊥
start_never mode e =
    by_pick (λ x. x ≡ 9 → ⊥) (known mode) 13 1 (λ _ z. omega (arith, z)) (λ _ z. omega (arith, z))
    (ap (λ (s : Step). s.number) (sym (start_tells mode (pick (known mode) 13 1) refl)) ∙ e)

pub push_never : (c : Receiver) (part : List ℕ) → (push_of c part).number ≡ 9 → ⊥
push_never c part = other (DONE ∷ NOCHIP ∷ LOST ∷ PREAMBLE ∷ BADSTART ∷ ENDED ∷ BADPART ∷ MORE ∷ FORGED ∷ []) refl _ (push_numbers c part)

pub finish_never : (c : Receiver) → (finish_of c).number ≡ 9 → ⊥
finish_never c = other (RUNOUT ∷ ENDED ∷ FORGED ∷ []) refl _ (finish_numbers c)

-- A record that the calls made doesn't hold it, and so no call on it gives it.
module _ (mode : ℕ) (xs : List Call) where
  abbrev c : Receiver
  c = after (start_of mode).receiver xs

  pub made_never : c.ended ≡ 9 → ⊥
  made_never = holds_no 9 refl refl refl c (made mode xs).honest

  pub called_never : (x : Call) → (called c x).number ≡ 9 → ⊥
  unfolding called
  called_never (pushing part) = push_never c part
  called_never finishing = finish_never c
  called_never (taking buffer) =
      ⊎_elim (λ t. other (DONE ∷ NOROOM ∷ NOTENDED ∷ FORGED ∷ []) refl _ t) (λ t e. made_never (sym t.0 ∙ e)) (take_numbers c buffer)

-- Take of any record that holds it repeats it, at its place.
pub take_repeats : (c : Receiver) → c.ended ≡ 9 → (buffer : List ℕ) → take_of c buffer ≡ tells 9 c.taken buffer
take_repeats c e buffer =
    (refused_idle c (λ m. omega (arith, e, m)) (λ d. omega (arith, e, d))).taken buffer ∙ ap (λ (x : ℕ). tells x c.taken buffer) e
