-- The writer (document 01, "Numbers given back").
use Rattle.std.specs.Prelude.{ℕ, List, ◌++◌, length, drop, ltb, Result, Ok, Err}
use Rattle.codes.specs.declared.Refusal.{Refusal}
use Rattle.codes.specs.Numbers.{DONE, BADMODE, TOOLONG, NOROOM, number_of}
use Rattle.codes.specs.Chips.{pick}
use Rattle.codes.specs.Radio.{known, radio_of}
use Rattle.frame.specs.declared.Written.{Written}
use Rattle.frame.specs.Outcome.{Outcome, outcome}
use Rattle.frame.specs.Frame.{frame}

-- Refused: chip count 0, buffer unchanged.
abbrev pub refused : ℕ → Written
refused x = record { number = x; chips = 0 }

-- a chip count, or why there is none, as the answer that it is
abbrev pub answer_of : Result ℕ Refusal → Written
answer_of (Ok chips) = record { number = DONE; chips = chips }
answer_of (Err why) = refused (number_of why)

abbrev pub unwritten : ℕ → List ℕ → Outcome Written
unwritten x buffer = outcome (refused x) buffer

-- Done: it gives the chip count, the first chips of the buffer are the frame, and later bytes keep
-- their values.
abbrev pub wrote : List ℕ → List ℕ → Outcome Written
wrote chips buffer = outcome (record { number = DONE; chips = length chips }) (chips ++ drop (length chips) buffer)

-- The writer tests 1, 2, 3 in that order.
unfoldable pub written : ℕ → List ℕ → List ℕ → Outcome Written
written mode report buffer =
    pick (known mode)
    (pick (ltb 127 (length report)) (unwritten TOOLONG buffer)
    (pick (ltb (length buffer) (length (frame (radio_of mode) report))) (unwritten NOROOM buffer)
    (wrote (frame (radio_of mode) report) buffer)))
    (unwritten BADMODE buffer)
