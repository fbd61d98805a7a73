-- Not to be believed: what is made of a nearest word and both distances in one number, shown to be
-- the symbol of rules 2 and 3 in proofs/Judging.antt.
use Rattle.std.specs.Prelude.{ℕ, ◌/◌, ◌%◌, leb, Result, Ok, Err}
use Rattle.codes.specs.declared.Refusal.{Refusal}
use Rattle.codes.specs.declared.Symbol.{Symbol}
use Rattle.codes.specs.Numbers.{DONE, BADMODE, LOST, number_of}
use Rattle.codes.specs.Chips.{pick}
use Rattle.codes.specs.Radio.{known, radio_of}
use Rattle.codes.specs.Symbol.{refused}

-- the symbol that such a number says, by a limit
unfoldable pub judged : ℕ → ℕ → Symbol
judged limit near =
    record { number = pick (leb (near / 16 % 64) limit) DONE LOST; value = near % 16; distance = near / 16 % 64; next = near / 1024 }

-- at a mode
unfoldable pub judged_at : ℕ → ℕ → Symbol
judged_at mode near = pick (known mode) (judged (radio_of mode).limit near) (refused BADMODE)

-- what is given back of a symbol, or of a refusal: its number and zeros
abbrev pub given : Result Symbol Refusal → Symbol
given (Ok symbol) = symbol
given (Err why) = refused (number_of why)
