-- The numbers given back, in the order of the scope's table.
use Rattle.std.specs.Prelude.{ℕ}
use Rattle.codes.specs.declared.Refusal.{Refusal}
use Rattle.codes.specs.declared.Refusal.TheVariants.{BadMode, TooLong, NoRoom, RunOut, NoChip, Lost, Preamble, BadStart, Ended, BadPart, NotEnded, TooFew, BadCheck, AllZero, Forged}

-- done
abbrev pub DONE : ℕ
DONE = 0

-- mode above 2
abbrev pub BADMODE : ℕ
BADMODE = 1

-- report longer than 127 (checked: 125)
abbrev pub TOOLONG : ℕ
TOOLONG = 2

-- lent buffer too short
abbrev pub NOROOM : ℕ
NOROOM = 3

-- chips run out
abbrev pub RUNOUT : ℕ
RUNOUT = 4

-- byte that isn't a chip
abbrev pub NOCHIP : ℕ
NOCHIP = 5

-- symbol lost
abbrev pub LOST : ℕ
LOST = 6

-- preamble not zero
abbrev pub PREAMBLE : ℕ
PREAMBLE = 7

-- wrong start octet
abbrev pub BADSTART : ℕ
BADSTART = 8

-- (9 is withdrawn, and its number not used again.)

-- receiver already ended
abbrev pub ENDED : ℕ
ENDED = 10

-- part isn't exactly one symbol long
abbrev pub BADPART : ℕ
BADPART = 11

-- receiver not ended yet
abbrev pub NOTENDED : ℕ
NOTENDED = 12

-- more wanted (no refusal)
abbrev pub MORE : ℕ
MORE = 13

-- too few octets
abbrev pub TOOFEW : ℕ
TOOFEW = 14

-- wrong FCS
abbrev pub BADCHECK : ℕ
BADCHECK = 15

-- every octet 0
abbrev pub ALLZERO : ℕ
ALLZERO = 16

-- record that these calls don't make
abbrev pub FORGED : ℕ
FORGED = 34

-- the number of a refusal
abbrev pub number_of : Refusal → ℕ
number_of BadMode = BADMODE
number_of TooLong = TOOLONG
number_of NoRoom = NOROOM
number_of RunOut = RUNOUT
number_of NoChip = NOCHIP
number_of Lost = LOST
number_of Preamble = PREAMBLE
number_of BadStart = BADSTART
number_of Ended = ENDED
number_of BadPart = BADPART
number_of NotEnded = NOTENDED
number_of TooFew = TOOFEW
number_of BadCheck = BADCHECK
number_of AllZero = ALLZERO
number_of Forged = FORGED
