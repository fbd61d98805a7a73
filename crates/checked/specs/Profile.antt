-- The checked profile (document 02, wish 2): each report ends in its FCS, and one of nothing but
-- zeros is neither sent nor read. It stands on the plain writer and the plain reader.
use Rattle.std.specs.Prelude.{ℕ, ◌-◌, Bool, true, not, List, [], ◌∷◌, length, take, drop, eqb, ltb}
use Rattle.codes.specs.Numbers.{DONE, BADMODE, TOOLONG, TOOFEW, BADCHECK, ALLZERO}
use Rattle.codes.specs.Chips.{pick}
use Rattle.codes.specs.Radio.{known}
use Rattle.frame.specs.declared.Written.{Written}
use Rattle.frame.specs.Outcome.{Outcome}
use Rattle.frame.specs.Write.{unwritten, written}
use Rattle.reader.specs.declared.Reading.{Reading}
use Rattle.order.specs.Received.{value_of}
use Rattle.order.specs.Order.{Answer, refused, done, both}
use Rattle.reader.specs.Read.{answer_at, answered}
use Rattle.fcs.specs.Fcs.{fcs_of, with_fcs}

-- every octet 0
unfoldable pub all_zero : List ℕ → Bool
all_zero [] = true
all_zero (x ∷ xs) = both (eqb x 0) (all_zero xs)

-- the octets before the last two
abbrev pub body : List ℕ → List ℕ
body octets = take (length octets - 2) octets

-- the last two, the low one first, are the FCS of those before
abbrev pub right_fcs : List ℕ → Bool
right_fcs octets = eqb (value_of 256 (drop (length octets - 2) octets)) (fcs_of (body octets))

-- The tests of a report that was read: n below 3: 14; wrong FCS: 15; right FCS but every octet
-- 0: 16.
unfoldable pub check_of : List ℕ → ℕ
check_of octets =
    pick (ltb (length octets) 3) TOOFEW
    (pick (not (right_fcs octets)) BADCHECK
    (pick (all_zero octets) ALLZERO DONE))

-- They come after success; place is the number of symbols in the frame, where that stands. A
-- refusal of the plain reader stays as it is.
unfoldable pub checked_answer : Answer → Answer
checked_answer (refused x place) = refused x place
checked_answer (done place report count gap polarity) =
    pick (eqb (check_of report) DONE) (done place report count gap polarity) (refused (check_of report) place)

-- the reader: what is given back and what the report buffer holds goes by the answer, as in the
-- plain profile
abbrev pub read_checked_of : ℕ → List ℕ → List ℕ → Outcome Reading
read_checked_of mode chips buffer = answered (checked_answer (answer_at mode (length buffer) chips)) buffer

-- The writer, after 1: empty: 14, above 125: 2, all zero: 16, then 3: the plain writer's test for
-- the report with the two octets appended.
unfoldable pub written_checked : ℕ → List ℕ → List ℕ → Outcome Written
written_checked mode report buffer =
    pick (known mode)
    (pick (eqb (length report) 0) (unwritten TOOFEW buffer)
    (pick (ltb 125 (length report)) (unwritten TOOLONG buffer)
    (pick (all_zero report) (unwritten ALLZERO buffer)
    (written mode (with_fcs report) buffer))))
    (unwritten BADMODE buffer)
