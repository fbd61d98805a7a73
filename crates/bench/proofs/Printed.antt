-- What the bench program prints, computed of the definition: in the two cases that the scope tells
-- ("The bench program"), for an inverted frame, and for one of which every number is another. The
-- longest frame is read whole, a report of any length has room, and a number's digits say it.
-- Assumes nothing.
use mathlib.Core.Path.{◌≡◌, refl, ◌∙◌}
use mathlib.Core.List.{List, [], ◌∷◌, ◌++◌}
use Prim.Native.Nat.{ℕ, zero, suc, ◌+◌, ◌-◌, ◌*◌, ◌/◌, ◌%◌, ◌^◌, ◌≤◌, ◌<◌}
use native.Mathlib.Nat.{pow-suc}
use native.Mathlib.Omega.{arith}
use lib.ListN.{length}
use lib.Dec.{ltb}
use Rattle.codes.specs.Chips.{distance, bad}
use Rattle.codes.specs.Radio.{bpsk, oqpsk, lowband}
use Rattle.codes.specs.Radio.{bpsk_words, oqpsk_word, oqpsk_words, lowband_word, lowband_words, turned_words, turns, turned, odd_inverted}
use Rattle.codes.specs.Symbol.{least, first, nearest, nearest_word, nearest_but, symbol_of}
use Rattle.codes.proofs.Tests.{by_test}
use Rattle.frame.specs.Frame.{digits, raws, encode, plain, symbols_with, chips_of, frame, frame_with}
use Rattle.frame.proofs.Bench.{inverted}
use Rattle.frame.proofs.Count.{bpsk_chips, oqpsk_chips, lowband_chips}
use Rattle.order.specs.Received.{decode, value_of, octets_from}
use Rattle.order.specs.Order.{windows, rules, repaired, smallest_gap, concluded, taking, reading_from, reading}
use Rattle.reader.specs.declared.Reading.{Reading}
use Rattle.reader.specs.Read.{told, answer_at, read_of}
use Rattle.reader.proofs.Fair.{told_roomy}
use Rattle.reader.proofs.Sheet.{wrong_at}
use Rattle.bench.specs.Lines.{most, decimal_in, decimal, line, line_of, lines_of}

-- for no input, `0 4 0 0 0 0`, `1 4 0 0 0 0` and `2 4 0 0 0 0`
pub no_input : lines_of [] ≡
    48 ∷ 32 ∷ 52 ∷ 32 ∷ 48 ∷ 32 ∷ 48 ∷ 32 ∷ 48 ∷ 32 ∷ 48 ∷ 10 ∷
    49 ∷ 32 ∷ 52 ∷ 32 ∷ 48 ∷ 32 ∷ 48 ∷ 32 ∷ 48 ∷ 32 ∷ 48 ∷ 10 ∷
    50 ∷ 32 ∷ 52 ∷ 32 ∷ 48 ∷ 32 ∷ 48 ∷ 32 ∷ 48 ∷ 32 ∷ 48 ∷ 10 ∷ []
unfolding decimal_in told answer_at windows reading_from reading
no_input = refl

-- for the mode 1 frame with an empty report, `0 6 1 0 0 0`, `1 0 12 0 0 12` and `2 6 0 0 0 0`
pub empty_report : lines_of (frame oqpsk []) ≡
    48 ∷ 32 ∷ 54 ∷ 32 ∷ 49 ∷ 32 ∷ 48 ∷ 32 ∷ 48 ∷ 32 ∷ 48 ∷ 10 ∷
    49 ∷ 32 ∷ 48 ∷ 32 ∷ 49 ∷ 50 ∷ 32 ∷ 48 ∷ 32 ∷ 48 ∷ 32 ∷ 49 ∷ 50 ∷ 10 ∷
    50 ∷ 32 ∷ 54 ∷ 32 ∷ 48 ∷ 32 ∷ 48 ∷ 32 ∷ 48 ∷ 32 ∷ 48 ∷ 10 ∷ []
unfolding distance bad bpsk_words oqpsk_word oqpsk_words lowband_word lowband_words turned_words turns turned odd_inverted
    least first nearest nearest_word nearest_but symbol_of
    digits raws encode symbols_with chips_of frame_with decode value_of octets_from windows rules repaired smallest_gap
    concluded taking reading_from reading told answer_at
    decimal_in
empty_report = refl

-- for the mode 0 frame with an empty report, inverted in every chip, `0 0 48 0 0 15`, `1 6 0 0 0 0`
-- and `2 6 0 0 0 0`
pub inverted_report : lines_of (inverted 720 (frame bpsk [])) ≡
    48 ∷ 32 ∷ 48 ∷ 32 ∷ 52 ∷ 56 ∷ 32 ∷ 48 ∷ 32 ∷ 48 ∷ 32 ∷ 49 ∷ 53 ∷ 10 ∷
    49 ∷ 32 ∷ 54 ∷ 32 ∷ 48 ∷ 32 ∷ 48 ∷ 32 ∷ 48 ∷ 32 ∷ 48 ∷ 10 ∷
    50 ∷ 32 ∷ 54 ∷ 32 ∷ 48 ∷ 32 ∷ 48 ∷ 32 ∷ 48 ∷ 32 ∷ 48 ∷ 10 ∷ []
unfolding distance bad bpsk_words oqpsk_word oqpsk_words lowband_word lowband_words turned_words turns turned odd_inverted
    least first nearest nearest_word nearest_but symbol_of
    digits raws encode symbols_with chips_of frame_with decode value_of octets_from windows rules repaired smallest_gap
    concluded taking reading_from reading told answer_at
    decimal_in
inverted_report = refl

-- for the mode 2 frame of the octet 0x10 with three chips wrong, `0 6 0 0 0 0`, `1 6 0 0 0 0` and
-- `2 0 14 1 3 4`
pub one_octet : lines_of (wrong_at 0 (wrong_at 16 (wrong_at 192 (frame lowband (0x10 ∷ []))))) ≡
    48 ∷ 32 ∷ 54 ∷ 32 ∷ 48 ∷ 32 ∷ 48 ∷ 32 ∷ 48 ∷ 32 ∷ 48 ∷ 10 ∷
    49 ∷ 32 ∷ 54 ∷ 32 ∷ 48 ∷ 32 ∷ 48 ∷ 32 ∷ 48 ∷ 32 ∷ 48 ∷ 10 ∷
    50 ∷ 32 ∷ 48 ∷ 32 ∷ 49 ∷ 52 ∷ 32 ∷ 49 ∷ 32 ∷ 51 ∷ 32 ∷ 52 ∷ 10 ∷ []
unfolding distance bad bpsk_words oqpsk_word oqpsk_words lowband_word lowband_words turned_words turns turned odd_inverted
    least first nearest nearest_word nearest_but symbol_of
    digits raws encode symbols_with chips_of frame_with decode value_of octets_from windows rules repaired smallest_gap
    concluded taking reading_from reading told answer_at
    decimal_in
one_octet = refl

-- the longest report in mode 0, with as many chips repaired as can be, `0 0 1064 127 6384 3`: of
-- its polarity the line has nothing
pub longest_line : line 0 (record { number = 0; place = 1064; n = 127; count = 6384; gap = 3; polarity = 1 }) ≡
    48 ∷ 32 ∷ 48 ∷ 32 ∷ 49 ∷ 48 ∷ 54 ∷ 52 ∷ 32 ∷ 49 ∷ 50 ∷ 55 ∷ 32 ∷ 54 ∷ 51 ∷ 56 ∷ 52 ∷ 32 ∷ 51 ∷ 10 ∷ []
unfolding decimal_in
longest_line = refl

-- As many bytes are read as the longest frame has, mode 0's of 127 octets; no frame of another
-- mode has more.
pub longest_read : (report : List ℕ) → length report ≡ 127
    → (length (frame bpsk report) ≡ most) × (length (frame oqpsk report) ≤ most) × (length (frame lowband report) ≤ most)
longest_read report e = (
  bpsk_chips plain report ∙ omega (arith, e),
  omega (arith, e, oqpsk_chips plain report),
  omega (arith, e, lowband_chips plain report),
)

-- The lines tell what the reader gives for the whole capture with a buffer of 127 bytes.
pub lines_read : (chips buffer : List ℕ) → length buffer ≡ 127
    → lines_of chips ≡ line 0 (read_of 0 chips buffer).answer ++ line 1 (read_of 1 chips buffer).answer ++ line 2 (read_of 2 chips buffer).answer
lines_read chips buffer e = rw e

-- No line tells 3: there is room for every report.
pub never_three : (mode : ℕ) (chips : List ℕ) → (r : Reading) × (line_of mode chips ≡ line mode r) × (r.number ≡ 3 → ⊥)
never_three mode chips = (told (answer_at mode 127 chips), refl, told_roomy mode 127 (omega arith) chips)

-- the number that digits say, behind those of m
abbrev saying : ℕ → List ℕ → ℕ
saying m [] = m
saying m (c ∷ cs) = saying (10 * m + (c - 48)) cs

saying_snoc : (cs : List ℕ) (m c : ℕ) → saying m (cs ++ c ∷ []) ≡ 10 * saying m cs + (c - 48)
saying_snoc [] m c = refl
saying_snoc (b ∷ cs) m c = saying_snoc cs (10 * m + (b - 48)) c

says_in : (k n : ℕ) → n < 10 ^ k → saying 0 (decimal_in k n) ≡ n
unfolding decimal_in
says_in zero n h = omega arith
says_in (suc k) n h =
    by_test (ltb n 10) (λ t. rw t (omega arith))
    (λ t. rw t (saying_snoc (decimal_in k (n / 10)) 0 (48 + n % 10) ∙ omega (arith, says_in k (n / 10) (omega (arith, h, pow-suc 10 k)))))

-- The digits of every number of 32 bits say it; of one, three, four and ten of them in numerals.
pub decimal_says : (n : ℕ) → n < 2 ^ 32 → saying 0 (decimal n) ≡ n
decimal_says n h = says_in 10 n (omega arith)

pub decimal_sheet : (decimal 7 ≡ 55 ∷ []) × (decimal 304 ≡ 51 ∷ 48 ∷ 52 ∷ []) × (decimal 1064 ≡ 49 ∷ 48 ∷ 54 ∷ 52 ∷ [])
    × (decimal 4294967295 ≡ 52 ∷ 50 ∷ 57 ∷ 52 ∷ 57 ∷ 54 ∷ 55 ∷ 50 ∷ 57 ∷ 53 ∷ [])
unfolding decimal_in
decimal_sheet = (refl, refl, refl, refl)
