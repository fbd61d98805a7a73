-- The digits that `itoa` promises are the number in decimal; an entry put behind the text before
-- it. Assumes nothing.
use Rattle.std.proofs.Common.{◌≡◌, ℕ, ◌+◌, ◌<◌, ◌≤◌, ◌^◌, List, [], ◌∷◌, ◌++◌, length, take, set, refl, sym, ◌∙◌, append_assoc, length-append, length-take-le, arith}
use Rattle.std.proofs.lemmas.Fmt.{AppendsLastDigit, decimal_from_appends, length-decimal-le}
use Rattle.std.proofs.lemmas.Grind.{take-set_at}
use Rattle.std.proofs.lemmas.List.{take_at}
use Rattle.std.specs.Fmt as printed
use Rattle.bench.specs.Lines.{decimal_in, decimal, entry}
use borrow.Author.Tests.{lt-ltb, le-ltb}

-- `decimal_in` makes one digit of a number below ten, and puts another's last digit behind the rest
last_digit_last : AppendsLastDigit decimal_in
unfolding decimal_in
last_digit_last = record {
  one = λ k n h. rw (lt-ltb n 10 h);
  more = λ k n h. rw (le-ltb n 10 h);
}

-- a number of 32 bits has at most ten digits
pub few_digits : (n : ℕ) → n < 2 ^ 32 → length (printed.decimal n) ≤ 10
few_digits n h = length-decimal-le 10 n (omega arith) (omega arith) (omega arith)

-- the digits that are printed of it are the number in decimal
pub digits_decimal : (n : ℕ) → n < 2 ^ 32 → printed.decimal n ≡ decimal n
digits_decimal n h = sym (decimal_from_appends decimal_in last_digit_last 10 n (omega arith) (few_digits n h))

-- An entry behind the first `at` bytes of t: a copy of its digits ds begins the bytes that stand
-- there in u, and a store puts the byte after them.
pub put_entry : (t u ds copy rest : List ℕ) (at n after : ℕ) → at ≤ length t → n < 2 ^ 32 → ds ≡ printed.decimal n → copy ≡ ds
    → u ≡ take at t ++ (copy ++ rest) → 0 < length rest → take (at + length ds + 1) (set u (at + length ds) after) ≡ take at t ++ entry n after
put_entry t u ds copy rest at n after l b d k e f =
    let front : length (take at t ++ ds) ≡ at + length ds = length-append (take at t) ds ∙ omega (arith, length-take-le at t l) in
    let parts : u ≡ (take at t ++ ds) ++ rest = e ∙ rw k (rw append_assoc) in
    let room : at + length ds < length u = rw (parts, length-append (take at t ++ ds) rest) (omega arith) in
    let before : take (at + length ds) u ≡ take at t ++ ds = rw parts (take_at (take at t ++ ds) rest (at + length ds) front) in
    take-set_at u (at + length ds) (at + length ds + 1) after refl room
    ∙ rw (before, d ∙ digits_decimal n b) (append_assoc (take at t) (decimal n) (after ∷ []))
