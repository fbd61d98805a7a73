-- Lists of calls of the stepping receiver, the tests of a record in the words of frames, and what
-- take tells: the words that its theorems are stated with.
use Rattle.std.specs.Prelude.{◌≡◌, ℕ, ◌-◌, ◌*◌, ◌≤◌, ◌<◌, Bool, false, ◌⊎◌, List, [], ◌∷◌, ◌++◌, length, replicate}
use Rattle.codes.specs.Numbers.{DONE, NOROOM, ENDED, BADPART, NOTENDED, MORE}
use Rattle.codes.specs.Chips.{pick, among}
use Rattle.codes.specs.Radio.{known, radio_of}
use Rattle.frame.specs.Frame.{symbols}
use Rattle.order.specs.Order.{Answer, refused, done}
use Rattle.reader.specs.Read.{told}
use Rattle.receiver.specs.declared.Receiver.{Receiver}
use Rattle.receiver.specs.declared.Step.{Step}
use Rattle.receiver.specs.Record.{step, is_open, push_of, finish_of, take_of}
use Rattle.demands.specs.Words.{success, tells}

-- a part pushed, a finish, a take into a buffer
pub data Call : Type 0 where
  pushing : List ℕ → Call
  finishing : Call
  taking : List ℕ → Call

-- a call's number, and the record after it, which take never changes
unfoldable pub called : Receiver → Call → Step
called c (pushing part) = push_of c part
called c finishing = finish_of c
called c (taking buffer) = step (take_of c buffer).answer.number c

-- the record after calls, one after the other
unfoldable pub after : Receiver → List Call → Receiver
after c [] = c
after c (x ∷ xs) = after (called c x).receiver xs

-- the numbers that they answer
unfoldable pub numbers : Receiver → List Call → List ℕ
numbers c [] = []
numbers c (x ∷ xs) = (called c x).number ∷ numbers (called c x).receiver xs

-- a number with which push has taken a symbol
abbrev pub Taken : ℕ → Type 0
Taken x = (x ≡ MORE) ⊎ (x ≡ DONE)

-- 10, 11 or 12
abbrev pub stray : ℕ → Bool
stray x = among x (ENDED ∷ BADPART ∷ NOTENDED ∷ [])

-- the other numbers
unfoldable pub others : List ℕ → List ℕ
others [] = []
others (x ∷ xs) = pick (stray x) (others xs) (x ∷ others xs)

-- the calls that answered one of the others
unfoldable pub counted : Receiver → List Call → List Call
counted c [] = []
counted c (x ∷ xs) = pick (stray (called c x).number) (counted (called c x).receiver xs) (x ∷ counted (called c x).receiver xs)

-- symbols pushed in order until the record ends, and finished if it doesn't
unfoldable pub in_order : Receiver → List (List ℕ) → List Call
in_order c [] = pick (is_open c) (finishing ∷ []) []
in_order c (w ∷ ws) = pick (is_open c) (pushing w ∷ in_order (push_of c w).receiver ws) []

-- The numbers that a buffer's symbols, pushed in order, are answered with where its reading is an
-- answer: 13 for each symbol before the one that ends it, and then the answer's number.
abbrev pub turns_of : Answer → ℕ
turns_of (refused x place) = place
turns_of (done place report count gap polarity) = place - 1

abbrev pub numbers_of : Answer → List ℕ
numbers_of a = replicate (turns_of a) MORE ++ (told a).number ∷ []

-- One of the document's four tests of a record fails: its mode has no radio, its length is above
-- 127, its count is above the accepted distance times the symbols taken, or the symbols taken don't
-- fit (`misfit`) the number of symbols of the frame of a report of that length. (That number goes
-- by the length alone, so what holds of one such report holds of each.)
pub data Faulty (misfit : ℕ → Type 0) (c : Receiver) : Type 0 where
  no_radio : known c.mode ≡ false → Faulty misfit c
  too_long : 127 < c.length → Faulty misfit c
  too_many_repaired : (radio_of c.mode).limit * c.taken < c.count → Faulty misfit c
  misfits : ((report : List ℕ) → length report ≡ c.length → misfit (length (symbols (radio_of c.mode) report))) → Faulty misfit c

-- of an open record: the symbols taken are not fewer
abbrev pub FaultyOpen : Receiver → Type 0
FaultyOpen c = Faulty (λ total. total ≤ c.taken) c

-- of one that ended well: they are not as many
abbrev pub FaultyWell : Receiver → Type 0
FaultyWell c = Faulty (λ total. c.taken ≡ total → ⊥) c

-- Every call gives the record back as it was: push and finish with one number, take with one at
-- a place.
pub record Idle (c : Receiver) (x y place : ℕ) : Type 0 where
  pub pushed : (part : List ℕ) → push_of c part ≡ step x c
  pub finished : finish_of c ≡ step x c
  pub taken : (buffer : List ℕ) → take_of c buffer ≡ tells y place buffer

-- The record holds a report: take gives it into any buffer with room, and into a shorter one a 3 at
-- the number of symbols of the report's frame, with nothing stored.
pub record Holds (mode : ℕ) (c : Receiver) (report : List ℕ) (count gap polarity : ℕ) : Type 0 where
  pub given : (buffer : List ℕ) → length report ≤ length buffer → take_of c buffer ≡ success mode buffer report count gap polarity
  pub lacking : (buffer : List ℕ) → length buffer < length report → take_of c buffer ≡ tells NOROOM (length (symbols (radio_of mode) report)) buffer
