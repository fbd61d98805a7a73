-- The words that the demands are stated with: a report and its frames, and their inverse; that the
-- reading answers a report and a count; the gap of chips and their polarity; chips that are one of
-- those frames but for a few in each symbol; the sum of differences; the outcomes that tell a
-- report and a refusal, and outcomes alike but for the polarity; and where a number may stand.
use Rattle.std.specs.Prelude.{◌≡◌, true, false, ◌⊎◌, List, [], ◌∷◌, ◌++◌, map, ℕ, zero, suc, ◌+◌, ◌-◌, ◌*◌, ◌/◌, ◌≤◌, ◌<◌, length, get_or, take, drop, eqb}
use Rattle.codes.specs.Numbers.{DONE, NOROOM, PREAMBLE, BADSTART}
use Rattle.codes.specs.Chips.{pick, distance, bad}
use Rattle.codes.specs.Radio.{Radio, radio_of, word, bpsk}
use Rattle.frame.specs.Outcome.{Outcome, outcome}
use Rattle.codes.specs.Symbol.{least, nearest, next_nearest, symbol_of}
use Rattle.frame.specs.Frame.{per_octet, Form, formed, symbols, frame_with}
use Rattle.reader.specs.declared.Reading.{Reading}
use Rattle.order.specs.Received.{polarity_of, received, octet_at}
use Rattle.order.specs.Order.{Answer, refused, done, window, windows, whole, values, reading}

-- a report: at most 127 numbers below 256
pub record Report (report : List ℕ) : Type 0 where
  pub short : length report ≤ 127
  pub octets : (i : ℕ) → i < length report → get_or report i 0 < 256

-- How frames are sent: as they are written, and with the reserved bit of the length octet set, as
-- others may do it; and, where there is a chain, either of them the other way round.
abbrev pub forms : Radio → List Form
forms r = pick r.chained (formed 0 0 ∷ formed 1 0 ∷ formed 0 1 ∷ formed 1 1 ∷ []) (formed 0 0 ∷ formed 1 0 ∷ [])

-- a report's frames, one for each
abbrev pub frames : Radio → List ℕ → List (List ℕ)
frames r report = map (λ (form : Form). frame_with r form report) (forms r)

-- one of a list
abbrev pub OneOf : {A : Type 0} → List A → A → Type 0
OneOf [] x = ⊥
OneOf (y ∷ ys) x = (x ≡ y) ⊎ OneOf ys x

-- chips, each of them inverted
abbrev pub inverse : List ℕ → List ℕ
inverse chips = map (λ (c : ℕ). 1 - c) chips

-- the two words of a radio are each other's inverse
abbrev pub Opposite : Radio → Type 0
Opposite r = (v : ℕ) → v ≤ 1 → word r (1 - v) ≡ inverse (word r v)

-- the values that symbols in windows read as
abbrev pub values_in : Radio → List (List ℕ) → List ℕ
values_in r ws = values (map (symbol_of r) ws)

-- how the frame in them was sent: the reserved bit is the top one of octet 5, the length octet, of
-- their raw symbols, and the polarity is by the first value
abbrev pub form_in : Radio → List (List ℕ) → Form
form_in r ws = formed (octet_at r 5 (received r (values_in r ws)) / 128) (polarity_of r (values_in r ws))

-- that one of a report's frames which symbol 0 and the length octet's symbols in the chips read as
abbrev pub frame_read : Radio → List ℕ → List ℕ → List ℕ
frame_read r chips report = frame_with r (form_in r (whole r chips)) report

-- the polarity of chips
abbrev pub polarity_in : Radio → List ℕ → ℕ
polarity_in r chips = (form_in r (whole r chips)).polarity

-- how much nearer the nearest word is to a symbol's chips than the next-nearest
abbrev pub window_gap : Radio → List ℕ → ℕ
window_gap r w = next_nearest r w - nearest r w

-- the gap of the chips' first k symbols: the least over their windows
unfoldable pub gap_in : Radio → List ℕ → ℕ → ℕ
gap_in r chips k = least (map (window_gap r) (windows r chips 0 k))

-- over all symbols of a report's frame: preamble, start and length octet too
abbrev pub frame_gap : Radio → List ℕ → List ℕ → ℕ
frame_gap r chips report = gap_in r chips (length (symbols r report))

-- the least distance of two words, by mode, which is the gap of a frame as written
abbrev pub apart_in : ℕ → ℕ
apart_in mode = get_or (15 ∷ 12 ∷ 6 ∷ []) mode 15

-- with so much room, the reading of the chips answers this report, this count, their gap and
-- their polarity
abbrev pub Answers : Radio → ℕ → List ℕ → List ℕ → ℕ → Type 0
Answers r room chips report count =
    reading r room chips ≡ done (length (symbols r report)) report count (frame_gap r chips report) (polarity_in r chips)

-- The chips begin with chips 0 or 1 whose distance from a frame is at most the limit in each
-- symbol's window, and count is the distance of the whole prefix from the whole frame.
pub record Near (r : Radio) (chips frame : List ℕ) (count : ℕ) : Type 0 where
  pub long : length frame ≤ length chips
  pub chip : bad (take (length frame) chips) ≡ false
  pub near : (s : ℕ) → suc s * r.size ≤ length frame → distance (window r chips s) (window r frame s) ≤ r.limit
  pub sum : count ≡ distance (take (length frame) chips) frame

-- the chips do so with one of the report's frames
pub record NearOne (r : Radio) (chips report : List ℕ) (count : ℕ) : Type 0 where
  pub frame : List ℕ
  pub member : OneOf (frames r report) frame
  pub near : Near r chips frame count

-- In mode 0: they do so with a frame of the report that has this polarity, with one reserved bit or
-- the other; with polarity 1 that is the inverse of the frame with 0.
abbrev pub NearEither : List ℕ → List ℕ → ℕ → ℕ → Type 0
NearEither chips report count polarity =
    (bit : ℕ) × (bit ≤ 1)
    × (((polarity ≡ 0) × Near bpsk chips (frame_with bpsk (formed bit 0) report) count)
    ⊎ ((polarity ≡ 1) × Near bpsk chips (inverse (frame_with bpsk (formed bit 0) report)) count))

-- the sum of the distances of the windows of the first k symbols
unfoldable pub differences : Radio → List ℕ → List ℕ → ℕ → ℕ
differences r xs ys zero = 0
differences r xs ys (suc k) = differences r xs ys k + distance (window r xs k) (window r ys k)

-- the reader's outcome that says this report, this count, this gap and this polarity, and leaves
-- the report at the front of the lent buffer
abbrev pub success : ℕ → List ℕ → List ℕ → ℕ → ℕ → ℕ → Outcome Reading
success mode buffer report count gap polarity =
    outcome
    (record {
      number = DONE;
      place = length (symbols (radio_of mode) report);
      n = length report;
      count = count;
      gap = gap;
      polarity = polarity;
    })
    (report ++ drop (length report) buffer)

-- what is told but for a report: a number at a place, and the lent buffer as it was
abbrev pub tells : ℕ → ℕ → List ℕ → Outcome Reading
tells x place buffer = outcome (record { number = x; place = place; n = 0; count = 0; gap = 0; polarity = 0 }) buffer

-- an answer with the other polarity; a refusal as it is
abbrev pub other_way : Answer → Answer
other_way (refused x place) = refused x place
other_way (done place report count gap polarity) = done place report count gap (1 - polarity)

-- Two outcomes of a reader that are alike in all but the polarity: where they are done the first
-- has the other one, else 0.
pub record Alike (o p : Outcome Reading) : Type 0 where
  pub number : o.answer.number ≡ p.answer.number
  pub place : o.answer.place ≡ p.answer.place
  pub n : o.answer.n ≡ p.answer.n
  pub count : o.answer.count ≡ p.answer.count
  pub gap : o.answer.gap ≡ p.answer.gap
  pub polarity : o.answer.polarity ≡ pick (eqb p.answer.number DONE) (1 - p.answer.polarity) 0
  pub buffer : o.buffer ≡ p.buffer

-- A number given back stands where the reading order lets it: 7 in the preamble, but, where there
-- is a chain, not at symbol 0, which settles the polarity; 8 on the last symbol of the start octet,
-- 3 on that of the length octet.
pub record Placed (r : Radio) (x place : ℕ) : Type 0 where
  pub preamble : x ≡ PREAMBLE → place < 4 * per_octet r
  pub second : x ≡ PREAMBLE → r.chained ≡ true → 0 < place
  pub start : x ≡ BADSTART → suc place ≡ 5 * per_octet r
  pub room : x ≡ NOROOM → suc place ≡ 6 * per_octet r
