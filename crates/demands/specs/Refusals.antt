-- The words that the theorem of the reading order is stated with, in the order of document 01's
-- "Reading order", of chips, distances, raw symbols and octets: symbols that are read, that the
-- reading goes on after them, and what is found wrong at the next one.
use Rattle.std.specs.Prelude.{◌≡◌, List, [], ◌∷◌, ◌++◌, ℕ, suc, ◌+◌, ◌*◌, ◌≤◌, ◌<◌, length, get_or}
use Rattle.codes.specs.Chips.{distance}
use Rattle.codes.specs.Radio.{Radio, word}
use Rattle.frame.specs.Frame.{per_octet}
use Rattle.order.specs.Received.{received, octet_at}
use Rattle.order.specs.Order.{window, length_in}

-- The chips' first symbols are read as these values: no byte is above 1, and each symbol's chips
-- are within the accepted distance of its value's word.
pub record ReadAs (r : Radio) (chips vs : List ℕ) : Type 0 where
  pub long : length vs * r.size ≤ length chips
  pub chip : (i : ℕ) → i < length vs * r.size → get_or chips i 0 ≤ 1
  pub known : (s : ℕ) → s < length vs → get_or vs s 0 < length r.words
  pub near : (s : ℕ) → s < length vs → distance (window r chips s) (word r (get_or vs s 0)) ≤ r.limit

-- The reading goes on after raw symbols: those in the preamble are 0, the start octet, where it is
-- whole, is 0xA7, and where the length octet is, n octets have room and are not all there yet.
pub record GoesOn (r : Radio) (room : ℕ) (bs : List ℕ) : Type 0 where
  pub preamble : (s : ℕ) → s < length bs → s < 4 * per_octet r → get_or bs s 0 ≡ 0
  pub start : 5 * per_octet r ≤ length bs → octet_at r 4 bs ≡ 0xA7
  pub fits : 6 * per_octet r ≤ length bs → length_in r bs ≤ room
  pub more : 6 * per_octet r ≤ length bs → length bs < (6 + length_in r bs) * per_octet r

-- the chips of the symbol after these values are all there
abbrev pub NextWhole : Radio → List ℕ → List ℕ → Type 0
NextWhole r chips vs = suc (length vs) * r.size ≤ length chips

-- What is wrong at the symbol after these values, which has their number, and the number that it is
-- refused with.
pub data Wrong (r : Radio) (room : ℕ) (chips vs : List ℕ) (x : ℕ) : Type 0 where
  -- 1. Fewer chips left than one symbol: 4.
  runs_out : x ≡ 4 → length chips < suc (length vs) * r.size → Wrong r room chips vs x
  -- 2. A byte above 1 among the symbol's chips: 5.
  no_chip : x ≡ 5 → NextWhole r chips vs → (i : ℕ) → i < r.size → 1 < get_or chips (length vs * r.size + i) 0 → Wrong r room chips vs x
  -- 3. No code word within the accepted distance: 6.
  lost : x ≡ 6 → NextWhole r chips vs → ((i : ℕ) → i < r.size → get_or chips (length vs * r.size + i) 0 ≤ 1)
      → ((v : ℕ) → v < length r.words → r.limit < distance (window r chips (length vs)) (word r v)) → Wrong r room chips vs x
  -- 4. In the preamble, a raw bit or symbol that isn't 0: 7.
  not_zero : x ≡ 7 → (v : ℕ) → ReadAs r chips (vs ++ v ∷ []) → length vs < 4 * per_octet r
      → (get_or (received r (vs ++ v ∷ [])) (length vs) 0 ≡ 0 → ⊥) → Wrong r room chips vs x
  -- 5. On the last symbol of the start octet, an octet other than 0xA7: 8.
  no_start : x ≡ 8 → (v : ℕ) → ReadAs r chips (vs ++ v ∷ []) → suc (length vs) ≡ 5 * per_octet r
      → (octet_at r 4 (received r (vs ++ v ∷ [])) ≡ 0xA7 → ⊥) → Wrong r room chips vs x
  -- 6. On the last symbol of the length octet, a report buffer shorter than n: 3.
  no_room : x ≡ 3 → (v : ℕ) → ReadAs r chips (vs ++ v ∷ []) → suc (length vs) ≡ 6 * per_octet r
      → room < length_in r (received r (vs ++ v ∷ [])) → Wrong r room chips vs x

-- The reading of the chips is refused with x at symbol s: the symbols before it read on, and that
-- is wrong with it.
pub record Refuses (r : Radio) (room : ℕ) (chips : List ℕ) (x s : ℕ) : Type 0 where
  pub values : List ℕ
  pub place : length values ≡ s
  pub read : ReadAs r chips values
  pub on : GoesOn r room (received r values)
  pub wrong : Wrong r room chips values x
