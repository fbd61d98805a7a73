-- Reading one symbol: rules 2 and 3 of document 01's "Reading order", and how close it was, which
-- document 02 asks besides. For any radio with at least two words.
use Rattle.std.specs.Prelude.{◌≡◌, ℕ, zero, suc, ◌-◌, ◌<◌, Bool, List, [], ◌∷◌, ◌++◌, map, length, take, drop, ◌==◌, nat_eq, nat_le, nat_lt}
use Rattle.codes.specs.declared.Symbol.{Symbol}
use Rattle.codes.specs.Numbers.{DONE, BADMODE, NOCHIP, LOST, BADPART}
use Rattle.codes.specs.Chips.{pick, distance, bad}
use Rattle.codes.specs.Radio.{Radio, known, radio_of, word}

-- the lesser of two numbers
abbrev pub lesser : ℕ → ℕ → ℕ
lesser x y = pick (nat_lt x y) x y

-- the least of some numbers. (Of none 0, so that it is total: there are always some.)
unfoldable pub least : List ℕ → ℕ
least [] = 0
least (x ∷ []) = x
least (x ∷ y ∷ ys) = lesser x (least (y ∷ ys))

-- the first of the k numbers from i on that passes the test; i + k where none does
unfoldable pub first : (ℕ → Bool) → ℕ → ℕ → ℕ
first p i zero = i
first p i (suc k) = pick (p i) i (first p (suc i) k)

-- all of a list but element v
abbrev pub without : {A : Type 0} → ℕ → List A → List A
without v xs = take v xs ++ drop (suc v) xs

-- how far the nearest word is: the least over all words
unfoldable pub nearest : Radio → List ℕ → ℕ
nearest r chips = least (map (distance chips) r.words)

-- the nearest word, the lowest number on a tie
unfoldable pub nearest_word : Radio → List ℕ → ℕ
nearest_word r chips = first (λ v. nat_eq (distance chips (word r v)) (nearest r chips)) 0 (length r.words)

-- how far the nearest of the words other than v is: the least over these
unfoldable pub nearest_but : Radio → List ℕ → ℕ → ℕ
nearest_but r chips v = least (map (distance chips) (without v r.words))

-- how far the next-nearest other word is
abbrev pub next_nearest : Radio → List ℕ → ℕ
next_nearest r chips = nearest_but r chips (nearest_word r chips)

-- a refusal's other numbers are 0
abbrev pub refused : ℕ → Symbol
refused x = record { number = x; value = 0; distance = 0; next = 0 }

-- a number, and the nearest word with both distances
abbrev pub closeness : ℕ → Radio → List ℕ → Symbol
closeness x r chips = record { number = x; value = nearest_word r chips; distance = nearest r chips; next = next_nearest r chips }

-- 2. A byte above 1 among the symbol's chips: 5.
-- 3. No code word within the accepted distance: 6. Otherwise the symbol's value is that of the one
--    word within it, which is the nearest (proofs/Unique.antt). Either way the answer says which
--    word is the nearest, how far it is, and how far the next-nearest other word is.
unfoldable pub symbol_of : Radio → List ℕ → Symbol
symbol_of r chips =
    pick (bad chips) (refused NOCHIP) (closeness (pick (nat_le (nearest r chips) r.limit) DONE LOST) r chips)

-- The gap of a symbol: the next-nearest word's distance less the nearest's.
abbrev pub gap_of : Symbol → ℕ
gap_of x = x.next - x.distance

-- what is held for the smallest gap before the first symbol: the greatest number of 32 bits, which
-- no gap is
abbrev pub NOGAP : ℕ
NOGAP = 0xFFFFFFFF

-- From every word the nearest other word is d away: d is the least distance of two words.
abbrev pub Spaced : Radio → ℕ → Type 0
Spaced r d = (v : ℕ) → v < length r.words → nearest_but r (word r v) v ≡ d

-- Matching one symbol by itself, at a mode: 1, then 11 where the part isn't exactly one symbol
-- long, then as above.
unfoldable pub match_of : ℕ → List ℕ → Symbol
match_of mode part =
    pick (known mode)
    (pick (length part == (radio_of mode).size) (symbol_of (radio_of mode) part) (refused BADPART))
    (refused BADMODE)
