-- The reading order (document 01, "Reading order"), for any radio. Whatever it needs at a symbol it
-- reads off the symbols up to it, so it has no state. Rule 1 is the first line of `reading_from`,
-- rules 2 and 3 are `symbol_of`, rules 4 to 6 `rules`; `taking` puts them in order.
use Rattle.std.specs.Prelude.{ℕ, zero, suc, ◌+◌, ◌*◌, ◌/◌, ◌%◌, Bool, false, not, List, [], ◌∷◌, ◌++◌, map, length, get_or, take, drop, eqb, ltb}
use Rattle.codes.specs.Numbers.{DONE, NOROOM, RUNOUT, PREAMBLE, BADSTART, MORE}
use Rattle.codes.specs.Chips.{pick}
use Rattle.codes.specs.Radio.{Radio}
use Rattle.codes.specs.Symbol.{least, symbol_of, gap_of}
use Rattle.codes.specs.declared.Symbol.{Symbol}
use Rattle.frame.specs.Frame.{start_octet, per_octet}
use Rattle.order.specs.Received.{polarity_of, received, octet_at, octets_from}

-- refused with a number at a place; or done at a place, with the report, the number of chips
-- repaired, the smallest gap and the polarity
pub data Answer : Type 0 where
  refused : ℕ → ℕ → Answer
  done : ℕ → List ℕ → ℕ → ℕ → ℕ → Answer

-- one test and another
abbrev pub both : Bool → Bool → Bool
both a b = pick a b false

-- the chips of symbol s
abbrev pub window : Radio → List ℕ → ℕ → List ℕ
window r chips s = take r.size (drop (s * r.size) chips)

-- the chips of k symbols, from symbol s on
unfoldable pub windows : Radio → List ℕ → ℕ → ℕ → List (List ℕ)
windows r chips s zero = []
windows r chips s (suc k) = window r chips s ∷ windows r chips (suc s) k

-- a buffer cut into its whole symbols
abbrev pub whole : Radio → List ℕ → List (List ℕ)
whole r chips = windows r chips 0 (length chips / r.size)

-- symbol s is the last one of octet k of the frame, where octets have `per` symbols
abbrev pub ends : ℕ → ℕ → ℕ → Bool
ends per k s = eqb (suc s) (suc k * per)

-- Rules 4 to 6 at symbol s, over its raw symbol, the start octet and n:
-- 4. In the preamble, a raw bit or symbol that isn't 0: 7.
-- 5. On the last symbol of the start octet, an octet other than 0xA7: 8.
-- 6. On the last symbol of the length octet, a report buffer shorter than n: 3.
-- After the last symbol of the report (or of the length octet where n is 0) the reading has
-- succeeded; before it, more is wanted.
unfoldable pub rules : ℕ → ℕ → ℕ → ℕ → ℕ → ℕ → ℕ
rules per room s raw start n =
    pick (both (ltb s (4 * per)) (not (eqb raw 0))) PREAMBLE
    (pick (both (ends per 4 s) (not (eqb start start_octet))) BADSTART
    (pick (both (ends per 5 s) (ltb room n)) NOROOM
    (pick (ends per (5 + n) s) DONE MORE)))

-- the values of symbols
abbrev pub values : List Symbol → List ℕ
values xs = map (λ (x : Symbol). x.value) xs

-- the number of chips repaired in them
unfoldable pub repaired : List Symbol → ℕ
repaired [] = 0
repaired (x ∷ xs) = x.distance + repaired xs

-- the smallest gap of them
unfoldable pub smallest_gap : List Symbol → ℕ
smallest_gap xs = least (map gap_of xs)

-- Octet 5 of a frame is its length octet, which has n in its low seven bits. Its top bit, which is
-- reserved, is not looked at.
abbrev pub length_in : Radio → List ℕ → ℕ
length_in r bs = octet_at r 5 bs % 128

-- the rules at symbol s, over the raw symbols up to and with it. Octet 4 of a frame is its start
-- octet.
abbrev pub verdict : Radio → ℕ → ℕ → List ℕ → ℕ
verdict r room s bs = rules (per_octet r) room s (get_or bs s 0) (octet_at r 4 bs) (length_in r bs)

-- the report: n octets after the length octet
abbrev pub report_in : Radio → List ℕ → List ℕ
report_in r bs = octets_from r 6 (length_in r bs) bs

-- what the symbols `read`, up to symbol s, come to where the reading has succeeded
abbrev pub succeeded : Radio → ℕ → List Symbol → Answer
succeeded r s read =
    done (suc s) (report_in r (received r (values read))) (repaired read) (smallest_gap read) (polarity_of r (values read))

-- what number x means after them, of which the last is in hand: the next one, or the end
unfoldable pub concluded : Radio → ℕ → List Symbol → ℕ → Answer → Answer
concluded r s read x next = pick (eqb x MORE) next (pick (eqb x DONE) (succeeded r s read) (refused x s))

-- The symbol x in hand, after those before it; `next` is the reading of the symbols after it. The
-- first thing found wrong ends the reading, at the number of the symbol in hand: what its chips say
-- (rules 2 and 3), then rules 4 to 6.
unfoldable pub taking : Radio → ℕ → List Symbol → Symbol → Answer → Answer
taking r room before x next =
    pick (eqb x.number DONE)
    (concluded r (length before) (before ++ x ∷ []) (verdict r room (length before) (received r (values (before ++ x ∷ [])))) next)
    (refused x.number (length before))

-- the reading of the windows left, after the symbols before them
-- 1. Fewer chips left than one symbol: 4.
unfoldable pub reading_from : Radio → ℕ → List Symbol → List (List ℕ) → Answer
reading_from r room before [] = refused RUNOUT (length before)
reading_from r room before (w ∷ ws) = taking r room before (symbol_of r w) (reading_from r room (before ++ symbol_of r w ∷ []) ws)

-- Symbols are taken in order from symbol 0.
unfoldable pub reading : Radio → ℕ → List ℕ → Answer
reading r room chips = reading_from r room [] (whole r chips)
