-- The numbers that the reading refuses with, of which the number of success is none, and with room
-- for 127 octets 3 is none. For any radio. Assumes nothing.
use mathlib.Core.Path.{◌≡◌, refl}
use mathlib.Core.Bool.{true, false}
use mathlib.Core.List.{List, [], ◌∷◌, ◌++◌}
use Prim.Native.Nat.{ℕ, suc, ◌+◌, ◌*◌, ◌≤◌}
use native.Mathlib.Omega.{arith}
use lib.ListN.{length}
use lib.Dec.{eqb}
use borrow.Author.Tests.{eqb-false}
use Rattle.codes.specs.declared.Symbol.{Symbol}
use Rattle.codes.specs.Numbers.{DONE, BADMODE, NOROOM, RUNOUT, NOCHIP, LOST, PREAMBLE, BADSTART, MORE}
use Rattle.codes.specs.Chips.{among}
use Rattle.codes.specs.Radio.{Radio, known, radio_of}
use Rattle.codes.specs.Symbol.{symbol_of}
use Rattle.codes.proofs.Tests.{by_pick, not_both}
use Rattle.codes.proofs.Unique.{symbol_numbers}
use Rattle.frame.specs.Frame.{per_octet}
use Rattle.order.specs.Order.{Answer, refused, done, rules, values, verdict, concluded, taking, reading_from, reading, whole}
use Rattle.reader.specs.Read.{told, answer_at}
use Rattle.order.specs.Received.{received}
use Rattle.order.proofs.Rules.{rules_ways}

-- those of the reading order
abbrev pub refusals : List ℕ
refusals = NOROOM ∷ RUNOUT ∷ NOCHIP ∷ LOST ∷ PREAMBLE ∷ BADSTART ∷ []

-- an answer is done, or refuses with one of these
abbrev pub Fair : Answer → Type 0
Fair (refused x place) = among x refusals ≡ true
Fair (done place report count gap polarity) = Unit {0}

-- a symbol that isn't read
symbol_fair : (r : Radio) (w : List ℕ) → ((symbol_of r w).number ≡ DONE → ⊥) → among (symbol_of r w).number refusals ≡ true
symbol_fair r w =
    symbol_numbers r w (λ x. (x ≡ DONE → ⊥) → among x refusals ≡ true) (λ n. refl) (λ n. refl) (λ n. absurd (n refl))

-- a rule that ends the reading without success
rules_fair : (per room s raw start n : ℕ) → (rules per room s raw start n ≡ MORE → ⊥) → (rules per room s raw start n ≡ DONE → ⊥)
    → among (rules per room s raw start n) refusals ≡ true
rules_fair per room s raw start n =
    rules_ways per room s raw start n P (λ _ _ m d. refl) (λ _ _ m d. refl) (λ _ _ m d. refl)
    (λ _. by_pick P (eqb (suc s) ((6 + n) * per)) DONE MORE (λ _ m d. absurd (d refl)) (λ _ m d. absurd (m refl)))
  where
    P : ℕ → Type 0
    P z = (z ≡ MORE → ⊥) → (z ≡ DONE → ⊥) → among z refusals ≡ true

-- what the rules say of a symbol after those before it
abbrev pub found : Radio → ℕ → List Symbol → Symbol → ℕ
found r room before x = verdict r room (length before) (received r (values (before ++ x ∷ [])))

-- What is true of each way that a reading can end is true of every reading: no chips left, a symbol
-- that isn't read, a rule that refuses, done.
module _ (r : Radio) (room : ℕ) (P : Answer → Type 0) (out : (s : ℕ) → P (refused RUNOUT s))
    (unread : (s : ℕ) (w : List ℕ) → ((symbol_of r w).number ≡ DONE → ⊥) → P (refused (symbol_of r w).number s))
    (refusing : (before : List Symbol) (x : Symbol) → (found r room before x ≡ MORE → ⊥) → (found r room before x ≡ DONE → ⊥)
    → P (refused (found r room before x) (length before)))
    (well : (place : ℕ) (report : List ℕ) (count gap polarity : ℕ) → P (done place report count gap polarity)) where
  -- a symbol in hand, where what follows it is so
  taking_ways : (before : List Symbol) (w : List ℕ) (next : Answer) → P next → P (taking r room before (symbol_of r w) next)
  unfolding taking concluded
  taking_ways before w next f =
      by_pick P (eqb (symbol_of r w).number DONE) _ _
      (λ _. by_pick P (eqb x MORE) _ _ (λ _. f)
      (λ m. by_pick P (eqb x DONE) _ _ (λ _. well _ _ _ _ _) (λ d. refusing before (symbol_of r w) (eqb-false x MORE m) (eqb-false x DONE d))))
      (λ n. unread (length before) w (eqb-false (symbol_of r w).number DONE n))
    where
      x : ℕ
      x = found r room before (symbol_of r w)

  from_ways : (before : List Symbol) (ws : List (List ℕ)) → P (reading_from r room before ws)
  unfolding reading_from
  from_ways before [] = out (length before)
  from_ways before (w ∷ ws) = taking_ways before w _ (from_ways (before ++ symbol_of r w ∷ []) ws)

  pub reading_ways : (chips : List ℕ) → P (reading r room chips)
  unfolding reading
  reading_ways chips = from_ways [] (whole r chips)

-- the reading of a whole buffer
pub answer_fair : (r : Radio) (room : ℕ) (chips : List ℕ) → Fair (reading r room chips)
answer_fair r room =
    reading_ways r room Fair (λ s. refl) (λ s w. symbol_fair r w) (λ before x. rules_fair (per_octet r) room _ _ _ _)
    (λ place report count gap polarity. tt)

-- With room for 127 octets none is refused for want of it: n is the low seven bits of an octet.
abbrev pub NotShort : Answer → Type 0
NotShort (refused x place) = x ≡ NOROOM → ⊥
NotShort (done place report count gap polarity) = Unit {0}

rules_roomy : (per room s raw start n : ℕ) → n ≤ room → rules per room s raw start n ≡ NOROOM → ⊥
rules_roomy per room s raw start n h =
    rules_ways per room s raw start n P (λ _ _ e. omega (arith, e)) (λ _ _ e. omega (arith, e)) (λ _ l _. omega arith)
    (λ _. by_pick P (eqb (suc s) ((6 + n) * per)) DONE MORE (λ _ e. omega (arith, e)) (λ _ e. omega (arith, e)))
  where
    P : ℕ → Type 0
    P z = z ≡ NOROOM → ⊥

pub answer_roomy : (r : Radio) (room : ℕ) → 127 ≤ room → (chips : List ℕ) → NotShort (reading r room chips)
answer_roomy r room h =
    reading_ways r room NotShort (λ s e. omega (arith, e))
    (λ s w _. symbol_numbers r w (λ x. x ≡ NOROOM → ⊥) (λ e. omega (arith, e)) (λ e. omega (arith, e)) (λ e. omega (arith, e)))
    (λ before x _ _. rules_roomy (per_octet r) room _ _ _ _ (omega arith)) (λ place report count gap polarity. tt)

-- done is none of these numbers
pub done_unfair : (x : ℕ) → x ≡ DONE → among x refusals ≡ true → ⊥
done_unfair x z f = not_both false (rw z at f) refl

-- an answer of the reader, whatever the mode, is done or refuses with another number
abbrev pub Told : Answer → Type 0
Told (refused x place) = x ≡ DONE → ⊥
Told (done place report count gap polarity) = Unit {0}

pub answer_told : (mode room : ℕ) (chips : List ℕ) → Told (answer_at mode room chips)
unfolding answer_at
answer_told mode room chips =
    by_pick Told (known mode) _ _ (λ _. go (reading (radio_of mode) room chips) (answer_fair _ _ _)) (λ _ e. absurd (eqb-false BADMODE DONE refl e))
  where
    go : (a : Answer) → Fair a → Told a
    go (refused x place) f = λ z. done_unfair x z f
    go (done place report count gap polarity) f = tt

-- and with that room it is not 3
pub told_roomy : (mode room : ℕ) → 127 ≤ room → (chips : List ℕ) → (told (answer_at mode room chips)).number ≡ NOROOM → ⊥
unfolding answer_at told
told_roomy mode room h chips =
    by_pick P (known mode) _ _ (λ _. go (reading (radio_of mode) room chips) (answer_roomy (radio_of mode) room h chips)) (λ _ e. omega (arith, e))
  where
    P : Answer → Type 0
    P a = (told a).number ≡ NOROOM → ⊥

    go : (a : Answer) → NotShort a → P a
    go (refused x place) f = f
    go (done place report count gap polarity) f = λ e. omega (arith, e)
