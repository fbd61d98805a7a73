-- Demand 1. What a refusal leaves: the reader's n, count, gap and polarity are 0, the writer's chip
-- count is 0, and the lent buffer is unchanged. The numbers that each gives back are those of the
-- document's table, each where the reading order lets it stand, and a mode that has no radio gives
-- number 1 at place 0. Assumes nothing.
use mathlib.Core.Path.{◌≡◌, refl}
use mathlib.Core.Bool.{true, false}
use mathlib.Core.List.{List, [], ◌∷◌}
use Prim.Native.Nat.{ℕ, ◌≤◌, ◌<◌}
use native.Mathlib.Omega.{arith}
use lib.ListN.{length}
use lib.Dec.{eqb, ltb}
use borrow.Author.Tests.{lt-ltb, le-ltb}
use Rattle.codes.specs.Numbers.{DONE, BADMODE, TOOLONG, NOROOM, RUNOUT, NOCHIP, LOST, PREAMBLE, BADSTART}
use Rattle.codes.specs.Radio.{known, radio_of}
use Rattle.codes.specs.Chips.{among}
use Rattle.frame.specs.declared.Written.{Written}
use Rattle.frame.specs.Outcome.{Outcome, outcome}
use Rattle.frame.specs.Frame.{frame}
use Rattle.frame.specs.Write.{unwritten, wrote, written}
use Rattle.order.specs.Order.{Answer, refused, done, reading}
use Rattle.reader.specs.Read.{told, left, answer_at, read_of}
use Rattle.demands.specs.Words.{tells, Placed}
use Rattle.codes.proofs.Tests.{by_pick}
use Rattle.reader.proofs.Fair.{refusals, Fair, answer_fair, told_roomy}
use Rattle.demands.proofs.Placed.{Standing, elsewhere, answer_placed}

-- ---- the reader

-- an answer that isn't done: n, count, gap and polarity 0, report buffer unchanged
pub leaves : (a : Answer) (buffer : List ℕ) → ((told a).number ≡ DONE → ⊥)
    → ((told a).n ≡ 0) × ((told a).count ≡ 0) × ((told a).gap ≡ 0) × ((told a).polarity ≡ 0) × (left a buffer ≡ buffer)
unfolding told left
leaves (refused x place) buffer n = (refl, refl, refl, refl, refl)
leaves (done place report count gap polarity) buffer n = absurd (n refl)

-- A refused reading: n, count, gap and polarity 0, report buffer unchanged.
pub read_refused : (mode : ℕ) (chips buffer : List ℕ) → ((read_of mode chips buffer).answer.number ≡ DONE → ⊥)
    → ((read_of mode chips buffer).answer.n ≡ 0) × ((read_of mode chips buffer).answer.count ≡ 0) × ((read_of mode chips buffer).answer.gap ≡ 0)
    × ((read_of mode chips buffer).answer.polarity ≡ 0) × ((read_of mode chips buffer).buffer ≡ buffer)
read_refused mode chips buffer = leaves (answer_at mode (length buffer) chips) buffer

-- one number more to be among
among_more : (x y : ℕ) (ns : List ℕ) → among x ns ≡ true → among x (y ∷ ns) ≡ true
among_more x y ns f = by_pick (λ t. t ≡ true) (eqb x y) true (among x ns) (λ _. refl) (λ _. f)

-- The reader gives back one of these numbers.
pub read_numbers : (mode : ℕ) (chips buffer : List ℕ)
    → among (read_of mode chips buffer).answer.number (DONE ∷ BADMODE ∷ NOROOM ∷ RUNOUT ∷ NOCHIP ∷ LOST ∷ PREAMBLE ∷ BADSTART ∷ []) ≡ true
unfolding answer_at told
read_numbers mode chips buffer = by_pick P (known mode) _ _ (λ _. go (reading (radio_of mode) (length buffer) chips) (answer_fair _ _ _)) (λ _. refl)
  where
    P : Answer → Type 0
    P a = among (told a).number (DONE ∷ BADMODE ∷ NOROOM ∷ RUNOUT ∷ NOCHIP ∷ LOST ∷ PREAMBLE ∷ BADSTART ∷ []) ≡ true

    go : (a : Answer) → Fair a → P a
    go (refused x place) f = among_more x DONE (BADMODE ∷ refusals) (among_more x BADMODE refusals f)
    go (done place report count gap polarity) f = refl

-- With room for 127 octets it never gives 3.
pub read_roomy : (mode : ℕ) (chips buffer : List ℕ) → 127 ≤ length buffer → (read_of mode chips buffer).answer.number ≡ 3 → ⊥
read_roomy mode chips buffer h = told_roomy mode (length buffer) h chips

-- And each stands where the reading order lets it: 7 in the preamble, but not at the symbol that
-- settles a polarity, 8 on the last symbol of the start octet, 3 on that of the length octet.
pub read_places : (mode : ℕ) (chips buffer : List ℕ)
    → Placed (radio_of mode) (read_of mode chips buffer).answer.number (read_of mode chips buffer).answer.place
unfolding answer_at told
read_places mode chips buffer =
    by_pick P (known mode) _ _ (λ _. go (reading (radio_of mode) (length buffer) chips) (answer_placed _ _ _)) (λ _. elsewhere _ _ _ refl)
  where
    P : Answer → Type 0
    P a = Placed (radio_of mode) (told a).number (told a).place

    go : (a : Answer) → Standing (radio_of mode) a → P a
    go (refused x place) f = f
    go (done place report count gap polarity) f = elsewhere _ _ _ refl

-- So no chips give 7 at symbol 0 in mode 0.
pub read_first : (chips buffer : List ℕ) → (read_of 0 chips buffer).answer.number ≡ PREAMBLE → (read_of 0 chips buffer).answer.place ≡ 0 → ⊥
read_first chips buffer e z = omega (arith, z, (read_places 0 chips buffer).second e refl)

-- A mode that has no radio: its number at place 0, before any symbol.
pub read_bad_mode : (mode : ℕ) (chips buffer : List ℕ) → known mode ≡ false
    → read_of mode chips buffer ≡ tells 1 0 buffer
unfolding answer_at told left
read_bad_mode mode chips buffer k = rw k

-- ---- the writer

-- what is true of the writer's four ways
written_ways : (mode : ℕ) (report buffer : List ℕ) (P : Outcome Written → Type 0) → P (unwritten BADMODE buffer)
    → P (unwritten TOOLONG buffer) → P (unwritten NOROOM buffer)
    → P (wrote (frame (radio_of mode) report) buffer) → P (written mode report buffer)
unfolding written
written_ways mode report buffer P m t n w =
    by_pick P (known mode) _ _
    (λ _. by_pick P (ltb 127 (length report)) _ _ (λ _. t)
    (λ _. by_pick P (ltb (length buffer) (length (frame (radio_of mode) report))) _ _ (λ _. n) (λ _. w)))
    (λ _. m)

-- A mode that has no radio: its number, before anything else.
pub write_bad_mode : (mode : ℕ) (report buffer : List ℕ) → known mode ≡ false → written mode report buffer ≡ outcome (record { number = 1; chips = 0 }) buffer
unfolding written
write_bad_mode mode report buffer k = rw k

-- More than 127 octets are 2, whatever the room; fewer, into a buffer shorter than their frame, 3.
module _ (mode : ℕ) (k : known mode ≡ true) (report buffer : List ℕ) where
  pub write_too_long : 127 < length report → written mode report buffer ≡ outcome (record { number = 2; chips = 0 }) buffer
  unfolding written
  write_too_long h = rw (k, lt-ltb 127 (length report) h)

  pub write_no_room : length report ≤ 127 → length buffer < length (frame (radio_of mode) report)
      → written mode report buffer ≡ outcome (record { number = 3; chips = 0 }) buffer
  unfolding written
  write_no_room h l = rw (k, le-ltb 127 (length report) h, lt-ltb (length buffer) (length (frame (radio_of mode) report)) l)

-- A refused writing: chip count 0, buffer unchanged.
pub write_refused : (mode : ℕ) (report buffer : List ℕ) → ((written mode report buffer).answer.number ≡ DONE → ⊥)
    → ((written mode report buffer).answer.chips ≡ 0) × ((written mode report buffer).buffer ≡ buffer)
write_refused mode report buffer =
    written_ways mode report buffer (λ o. (o.answer.number ≡ DONE → ⊥) → (o.answer.chips ≡ 0) × (o.buffer ≡ buffer))
    (λ _. (refl, refl)) (λ _. (refl, refl)) (λ _. (refl, refl)) (λ n. absurd (n refl))

-- The writer gives back one of these numbers.
pub write_numbers : (mode : ℕ) (report buffer : List ℕ)
    → among (written mode report buffer).answer.number (DONE ∷ BADMODE ∷ TOOLONG ∷ NOROOM ∷ []) ≡ true
write_numbers mode report buffer =
    written_ways mode report buffer (λ o. among o.answer.number (DONE ∷ BADMODE ∷ TOOLONG ∷ NOROOM ∷ []) ≡ true) refl refl refl refl
