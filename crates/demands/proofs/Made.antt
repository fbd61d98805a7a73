-- The records that the calls make, from start on: each keeps its mode and its 127 octets; in mode 0
-- it isn't ended by 7 at symbol 0; it carries the symbols before and wants more, or its frame is
-- complete, or a refusal ended it.
-- Assumes nothing.
use mathlib.Core.Path.{◌≡◌, refl, sym, ◌∙◌}
use mathlib.Core.Bool.{true, false}
use mathlib.Core.List.{List, [], ◌∷◌}
use mathlib.Core.Logic.{⊎_elim}
use Prim.Native.Nat.{ℕ, ◌*◌, ◌<◌}
use native.Mathlib.Omega.{arith}
use lib.Dec.{eqb}
use lib.ListN.{length}
use borrow.Author.Tests.{ne_eqb, eqb-false}
use Rattle.codes.specs.declared.Symbol.{Symbol}
use Rattle.codes.specs.Numbers.{DONE, BADMODE, RUNOUT, NOCHIP, LOST, PREAMBLE, BADSTART, MORE}
use Rattle.codes.specs.Chips.{among}
use Rattle.codes.specs.Radio.{known, radio_of}
use Rattle.codes.specs.Symbol.{symbol_of}
use Rattle.codes.proofs.Tests.{by_pick, by_test, not_both}
use Rattle.codes.proofs.Facts.{sound}
use Rattle.frame.specs.Frame.{per_octet}
use Rattle.order.specs.declared.Hand.{Hand}
use Rattle.order.specs.Taking.{kept_in, kept_at, Complete}
use Rattle.order.proofs.Carried.{Carries, carries_none}
use Rattle.order.proofs.Turns.{Open, open_begun}
use Rattle.order.proofs.Gathered.{kept_long}
use Rattle.reader.proofs.Modes.{followed_turned}
use Rattle.receiver.specs.declared.Receiver.{Receiver}
use Rattle.receiver.specs.declared.Step.{Step}
use Rattle.receiver.specs.Record.{start_of, either, forged, hand_of, took_symbol}
use Rattle.receiver.proofs.Ways.{forged_refused}
use Rattle.receiver.proofs.Honest.{open_honest, complete_honest}
use Rattle.demands.specs.Calls.{Call, pushing, finishing, taking, called, after}
use Rattle.demands.proofs.Among.{among_pass}
use Rattle.demands.proofs.Given.{of_symbol, push_ways, took_given, took_second, finish_ways}

-- the numbers that end a record
abbrev endings : List ℕ
endings = BADMODE ∷ RUNOUT ∷ NOCHIP ∷ LOST ∷ PREAMBLE ∷ BADSTART ∷ []

-- how far it is
pub data Honest (c : Receiver) : Type 0 where
  wanting : known c.mode ≡ true → (before : List Symbol) → Carries (radio_of c.mode) before (hand_of c) → Open (radio_of c.mode) 127 (hand_of c) → Honest c
  complete : known c.mode ≡ true → c.ended ≡ DONE → Complete (radio_of c.mode) 127 (hand_of c) → Honest c
  ended : among c.ended endings ≡ true → Honest c

-- made for a mode
pub record Made (mode : ℕ) (c : Receiver) : Type 0 where
  pub own : c.mode ≡ mode
  pub long : length c.octets ≡ 127
  pub second : mode ≡ 0 → c.ended ≡ PREAMBLE → 0 < c.taken
  pub honest : Honest c

-- a number that ends a record is not another one
pub not_ending : (x y : ℕ) → among x endings ≡ true → among y endings ≡ false → x ≡ y → ⊥
not_ending x y t f e = not_both (among y endings) (rw e at t) f

-- nor does such a record hold one that neither wants more, nor is done, nor ends one
pub holds_no : (y : ℕ) → eqb y MORE ≡ false → eqb y DONE ≡ false → among y endings ≡ false → (c : Receiver) → Honest c → c.ended ≡ y → ⊥
holds_no y m d f c (wanting k before C O) e = eqb-false y MORE m (sym e ∙ O.number)
holds_no y m d f c (complete k w F) e = eqb-false y DONE d (sym e ∙ w)
holds_no y m d f c (ended t) e = not_ending c.ended y t f e

pub passes : (c : Receiver) → Honest c → forged c ≡ false
passes c (wanting k before C O) = open_honest c k O
passes c (complete k d F) = complete_honest c k d F
passes c (ended t) = sym (forged_refused c (not_ending c.ended MORE t refl) (not_ending c.ended DONE t refl))

starts : (mode : ℕ) → Made mode (start_of mode).receiver
unfolding start_of
starts mode =
    by_test (known mode)
    (λ k.
    let h = carries_none (radio_of mode) (sound mode) in
    rw k (record { own = refl; long = refl; second = λ _ e. absurd (omega (arith, e)); honest = wanting k [] h (open_begun (radio_of mode) (sound mode) 127) }))
    (λ k. rw k (record { own = refl; long = refl; second = λ _ e. absurd (omega (arith, e)); honest = ended refl }))

-- a symbol taken
took : (c : Receiver) → Honest c → (part : List ℕ) → forged c ≡ false → c.ended ≡ MORE → Honest (took_symbol c (symbol_of (radio_of c.mode) part)).receiver
took c (wanting k before C O) part f o =
    let given = took_given c part f o in
    let x = (took_symbol c (symbol_of (radio_of c.mode) part)).number in
    ⊎_elim (λ t. wanting k _ t.carries t.goes)
    (⊎_elim (λ t. complete k t.number t.all)
    (λ t. ended (refusal x given t.more t.over)))
    (followed_turned c.mode k before (hand_of c) C O part)
  where
    refusal : (x : ℕ) → among x of_symbol ≡ true → (x ≡ MORE → ⊥) → (x ≡ DONE → ⊥) → among x endings ≡ true
    refusal x g m d =
        rw (ne_eqb x MORE m, ne_eqb x DONE d) at (among_pass (λ z. either (eqb z MORE) (either (eqb z DONE) (among z endings))) of_symbol refl x g)
took c (complete k d F) part f o = absurd (omega (arith, d, o))
took c (ended t) part f o = absurd (not_ending c.ended MORE t refl o)

-- as many octets as before
keeps_long : (mode : ℕ) (h : Hand) (octets : List ℕ) → length (kept_at mode h octets) ≡ length octets
unfolding kept_at
keeps_long mode h octets =
    by_pick P (known mode) _ _
    (λ _. by_pick P (eqb h.number MORE) _ _ (λ _. kept) (λ _. by_pick P (eqb h.number DONE) _ _ (λ _. kept) (λ _. refl)))
    (λ _. refl)
  where
    P : List ℕ → Type 0
    P l = length l ≡ length octets

    kept : length (kept_in (per_octet (radio_of mode)) h octets) ≡ length octets
    kept = kept_long (per_octet (radio_of mode)) h octets

-- each call keeps it so
keeps : (mode : ℕ) (c : Receiver) → Made mode c → (x : Call) → Made mode (called c x).receiver
unfolding called
keeps mode c M (pushing part) =
    push_ways c part (λ (s : Step). Made mode s.receiver) (λ _. M) M M
    (λ f o.
    record {
      own = M.own;
      long = keeps_long c.mode _ c.octets ∙ M.long;
      second = λ m. took_second c (M.own ∙ m) part;
      honest = took c M.honest part f o;
    })
keeps mode c M finishing =
    finish_ways c (λ (s : Step). Made mode s.receiver) (λ _. M) M
    (record { own = M.own; long = M.long; second = λ _ e. absurd (omega (arith, e)); honest = ended refl })
keeps mode c M (taking buffer) = M

carried : (mode : ℕ) (c : Receiver) → Made mode c → (xs : List Call) → Made mode (after c xs)
unfolding after
carried mode c M [] = M
carried mode c M (x ∷ xs) = carried mode (called c x).receiver (keeps mode c M x) xs

-- after any calls
pub made : (mode : ℕ) (xs : List Call) → Made mode (after (start_of mode).receiver xs)
made mode xs = carried mode (start_of mode).receiver (starts mode) xs

-- so no record that the calls make holds 7 at symbol 0 in mode 0
pub made_first : (xs : List Call) → (after (start_of 0).receiver xs).ended ≡ PREAMBLE → 0 < (after (start_of 0).receiver xs).taken
made_first xs = (made 0 xs).second refl

-- An open record that the calls make holds the length 0 until the length octet is read.
pub made_unread : (mode : ℕ) (xs : List Call) → let c = after (start_of mode).receiver xs in
    c.ended ≡ MORE → c.taken < 6 * per_octet (radio_of mode) → c.length ≡ 0
made_unread mode xs = go (after (start_of mode).receiver xs) (made mode xs) (made mode xs).honest
  where
    go : (c : Receiver) → Made mode c → Honest c → c.ended ≡ MORE → c.taken < 6 * per_octet (radio_of mode) → c.length ≡ 0
    go c M (wanting k before C O) o l = C.early (rw M.own (omega (arith, C.taken, l)))
    go c M (complete k d F) o l = absurd (omega (arith, d, o))
    go c M (ended t) o l = absurd (not_ending c.ended MORE t refl o)
