-- Where in the frame the numbers that the reading refuses with stand. For any radio. Assumes
-- nothing.
use mathlib.Core.Path.{◌≡◌, refl}
use mathlib.Core.Bool.{true, false}
use mathlib.Core.List.{List, [], ◌∷◌}
use Prim.Native.Nat.{ℕ, suc, ◌+◌, ◌*◌, ◌<◌}
use native.Mathlib.Omega.{arith}
use lib.ListN.{length, get_or}
use lib.Dec.{eqb}
use borrow.Author.Tests.{eqb-false}
use Rattle.codes.specs.Numbers.{DONE, NOROOM, RUNOUT, NOCHIP, LOST, PREAMBLE, BADSTART, MORE}
use Rattle.codes.specs.Chips.{among}
use Rattle.codes.specs.Radio.{Radio}
use Rattle.codes.specs.Symbol.{symbol_of}
use Rattle.codes.specs.declared.Symbol.{Symbol}
use Rattle.codes.proofs.Tests.{by_pick, not_both}
use Rattle.codes.proofs.Unique.{symbol_numbers}
use Rattle.frame.specs.Frame.{per_octet}
use Rattle.order.specs.Received.{decode, received}
use Rattle.order.specs.Order.{Answer, refused, done, rules, reading}
use Rattle.demands.specs.Words.{Placed}
use Rattle.order.proofs.Rules.{rules_ways}
use Rattle.reader.proofs.Fair.{found, reading_ways}

-- an answer is done, or refused where the reading order lets it be
abbrev pub Standing : Radio → Answer → Type 0
Standing r (refused x place) = Placed r x place
Standing r (done place report count gap polarity) = Unit {0}

module _ (r : Radio) where
  -- another number than those three may stand anywhere
  pub elsewhere : (x place : ℕ) → among x (PREAMBLE ∷ BADSTART ∷ NOROOM ∷ []) ≡ false → Placed r x place
  elsewhere x place f =
      record {
        preamble = λ e. other PREAMBLE e refl;
        second = λ e. other PREAMBLE e refl;
        start = λ e. other BADSTART e refl;
        room = λ e. other NOROOM e refl;
      }
    where
      other : {A : Type 0} (y : ℕ) → x ≡ y → among y (PREAMBLE ∷ BADSTART ∷ NOROOM ∷ []) ≡ true → A
      other y e t = not_both (among y (PREAMBLE ∷ BADSTART ∷ NOROOM ∷ [])) t (rw e at f)

  symbol_placed : (s : ℕ) (w : List ℕ) → Placed r (symbol_of r w).number s
  symbol_placed s w = symbol_numbers r w (λ x. Placed r x s) (elsewhere NOCHIP s refl) (elsewhere LOST s refl) (elsewhere DONE s refl)

  -- one number is not another
  clash : {A : Type 0} (x y : ℕ) → eqb x y ≡ false → x ≡ y → A
  clash x y f e = absurd (eqb-false x y f e)

  in_preamble : (s : ℕ) → s < 4 * per_octet r → (r.chained ≡ true → 0 < s) → Placed r PREAMBLE s
  in_preamble s h l =
      record { preamble = λ _. h; second = λ _. l; start = clash PREAMBLE BADSTART refl; room = clash PREAMBLE NOROOM refl }

  ends_start : (s : ℕ) → suc s ≡ 5 * per_octet r → Placed r BADSTART s
  ends_start s h =
      record { preamble = clash BADSTART PREAMBLE refl; second = clash BADSTART PREAMBLE refl; start = λ _. h; room = clash BADSTART NOROOM refl }

  ends_length : (s : ℕ) → suc s ≡ 6 * per_octet r → Placed r NOROOM s
  ends_length s h =
      record { preamble = clash NOROOM PREAMBLE refl; second = clash NOROOM PREAMBLE refl; start = clash NOROOM BADSTART refl; room = λ _. h }

  -- where a raw symbol that isn't 0 is not the first of a chain
  rules_placed : (room s raw start n : ℕ) → ((raw ≡ 0 → ⊥) → r.chained ≡ true → 0 < s) → Placed r (rules (per_octet r) room s raw start n) s
  rules_placed room s raw start n later =
      rules_ways (per_octet r) room s raw start n P (λ h w. in_preamble s h (later w)) (λ e _. ends_start s e) (λ e _. ends_length s e)
      (λ _. by_pick P (eqb (suc s) ((6 + n) * per_octet r)) DONE MORE (λ _. elsewhere DONE s refl) (λ _. elsewhere MORE s refl))
    where
      P : ℕ → Type 0
      P z = Placed r z s

  -- the first raw symbol of a chain is 0: it starts from the value that stands there
  first_nought : r.chained ≡ true → (v : ℕ) → get_or (received r (v ∷ [])) 0 0 ≡ 0
  unfolding decode
  first_nought c v = rw c (omega arith)

  found_placed : (room : ℕ) (before : List Symbol) (x : Symbol) → Placed r (found r room before x) (length before)
  found_placed room [] x = rules_placed room 0 _ _ _ (λ n c. absurd (n (first_nought c x.value)))
  found_placed room (y ∷ before) x = rules_placed room (suc (length before)) _ _ _ (λ n c. omega arith)

  pub answer_placed : (room : ℕ) (chips : List ℕ) → Standing r (reading r room chips)
  answer_placed room =
      reading_ways r room (Standing r) (λ s. elsewhere RUNOUT s refl) (λ s w _. symbol_placed s w)
      (λ before x _ _. found_placed room before x) (λ place report count gap polarity. tt)
