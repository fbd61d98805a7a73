-- No report is longer than 127 octets, so a room of more than that is as good as one of 127: the
-- reading order has the same answer. Assumes nothing.
use mathlib.Core.Path.{◌≡◌, refl, sym, ap, ◌∙◌}
use mathlib.Core.List.{List, [], ◌∷◌, ◌++◌}
use Prim.Native.Nat.{ℕ, ◌≤◌, min}
use native.Mathlib.Nat.{min-eq_left, min-eq_right}
use native.Mathlib.Omega.{arith}
use lib.ListN.{length, get_or}
use lib.Dec.{ltb}
use borrow.Author.Tests.{le-ltb, ltb-true, ltb-false}
use Rattle.codes.specs.Radio.{Radio, radio_of}
use Rattle.codes.specs.Symbol.{symbol_of}
use Rattle.codes.specs.declared.Symbol.{Symbol}
use Rattle.codes.proofs.Tests.{by_test}
use Rattle.frame.specs.Frame.{per_octet}
use Rattle.order.specs.Received.{received, octet_at}
use Rattle.order.specs.Order.{Answer, rules, values, length_in, verdict, taking, reading_from, reading, whole}
use Rattle.reader.specs.Read.{answer_at}

-- for a length of at most 127 the test of room says the same
same_test : (room n : ℕ) → n ≤ 127 → ltb (min room 127) n ≡ ltb room n
same_test room n h =
    by_test (ltb room 127)
    (λ t. ap (λ (r : ℕ). ltb r n) (min-eq_left (omega (arith, ltb-true room 127 t))))
    (λ f.
    let m = ltb-false room 127 f in
    ap (λ (r : ℕ). ltb r n) (min-eq_right m) ∙ le-ltb 127 n h ∙ sym (le-ltb room n (omega arith)))

same_rules : (per room s raw start n : ℕ) → n ≤ 127 → rules per (min room 127) s raw start n ≡ rules per room s raw start n
unfolding rules
same_rules per room s raw start n h = rw (same_test room n h)

module _ (r : Radio) (room : ℕ) where
  -- and the length that a length octet has is none above it
  same_verdict : (s : ℕ) (bs : List ℕ) → verdict r (min room 127) s bs ≡ verdict r room s bs
  same_verdict s bs = same_rules (per_octet r) room s (get_or bs s 0) (octet_at r 4 bs) (length_in r bs) (omega arith)

  same_taking : (before : List Symbol) (x : Symbol) (next : Answer) → taking r (min room 127) before x next ≡ taking r room before x next
  unfolding taking
  same_taking before x next = rw (same_verdict (length before) (received r (values (before ++ x ∷ []))))

  same_from : (before : List Symbol) (ws : List (List ℕ)) → reading_from r (min room 127) before ws ≡ reading_from r room before ws
  unfolding reading_from
  same_from before [] = refl
  same_from before (w ∷ ws) =
      same_taking before (symbol_of r w) _ ∙ ap (taking r room before (symbol_of r w)) (same_from (before ++ symbol_of r w ∷ []) ws)

-- the reader's answer is that with a room of at most 127
pub same_room : (mode room : ℕ) (chips : List ℕ) → answer_at mode (min room 127) chips ≡ answer_at mode room chips
unfolding answer_at reading
same_room mode room chips = rw (same_from (radio_of mode) room [] (whole (radio_of mode) chips))
