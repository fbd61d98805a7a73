-- How far a reading has come, over any list of windows and plain values: the hand carries the
-- symbols seen, and what is still to be read is the reading's answer. A law for the start, one
-- symbol more, and each of the ends: the reader's loop and the stepping receiver both go by them.
-- Assumes nothing.
use mathlib.Core.Path.{◌≡◌, refl, sym, ap, ◌∙◌, subst}
use mathlib.Core.Bool.{true}
use mathlib.Core.List.{List, [], ◌∷◌, ◌++◌}
use mathlib.Core.Logic.{◌⊎◌, inl, inr, ⊎_elim}
use Prim.Native.Nat.{ℕ, suc, ◌+◌, ◌*◌, ◌≤◌, ◌<◌}
use native.Mathlib.Nat.{mul-le-mul_right, le-add_right}
use native.Mathlib.Omega.{arith}
use lib.ListN.{length, get_or, take, length-append}
use lib.Dec.{eqb}
use borrow.Author.Tests.{eq-eqb, ne_eqb}
use Rattle.codes.specs.Numbers.{DONE, NOCHIP, RUNOUT, MORE}
use Rattle.codes.specs.Chips.{pick, bad}
use Rattle.codes.specs.Radio.{Radio, Sound}
use Rattle.codes.specs.Symbol.{symbol_of}
use Rattle.codes.specs.declared.Symbol.{Symbol}
use Rattle.codes.proofs.Tests.{by_test}
use Rattle.codes.proofs.Unique.{nochip_of}
use Rattle.frame.specs.Frame.{per_octet}
use Rattle.order.specs.declared.Hand.{Hand}
use Rattle.order.specs.Received.{received, octets_from}
use Rattle.order.specs.Order.{Answer, refused, done, values, length_in, report_in, taking, reading_from}
use Rattle.order.specs.Taking.{begun, stopped, advanced, onward, roomed, kept_in}
use Rattle.reader.specs.Telling.{handed, Tells}
use Rattle.order.proofs.Windows.{seen, seen_front, seen_next, rest, rest_more, rest_out}
use Rattle.order.proofs.Steps.{goes}
use Rattle.order.proofs.Carried.{Carries, carries_none}
use Rattle.order.proofs.Turns.{Small, Open, open_begun, On, Over, Off, Turned, next_hand}
use Rattle.order.proofs.Gathered.{Gathered, kept_long, gathered_none, gathered_more, gathered_report}

-- after s symbols
abbrev pub up_to : Radio → List (List ℕ) → ℕ → List Symbol
up_to r ws s = take s (seen r ws)

pub record Sofar (r : Radio) (room : ℕ) (ws : List (List ℕ)) (octets : List ℕ) (h : Hand) : Type 0 where
  pub carries : Carries r (up_to r ws h.taken) h
  pub goes : Open r room h
  pub tail : reading_from r room [] ws ≡ rest r ws room h.taken
  pub long : length octets ≡ 127
  pub gathered : Gathered r (up_to r ws h.taken) octets

-- after one symbol more: on with the next, or ended
abbrev pub Ways : Radio → ℕ → List (List ℕ) → List ℕ → ℕ → Hand → Type 0
Ways r room ws octets s g =
    (g.number ≡ MORE → (g.taken ≡ s) × Sofar r room ws octets g) × ((g.number ≡ MORE → ⊥) → Tells r room (reading_from r room [] ws) octets g)

pub starts : (r : Radio) → Sound r → (room : ℕ) (ws : List (List ℕ)) (octets : List ℕ) → length octets ≡ 127 → Sofar r room ws octets begun
starts r S room ws octets o =
    record { carries = carries_none r S; goes = open_begun r S room; tail = refl; long = o; gathered = gathered_none r S octets }

-- what a hand tells while it wants more, when it is refused and when it is done
module _ (h : Hand) (octets : List ℕ) where
  pub handed_open : h.number ≡ MORE → handed h octets ≡ refused RUNOUT h.taken
  unfolding handed
  handed_open e = rw (eq-eqb h.number MORE e)

  pub handed_refused : (h.number ≡ MORE → ⊥) → (h.number ≡ DONE → ⊥) → handed h octets ≡ refused h.number h.taken
  unfolding handed
  handed_refused m d = rw (ne_eqb h.number MORE m, ne_eqb h.number DONE d)

  pub handed_done : h.number ≡ DONE → handed h octets ≡ done h.taken (take h.length octets) h.count h.gap h.polarity
  unfolding handed
  handed_done e = rw (ne_eqb h.number MORE (λ m. omega arith), eq-eqb h.number DONE e)

module _ (r : Radio) (S : Sound r) (room : ℕ) (ws : List (List ℕ)) (octets : List ℕ) (h : Hand) (L : Sofar r room ws octets h) where
  abbrev answer : Answer
  answer = reading_from r room [] ws

  -- no window is left
  pub out : length ws ≡ h.taken → Tells r room answer octets h
  out e =
      record {
        is = L.tail ∙ rest_out r ws room h.taken e ∙ sym (handed_open h octets L.goes.number);
        well = λ d. absurd (omega (arith, L.goes.number));
        long = L.long;
      }

  -- one is
  module _ (next : h.taken < length ws) where
    abbrev before : List Symbol
    before = up_to r ws h.taken

    abbrev x : Symbol
    x = symbol_of r (get_or ws h.taken [])

    before_long : length before ≡ h.taken
    before_long = seen_front r ws h.taken (omega arith)

    step : answer ≡ taking r room before x (rest r ws room (suc h.taken))
    step = L.tail ∙ rest_more r ws room h.taken next

    -- with a byte in it that is no chip
    pub bad_window : bad (get_or ws h.taken []) ≡ true → Tells r room answer octets (stopped NOCHIP h)
    unfolding taking
    bad_window b =
        let n : x ≡ _ = nochip_of r (get_or ws h.taken []) b in
        record {
          is = step ∙ rw n (ap (refused NOCHIP) before_long) ∙ sym (handed_refused (stopped NOCHIP h) octets (λ m. omega arith) (λ d. omega arith));
          well = λ d. absurd (omega arith);
          long = L.long;
        }

    -- the hand after its symbol, and the octets with it
    module _ (small : Small r) (y : Symbol) (i : y ≡ x) (g : Hand)
        (e : g ≡ roomed room h (pick (eqb y.number DONE) (advanced r h y) (stopped y.number h)))
        (kept : List ℕ) (k : kept ≡ onward g.number (kept_in (per_octet r) g octets) octets) where
      way : Turned r room before x g
      way = next_hand r S small room before h L.carries L.goes (get_or ws h.taken []) x refl g (rw i at e)

      long_kept : length kept ≡ 127
      long_kept =
          let l : length (kept_in (per_octet r) g octets) ≡ 127 = kept_long (per_octet r) g octets ∙ L.long in
          by_test (eqb g.number MORE) (λ a. rw (k, a) l) (λ a. by_test (eqb g.number DONE) (λ b. rw (k, a, b) l) (λ b. rw (k, a, b) L.long))

      gathers : (g.number ≡ MORE) ⊎ (g.number ≡ DONE) → Carries r (before ++ x ∷ []) g → Gathered r (before ++ x ∷ []) kept
      gathers n C = rw (k, goes g.number (kept_in (per_octet r) g octets) octets n) (gathered_more r S before x octets g L.gathered C L.long)

      on : On r room before x g → (g.taken ≡ suc h.taken) × Sofar r room ws kept g
      on o =
          let t : g.taken ≡ suc h.taken = omega (arith, o.carries.taken, length-append before (x ∷ []), before_long) in
          let u : before ++ x ∷ [] ≡ up_to r ws g.taken = sym (ap (up_to r ws) t ∙ seen_next r ws h.taken next) in (
            t,
            record {
              carries = subst (λ (b : List Symbol). Carries r b g) u o.carries;
              goes = o.goes;
              tail = rw t (step ∙ o.same (rest r ws room (suc h.taken)));
              long = long_kept;
              gathered = subst (λ (b : List Symbol). Gathered r b kept) u (gathers (inl o.goes.number) o.carries);
            },
          )

      over : Over r room before x g → Tells r room answer kept g
      over o =
          let after = before ++ x ∷ [] in
          let bits = received r (values after) in
          let a : length after ≡ suc (length before) = length-append before (x ∷ []) ∙ omega arith in
          let t = o.carries.taken in
          let e : (6 + g.length) * per_octet r ≤ length after = omega (arith, o.all.total) in
          let n : g.length ≡ length_in r bits = o.carries.late (omega (arith, mul-le-mul_right (per_octet r) (le-add_right 6 g.length))) in
          let s : take g.length kept ≡ report_in r bits =
          gathered_report r S after kept g.length (gathers (inr o.number) o.carries) long_kept o.all.few e
          ∙ ap (λ (j : ℕ). octets_from r 6 j bits) n in
          record {
            is = step ∙ o.same (rest r ws room (suc h.taken))
                ∙ done_same (sym (t ∙ a)) (sym s) (sym o.carries.count) (sym (o.carries.gap (omega (arith, a)))) (sym o.carries.polarity)
                ∙ sym (handed_done g kept o.number);
            well = λ d. o.all;
            long = long_kept;
          }
        where
          done_same : {p q : ℕ} {a b : List ℕ} {c d e f g h : ℕ} → p ≡ q → a ≡ b → c ≡ d → e ≡ f → g ≡ h → done p a c e g ≡ done q b d f h
          done_same u v w x y = rw (u, v, w, x, y)

      off : Off r room before x g → Tells r room answer kept g
      off o =
          record {
            is = step ∙ o.same (rest r ws room (suc h.taken)) ∙ ap (refused g.number) (sym o.taken) ∙ sym (handed_refused g kept o.more o.over);
            well = λ d. absurd (o.over d);
            long = long_kept;
          }

      pub symbol_taken : Ways r room ws kept (suc h.taken) g
      symbol_taken = (
        λ m. ⊎_elim on (⊎_elim (λ o. absurd (omega (arith, sym m ∙ o.number))) (λ o. absurd (o.more m))) way,
        λ m. ⊎_elim (λ o. absurd (m o.goes.number)) (⊎_elim over off) way,
      )
