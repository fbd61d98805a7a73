-- One symbol taken, a turn of the reader's loop or a push, over plain values: a hand that carries
-- the symbols before, and a symbol, give a hand that carries one more, or the reading's answer.
-- Assumes nothing.
use mathlib.Core.Path.{◌≡◌, refl, sym, ap, ◌∙◌, subst}
use mathlib.Core.List.{List, [], ◌∷◌, ◌++◌}
use mathlib.Core.Logic.{◌⊎◌, inl, inr}
use Prim.Native.Nat.{ℕ, suc, ◌+◌, ◌*◌, ◌%◌, ◌^◌, ◌≤◌, ◌<◌}
use native.Mathlib.Nat.{mod-eq_of_lt, mul-le-mul_right, mul-suc, le-add_right, div-le_self}
use native.Mathlib.Omega.{arith}
use lib.ListN.{length}
use lib.Dec.{eqb}
use borrow.Author.Tests.{le-ltb, eq-eqb, ne_eqb, eqb-true, eqb-false}
use Rattle.codes.specs.Numbers.{DONE, MORE}
use Rattle.codes.specs.Chips.{pick}
use Rattle.codes.specs.Radio.{Radio, Sound}
use Rattle.codes.specs.Symbol.{symbol_of}
use Rattle.codes.specs.declared.Symbol.{Symbol}
use Rattle.codes.proofs.Tests.{by_test}
use Rattle.codes.proofs.Unique.{some_words, closeness_order, of_symbol_lem, of_done, symbol_numbers}
use Rattle.frame.specs.Frame.{per_octet}
use Rattle.order.specs.declared.Hand.{Hand}
use Rattle.order.specs.Received.{polarity_of, received}
use Rattle.order.specs.Order.{Answer, done, ends, rules, values, repaired, smallest_gap, verdict, report_in, concluded, taking}
use Rattle.order.specs.Order as order
use Rattle.order.specs.Taking.{begun, stopped, shifted, length_after, moved, onward, raw_next, polarity_next, advanced, roomed, Complete}
use Rattle.order.proofs.Raw.{per_positive}
use Rattle.order.proofs.Rules.{Clear, length_few, rules_clear, rules_last, rules_before, rules_room}
use Rattle.order.proofs.Steps.{goes, stops}
use Rattle.order.proofs.Carried.{Carries, polarity_low, verdict_is, carries_more}

-- the hand wants more: it is before the end of its frame, whose report has room; so its numbers
-- are small
pub record Open (r : Radio) (room : ℕ) (h : Hand) : Type 0 where
  pub number : h.number ≡ MORE
  pub under : h.taken < (6 + h.length) * per_octet r
  pub fits : h.length ≤ room
  pub few : h.length ≤ 127
  pub low : h.count ≤ r.limit * h.taken

pub open_begun : (r : Radio) → Sound r → (room : ℕ) → Open r room begun
open_begun r S room =
    record {
      number = refl;
      under = omega (arith, per_positive r S);
      fits = omega arith;
      few = omega arith;
      low = omega arith;
    }

-- what a symbol x after the symbols before it makes of the hand
module _ (r : Radio) (room : ℕ) (before : List Symbol) (x : Symbol) (g : Hand) where
  -- the next symbol is wanted
  pub record On : Type 0 where
    pub carries : Carries r (before ++ x ∷ []) g
    pub goes : Open r room g
    pub same : (next : Answer) → taking r room before x next ≡ next

  -- the frame is complete
  pub record Over : Type 0 where
    pub number : g.number ≡ DONE
    pub carries : Carries r (before ++ x ∷ []) g
    pub all : Complete r room g
    pub same : (next : Answer) → taking r room before x next ≡ done (suc (length before))
        (report_in r (received r (values (before ++ x ∷ [])))) (repaired (before ++ x ∷ [])) (smallest_gap (before ++ x ∷ []))
        (polarity_of r (values (before ++ x ∷ [])))

  -- refused
  pub record Off : Type 0 where
    pub more : g.number ≡ MORE → ⊥
    pub over : g.number ≡ DONE → ⊥
    pub taken : g.taken ≡ length before
    pub same : (next : Answer) → taking r room before x next ≡ order.refused g.number (length before)

  abbrev pub Turned : Type 0
  Turned = On ⊎ (Over ⊎ Off)

-- with room for every report the test of room changes nothing
pub room_for_any : (r : Radio) (h : Hand) (x : Symbol) → h.length ≤ 127
    → roomed 127 h (pick (eqb x.number DONE) (advanced r h x) (stopped x.number h))
    ≡ pick (eqb x.number DONE) (advanced r h x) (stopped x.number h)
unfolding advanced
room_for_any r h x f =
    let raw = raw_next r h x in
    let octet = shifted r h.octet raw in
    by_test (eqb x.number DONE)
    (λ a. rw a (rules_room (per_octet r) 127 h.taken raw octet
    (length_after (per_octet r) h.taken h.length octet) (polarity_next r h x) x h f (λ e. rw e f)
    (length_few (per_octet r) h.taken h.length octet)))
    (λ a. rw (a, le-ltb 127 h.length f))

-- no symbol is answered 13
symbol_number : (r : Radio) (w : List ℕ) → (symbol_of r w).number ≡ MORE → ⊥
symbol_number r w = symbol_numbers r w (λ x. x ≡ MORE → ⊥) (λ e. omega (arith, e)) (λ e. omega (arith, e)) (λ e. omega (arith, e))

-- the radio's numbers fit the code's with room to spare
pub record Small (r : Radio) : Type 0 where
  pub low : r.limit ≤ 255
  pub short : r.size ≤ 255

-- a symbol that was read: what a hand needs to know of it
pub record Read (r : Radio) (x : Symbol) : Type 0 where
  pub number : x.number ≡ DONE
  pub value : x.value < 2 ^ r.bits
  pub distance : x.distance ≤ r.limit
  pub next : x.distance ≤ x.next
  pub short : x.next ≤ r.size

pub symbol_read : (r : Radio) → Sound r → (w : List ℕ) → (symbol_of r w).number ≡ DONE → Read r (symbol_of r w)
symbol_read r S w e =
    let t = of_symbol_lem r w (some_words r S) e in
    let c = of_done r w e in
    let o = closeness_order r S w in
    record {
      number = e;
      value = rw S.many at t.known;
      distance = t.near;
      next = rw c o.0;
      short = rw c o.1;
    }

module _ (r : Radio) (S : Sound r) (small : Small r) (room : ℕ) (before : List Symbol) (h : Hand) (C : Carries r before h) (O : Open r room h) where
  -- symbols before the end of the longest frame
  early : h.taken < 1064
  early = omega (arith, div-le_self 8 r.bits, O.under, mul-le-mul_right (per_octet r) (more h.length O.few))
    where
      more : (n : ℕ) → n ≤ 127 → 6 + n ≤ 133
      more n l = omega arith

  module _ (x : Symbol) (X : Read r x) where
    abbrev v : ℕ
    v = x.value

    abbrev d : ℕ
    d = x.distance

    abbrev octet : ℕ
    octet = shifted r h.octet (raw_next r h x)

    abbrev n : ℕ
    n = length_after (per_octet r) h.taken h.length octet

    abbrev found : ℕ
    found = verdict r room (length before) (received r (values (before ++ x ∷ [])))

    abbrev code : ℕ → ℕ
    code m = rules (per_octet r) m h.taken (raw_next r h x) octet n

    -- the hand that the code makes is moved or stopped by the reading order's number
    found_hand : roomed room h (advanced r h x) ≡ onward found (moved h found n x octet (polarity_next r h x)) (stopped found h)
    unfolding advanced
    found_hand =
        rules_room (per_octet r) room h.taken (raw_next r h x) octet n (polarity_next r h x) x h O.fits (λ e. rw e O.fits)
        (length_few (per_octet r) h.taken h.length octet)
        ∙ ap (λ (y : ℕ). onward y (moved h y n x octet (polarity_next r h x)) (stopped y h)) (verdict_is r S before h C x X.value room)

    -- n has room, on the last symbol of the length octet by the rules, else as before
    n_fits : Clear (per_octet r) room h.taken (raw_next r h x) octet n → (n ≤ room) × (n ≤ 127)
    n_fits p =
        by_test (ends (per_octet r) 5 h.taken)
        (λ e. (p.fits (eqb-true _ _ e), length_few (per_octet r) h.taken h.length octet e))
        (λ e. (rw e O.fits, rw e O.few))

    -- this symbol is one of the frame's
    reached : suc h.taken ≤ (6 + n) * per_octet r
    reached =
        by_test (ends (per_octet r) 5 h.taken)
        (λ e. omega (arith, eqb-true (suc h.taken) (6 * per_octet r) e, mul-le-mul_right (per_octet r) (le-add_right 6 n)))
        (λ e. rw e O.under)

    taken_more : (h.taken + 1) % 2 ^ 32 ≡ suc h.taken
    taken_more = mod-eq_of_lt {n = h.taken + 1} {m = 2 ^ 32} (omega (arith, early)) ∙ omega arith

    count_small : h.count + d < 2 ^ 32
    count_small = omega (arith, early, O.low, X.distance, small.low, mul-le-mul_right h.taken small.low)

    count_more : (h.count + d) % 2 ^ 32 ≡ h.count + d
    count_more = mod-eq_of_lt {n = h.count + d} {m = 2 ^ 32} count_small

    low_more : (h.count + d) % 2 ^ 32 ≤ r.limit * ((h.taken + 1) % 2 ^ 32)
    low_more = rw (taken_more, count_more) (omega (arith, O.low, X.distance, mul-suc r.limit h.taken))

    carried : (y : ℕ) → Carries r (before ++ x ∷ []) (moved h y n x octet (polarity_next r h x))
    carried y =
        carries_more r S before h C x X.value (omega (arith, early, C.taken)) (rw (← C.count) count_small)
        X.next (omega (arith, X.short, small.short)) y

    code_is : code room ≡ found
    code_is = verdict_is r S before h C x X.value room

    on : found ≡ MORE → On r room before x (moved h found n x octet (polarity_next r h x))
    unfolding taking concluded
    on f =
        let p = n_fits (rules_clear (per_octet r) room h.taken (raw_next r h x) octet n MORE (inl refl) (code_is ∙ f)) in
        record {
          carries = carried found;
          goes =
              record {
                number = f;
                under = rw taken_more (omega (arith, reached, rules_before (per_octet r) room h.taken (raw_next r h x) octet n (code_is ∙ f)));
                fits = p.0;
                few = p.1;
                low = low_more;
              };
          same = λ next. rw (eq-eqb x.number DONE X.number, eq-eqb found MORE f);
        }

    over : found ≡ DONE → Over r room before x (moved h found n x octet (polarity_next r h x))
    unfolding taking concluded
    over f =
        let p = n_fits (rules_clear (per_octet r) room h.taken (raw_next r h x) octet n DONE (inr refl) (code_is ∙ f)) in
        record {
          number = f;
          carries = carried found;
          all =
              record {
                total = rw taken_more (rules_last (per_octet r) room h.taken (raw_next r h x) octet n (code_is ∙ f));
                fits = p.0;
                few = p.1;
                low = low_more;
                start = rw (carried found).polarity (polarity_low r S (values (before ++ x ∷ [])) (carried found).below);
              };
          same = λ next. rw (eq-eqb x.number DONE X.number, f);
        }

    off : (found ≡ MORE → ⊥) → (found ≡ DONE → ⊥) → Off r room before x (stopped found h)
    unfolding taking concluded
    off a b = record { more = a; over = b; taken = C.taken; same = λ next. rw (eq-eqb x.number DONE X.number, ne_eqb found MORE a, ne_eqb found DONE b) }

    value_turned : (g : Hand) → g ≡ roomed room h (advanced r h x) → Turned r room before x g
    value_turned g e =
        by_test (eqb found MORE)
        (λ a. let f = eqb-true found MORE a in
        inl (rw (e, found_hand, goes found (moved h found n x octet (polarity_next r h x)) (stopped found h) (inl f)) (on f)))
        (λ a. by_test (eqb found DONE)
        (λ b. let f = eqb-true found DONE b in
        inr (inl (rw (e, found_hand, goes found (moved h found n x octet (polarity_next r h x)) (stopped found h) (inr f)) (over f))))
        (λ b. let p = eqb-false found MORE a in
        let q = eqb-false found DONE b in
        inr (inr (rw (e, found_hand, stops found (moved h found n x octet (polarity_next r h x)) (stopped found h) p q) (off p q)))))

  -- a symbol that is refused ends the reading
  refused_turned : (x : Symbol) → (x.number ≡ MORE → ⊥) → (x.number ≡ DONE → ⊥)
      → (g : Hand) → g ≡ roomed room h (stopped x.number h) → Turned r room before x g
  unfolding taking
  refused_turned x a b g e =
      inr (inr (rw (e, le-ltb room h.length O.fits) (record { more = a; over = b; taken = C.taken; same = λ next. rw (ne_eqb x.number DONE b) })))

  -- one turn, with the symbol of a window
  pub next_hand : (w : List ℕ) (x : Symbol) → x ≡ symbol_of r w → (g : Hand)
      → g ≡ roomed room h (pick (eqb x.number DONE) (advanced r h x) (stopped x.number h)) → Turned r room before x g
  next_hand w x i g e =
      by_test (eqb x.number DONE)
      (λ a.
      let n = eqb-true x.number DONE a in
      value_turned x (subst (Read r) (sym i) (symbol_read r S w (ap (λ (y : Symbol). y.number) (sym i) ∙ n))) g (rw a at e))
      (λ a. refused_turned x (λ m. symbol_number r w (ap (λ (y : Symbol). y.number) (sym i) ∙ m)) (eqb-false x.number DONE a) g (rw a at e))
