-- The ways of the stepping receiver's functions, over plain values. Assumes nothing.
use mathlib.Core.Path.{◌≡◌, refl, sym, ap, ap₂, ◌∙◌}
use mathlib.Core.Bool.{Bool, true, false, not}
use mathlib.Core.List.{List}
use mathlib.Core.Logic.{◌⊎◌, inl, inr, ⊎_elim}
use Prim.Native.Nat.{ℕ, ◌+◌, ◌*◌, ◌%◌, ◌≤◌, ◌<◌}
use native.Mathlib.Omega.{arith}
use lib.Dec.{eqb, leb, ltb}
use lib.ListN.{length, take}
use lib.Seq.{length-take-le}
use borrow.Author.Tests.{lt-ltb, le-ltb, le-leb, lt-leb, eq-eqb, ne_eqb, eqb-true, eqb-false, ltb-true, ltb-false}
use Rattle.codes.specs.Numbers.{DONE, BADMODE, NOROOM, RUNOUT, ENDED, BADPART, NOTENDED, MORE, FORGED}
use Rattle.codes.specs.Chips.{pick}
use Rattle.codes.specs.Radio.{known, radio_of}
use Rattle.codes.specs.Symbol.{symbol_of, match_of}
use Rattle.codes.specs.Symbol as codes
use Rattle.codes.specs.Phy.{phy_of, phy_at}
use Rattle.codes.specs.declared.Phy.{Phy}
use Rattle.codes.specs.declared.Symbol.{Symbol}
use Rattle.codes.proofs.Tests.{by_test, not_both}
use Rattle.codes.proofs.Modes.{phy_known}
use Rattle.frame.specs.Frame.{per_octet}
use Rattle.frame.specs.Outcome.{outcome}
use Rattle.codes.proofs.Unique.{symbol_numbers}
use Rattle.order.specs.declared.Hand.{Hand}
use Rattle.reader.specs.declared.Reading.{Reading}
use Rattle.order.specs.Order.{Answer, refused}
use Rattle.reader.specs.Read.{reported, told, left}
use Rattle.order.specs.Taking.{followed, whole_at, kept_at}
use Rattle.order.proofs.Steps.{kept_partial}
use Rattle.reader.specs.Telling.{stored_in}
use Rattle.reader.proofs.Told.{stored, stored_none}
use Rattle.receiver.specs.declared.Receiver.{Receiver}
use Rattle.receiver.specs.Record.{
  step,
  fresh,
  start_of,
  either,
  is_open,
  ended_well,
  total,
  forged,
  hand_of,
  held,
  with_hand,
  took_symbol,
  push_of,
  ended_with,
  finish_of,
  room_for,
  holding,
  takes,
  take_of,
}

-- the ways of `start`
module _ (mode : ℕ) where
  pub start_known : known mode ≡ true → step MORE (fresh mode MORE) ≡ start_of mode
  unfolding start_of
  start_known k = rw k

  pub start_unknown : known mode ≡ false → step BADMODE (fresh mode BADMODE) ≡ start_of mode
  unfolding start_of
  start_unknown k = rw k

-- one number is not below another
not_below : (a b : ℕ) → leb b a ≡ not (ltb a b)
not_below a b = by_test (ltb a b) (λ t. rw t (lt-leb b a (ltb-true a b t))) (λ f. rw f (le-leb b a (ltb-false a b f)))

-- the last test of the record: its number of symbols
abbrev pub number_of_symbols : Receiver → ℕ → Bool
number_of_symbols c per = pick (is_open c) (not (ltb c.taken ((6 + c.length) * per))) (not (eqb c.taken ((6 + c.length) * per)))

-- the ways of `forged`
module _ (c : Receiver) where
  pub forged_refused : (c.ended ≡ MORE → ⊥) → (c.ended ≡ DONE → ⊥) → false ≡ forged c
  unfolding forged
  forged_refused m d = rw (ne_eqb c.ended MORE m, ne_eqb c.ended DONE d)

  module _ (g : (c.ended ≡ MORE) ⊎ (c.ended ≡ DONE)) where
    -- what is tested of one that is open or ended well
    tested : forged c
        ≡ either (not (known c.mode))
        (either (ltb 127 c.length)
        (either (ltb ((radio_of c.mode).limit * c.taken) c.count)
        (pick (is_open c) (not (ltb c.taken (total c))) (not (eqb c.taken (total c))))))
    unfolding forged
    tested = ⊎_elim (λ e. rw e) (λ e. rw e) g

    pub forged_no_radio : known c.mode ≡ false → true ≡ forged c
    forged_no_radio k = sym (tested ∙ rw k)

    module _ (k : known c.mode ≡ true) where
      pub forged_long : 127 < c.length → true ≡ forged c
      forged_long l = sym (tested ∙ rw (k, lt-ltb 127 c.length l))

      module _ (s : c.length ≤ 127) (limit : ℕ) (limit_is : limit ≡ (radio_of c.mode).limit) where
        pub forged_count : limit * c.taken < c.count → true ≡ forged c
        forged_count b = sym (tested ∙ rw (k, le-ltb 127 c.length s, ← limit_is, lt-ltb (limit * c.taken) c.count b))

        module _ (b : c.count ≤ limit * c.taken) (per : ℕ) (p : per ≡ per_octet (radio_of c.mode)) where
          pub last_test : forged c ≡ number_of_symbols c per
          last_test = tested ∙ rw (k, le-ltb 127 c.length s, ← limit_is, le-ltb (limit * c.taken) c.count b, p)

  -- its two ways
  module _ (per : ℕ) (t : forged c ≡ number_of_symbols c per) where
    pub forged_open : c.ended ≡ MORE → leb ((6 + c.length) * per) c.taken ≡ forged c
    forged_open o = not_below c.taken ((6 + c.length) * per) ∙ sym (t ∙ rw (eq-eqb c.ended MORE o))

    pub forged_ended : (c.ended ≡ MORE → ⊥) → not (eqb c.taken ((6 + c.length) * per)) ≡ forged c
    forged_ended m = sym (t ∙ rw (ne_eqb c.ended MORE m))

  -- what is known of one that is open or ended well and passes the test
  module _ (f : forged c ≡ false) (g : (c.ended ≡ MORE) ⊎ (c.ended ≡ DONE)) where
    pub passed_known : known c.mode ≡ true
    passed_known = by_test (known c.mode) (λ k. k) (λ k. not_both (forged c) (sym (forged_no_radio g k)) f)

    pub passed_length : c.length ≤ 127
    passed_length = by_test (ltb 127 c.length)
        (λ l. not_both (forged c) (sym (forged_long g passed_known (ltb-true 127 c.length l))) f) (ltb-false 127 c.length)

-- the ways of `push`
module _ (c : Receiver) (part : List ℕ) where
  pub push_forged : forged c ≡ true → step FORGED c ≡ push_of c part
  unfolding push_of
  push_forged f = rw f

  module _ (f : forged c ≡ false) where
    pub push_ended : (c.ended ≡ MORE → ⊥) → step ENDED c ≡ push_of c part
    unfolding push_of
    push_ended m = rw (f, ne_eqb c.ended MORE m)

    -- a part that is matched in the record's mode
    module _ (o : c.ended ≡ MORE) (x : Symbol) (e : x ≡ match_of c.mode part) where
      matched : x ≡ pick (eqb (length part) (radio_of c.mode).size) (symbol_of (radio_of c.mode) part) (codes.refused BADPART)
      unfolding match_of
      matched = e ∙ rw (passed_known c f (inl o))

      pub push_part : x.number ≡ BADPART → step BADPART c ≡ push_of c part
      unfolding push_of
      push_part n =
          by_test (eqb (length part) (radio_of c.mode).size)
          (λ t.
          let q : x ≡ symbol_of (radio_of c.mode) part = matched ∙ rw t in
          absurd (symbol_numbers (radio_of c.mode) part (λ y. y ≡ BADPART → ⊥) (λ e. omega (arith, e)) (λ e. omega (arith, e)) (λ e. omega (arith, e))
          (sym (ap (λ (y : Symbol). y.number) q) ∙ n)))
          (λ t. rw (f, eq-eqb c.ended MORE o, t))

      pub push_symbol : (x.number ≡ BADPART → ⊥) → took_symbol c x ≡ push_of c part
      unfolding push_of
      push_symbol n =
          by_test (eqb (length part) (radio_of c.mode).size)
          (λ t. let q : x ≡ symbol_of (radio_of c.mode) part = matched ∙ rw t in rw (f, eq-eqb c.ended MORE o, t, q))
          (λ t. let q : x ≡ codes.refused BADPART = matched ∙ rw t in absurd (n (ap (λ (y : Symbol). y.number) q)))

-- the ways of `follow`
pub took : (c : Receiver) (x : Symbol) (h next : Hand) (octets : List ℕ) → h ≡ hand_of c
    → next ≡ followed c.mode h x → octets ≡ kept_at c.mode next c.octets
    → step next.number (held c.mode next octets) ≡ took_symbol c x
took c x h next octets eh en eo =
    ap (λ (l : List ℕ). step next.number (held c.mode next l)) eo
    ∙ ap (λ (z : Hand). with_hand c z) (en ∙ ap (λ (z : Hand). followed c.mode z x) eh)

pub took_inside : (c : Receiver) (x : Symbol) (h next : Hand) → h ≡ hand_of c → next ≡ followed c.mode h x → whole_at c.mode next ≡ false
    → step next.number (held c.mode next c.octets) ≡ took_symbol c x
took_inside c x h next eh en w = took c x h next c.octets eh en (kept_partial c.mode next c.octets w)

-- the ways of `finish`
module _ (c : Receiver) where
  pub finish_forged : forged c ≡ true → step FORGED c ≡ finish_of c
  unfolding finish_of
  finish_forged f = rw f

  module _ (f : forged c ≡ false) where
    pub finish_ended : (c.ended ≡ MORE → ⊥) → step ENDED c ≡ finish_of c
    unfolding finish_of
    finish_ended m = rw (f, ne_eqb c.ended MORE m)

    pub finish_open : c.ended ≡ MORE → step RUNOUT (ended_with RUNOUT c) ≡ finish_of c
    unfolding finish_of
    finish_open o = rw (f, eq-eqb c.ended MORE o)

-- Ending a record sets its number, and every other field is as it was: the fields written out, so
-- that it doesn't rest on what `ended_with` says.
pub ended_keeps : (x : ℕ) (c : Receiver) → ((ended_with x c).ended ≡ x) × ((ended_with x c).mode ≡ c.mode) × ((ended_with x c).taken ≡ c.taken)
    × ((ended_with x c).length ≡ c.length) × ((ended_with x c).count ≡ c.count) × ((ended_with x c).last ≡ c.last) × ((ended_with x c).octet ≡ c.octet)
    × ((ended_with x c).gap ≡ c.gap) × ((ended_with x c).polarity ≡ c.polarity) × ((ended_with x c).octets ≡ c.octets)
ended_keeps x c = (refl, refl, refl, refl, refl, refl, refl, refl, refl, refl)

-- the ways of `tell`
module _ (c : Receiver) (room : ℕ) where
  pub takes_forged : forged c ≡ true → refused FORGED 0 ≡ takes c room
  unfolding takes
  takes_forged f = rw f

  module _ (f : forged c ≡ false) where
    pub takes_open : c.ended ≡ MORE → refused NOTENDED 0 ≡ takes c room
    unfolding takes
    takes_open o = rw (f, eq-eqb c.ended MORE o)

    pub takes_refused : (c.ended ≡ MORE → ⊥) → (c.ended ≡ DONE → ⊥) → refused c.ended c.taken ≡ takes c room
    unfolding takes
    takes_refused m d = rw (f, ne_eqb c.ended MORE m, ne_eqb c.ended DONE d)

    module _ (d : c.ended ≡ DONE) (l : length c.octets ≡ 127) where
      -- the report is as long as the record says
      report_long : length (take c.length c.octets) ≡ c.length
      report_long = length-take-le c.length c.octets (omega (arith, passed_length c f (inr d)))

      takes_well : takes c room ≡ room_for room (holding c)
      unfolding takes
      takes_well = rw (f, d)

      pub takes_short : room < c.length → refused NOROOM c.taken ≡ takes c room
      unfolding room_for
      takes_short s = sym (takes_well ∙ rw (report_long, lt-ltb room c.length s))

      pub takes_done : c.length ≤ room → holding c ≡ takes c room
      unfolding room_for
      takes_done s = sym (takes_well ∙ rw (report_long, le-ltb room c.length s))

      pub tells_done : c.length ≤ room → (p : Phy) → p ≡ phy_at c.mode → (polarity : ℕ) → polarity ≡ pick p.chained (c.polarity % 2) 0
          → reported c.taken c.length c.count c.gap polarity ≡ told (takes c room)
      unfolding told
      tells_done s p e polarity q =
          let row : p ≡ phy_of (radio_of c.mode) = e ∙ phy_known c.mode (passed_known c f (inr d)) in
          ap₂ (λ (i z : ℕ). reported c.taken i c.count c.gap z) (sym report_long)
          (q ∙ ap (λ (y : Phy). pick y.chained (c.polarity % 2) 0) row)
          ∙ ap told (takes_done s)

-- the way of `take`: nothing is stored but a report, for which there is room
module _ (c : Receiver) (buffer : List ℕ) (l : length c.octets ≡ 127) where
  abbrev Stores : Answer → Type 0
  Stores a = stored_in (told a).n c.octets buffer ≡ left a buffer

  stores_none : (x place : ℕ) → Stores (refused x place)
  unfolding told left
  stores_none x place = stored_none c.octets buffer l

  stores_report : c.length ≤ 127 → c.length ≤ length buffer → Stores (holding c)
  unfolding told left
  stores_report m s =
      ap (λ (i : ℕ). stored_in i c.octets buffer) (length-take-le c.length c.octets (omega arith)) ∙ stored c.length c.octets buffer m l s

  stores : Stores (takes c (length buffer))
  stores =
      let room = length buffer in
      by_test (forged c) (λ f. rw (← takes_forged c room f) (stores_none FORGED 0))
      (λ f. by_test (is_open c) (λ o. rw (← takes_open c room f (eqb-true c.ended MORE o)) (stores_none NOTENDED 0))
      (λ o. by_test (ended_well c)
      (λ w. let d = eqb-true c.ended DONE w in
      by_test (ltb room c.length) (λ s. rw (← takes_short c room f d l (ltb-true room c.length s)) (stores_none NOROOM c.taken))
      (λ s. rw (← takes_done c room f d l (ltb-false room c.length s)) (stores_report (passed_length c f (inr d)) (ltb-false room c.length s))))
      (λ w. rw (← takes_refused c room f (eqb-false c.ended MORE o) (eqb-false c.ended DONE w)) (stores_none c.ended c.taken))))

  pub takes_stored : (answer : Reading) → answer ≡ told (takes c (length buffer)) → (out : List ℕ) → out ≡ stored_in answer.n c.octets buffer
      → outcome answer out ≡ take_of c buffer
  takes_stored answer e out s =
      ap₂ outcome e (s ∙ ap (λ (a : Reading). stored_in a.n c.octets buffer) e ∙ stores)
