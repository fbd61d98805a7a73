-- What a loop over a symbol's eights gathers: while each eight passes its test, the bits hold the
-- chips so far; where one does not, a byte of the symbol is no chip; and after the last one the
-- symbol of the bits is that of the chips. The reader's loop and matching's stand on it alike.
-- Over any layout that has a place for each chip. Assumes nothing.
use Rattle.std.proofs.Common.{◌≡◌, ℕ, zero, suc, ◌+◌, ◌-◌, ◌*◌, ◌/◌, ◌%◌, ◌^◌, ◌<◌, ◌≤◌, Bool, true, false, ltb, leb, ◌⊎◌, List, length, get_or, take, drop, sym, refl, ap, ◌∙◌, inl, inr, mul-le-mul_right, eq-or-lt_of_le, add-one, arith, length-take, ext_get_or, ltb-false, ltb-true, le-ltb, lt-ltb, leb-true}
use Rattle.std.specs.Prelude.{Option, None, Some, unwrap_or, option_map}
use Rattle.codes.specs.Chips.{pick, bad}
use Rattle.codes.specs.Radio.{known, radio_of, bpsk, oqpsk, lowband}
use Rattle.codes.specs.Symbol.{symbol_of}
use Rattle.codes.specs.Packed.{from, packed}
use Rattle.codes.specs.Gathered.{Layout, layout_of, gathered, gathered_at, eight_of, chip_in, listed, symbol_in}
use Rattle.codes.proofs.Tests.{by_test, not_both, both_true, upto, every, each}
use Rattle.codes.proofs.Modes.{each_row}
use Rattle.codes.proofs.Chips.{chip_at_lem, chips_good, window_chip}
use Rattle.codes.proofs.Packed.{packed_lt, packed_add, packed_digit}

-- what is there is the same, and nothing is not something
some_is : {x y : ℕ} → Some x ≡ Some y → x ≡ y
some_is e = ap (λ (o : Option ℕ). unwrap_or o 0) e

some_none : {x : ℕ} → Some x ≡ None → ⊥
some_none e = let z = ap (λ (o : Option ℕ). unwrap_or (option_map suc o) 0) e in omega arith

pub listed_long : (f : ℕ → ℕ) (n : ℕ) → length (listed f n) ≡ n
unfolding listed
listed_long f zero = refl
listed_long f (suc n) = ap suc (listed_long (λ i. f (suc i)) n)

pub listed_at : (f : ℕ → ℕ) (n i : ℕ) → i < n → get_or (listed f n) i 0 ≡ f i
unfolding listed
listed_at f zero i h = absurd (omega arith)
listed_at f (suc n) zero h = refl
listed_at f (suc n) (suc i) h = listed_at (λ i. f (suc i)) n i (omega arith)

-- chips among bits
module _ (l : Layout) (bits : ℕ) where
  pub chip_in_lem : (i : ℕ) → chip_in l bits i ≤ 1
  unfolding chip_in
  chip_in_lem i = omega arith

  pub chips_in_lem : (n : ℕ) → bad (listed (chip_in l bits) n) ≡ false
  chips_in_lem n =
      chips_good (listed (chip_in l bits) n)
      (λ i h. rw (listed_at (chip_in l bits) n i (omega (arith, listed_long (chip_in l bits) n))) (chip_in_lem i))

-- byte j of the bits that k eights of a window make
unfoldable heaped : Layout → (ℕ → ℕ) → ℕ → ℕ → ℕ
heaped l f zero j = 0
heaped l f (suc k) j = heaped l f k j + f (k * l.step + j) * 2 ^ (k * l.lift)

-- the first k eights of a window are of chips
abbrev Good : Layout → (ℕ → ℕ) → ℕ → Type 0
Good l f k = (e j : ℕ) → e < k → j < 8 → f (e * l.step + j) ≤ 1

-- of chips, it is at most what ones would make
heaped_le : (l : Layout) (f : ℕ → ℕ) (k j : ℕ) → Good l f k → j < 8 → heaped l f k j ≤ heaped l (λ i. 1) k j
unfolding heaped
heaped_le l f zero j g i = omega arith
heaped_le l f (suc k) j g i =
    omega (
      arith,
      heaped_le l f k j (λ e m h. g e m (omega arith)) i,
      mul-le-mul_right (2 ^ (k * l.lift)) (g k j (omega arith) i),
    )

heaped_up : (l : Layout) (k n j : ℕ) → k ≤ n → heaped l (λ i. 1) k j ≤ heaped l (λ i. 1) n j
unfolding heaped
heaped_up l k zero j h = let z : k ≡ 0 = omega arith in rw z (omega arith)
heaped_up l k (suc n) j h = go (eq-or-lt_of_le h) (heaped_up l k n j)
  where
    go : (k ≡ suc n) ⊎ (k < suc n) → (k ≤ n → heaped l (λ i. 1) k j ≤ heaped l (λ i. 1) n j) → heaped l (λ i. 1) k j ≤ heaped l (λ i. 1) (suc n) j
    go (inl e) r = rw e (omega arith)
    go (inr l) r = omega (arith, r (upto k n l))

-- no eight's bits hide another's
abbrev Told : Layout → Type 0
Told l = (f : ℕ → ℕ) (e j : ℕ) → e < l.eights → j < 8 → Good l f l.eights → heaped l f l.eights j / 2 ^ (e * l.lift) % 2 ≡ f (e * l.step + j)

-- A layout serves symbols of a size where its eights lie within the symbol, each chip has a place
-- in one of them, the bytes have room for all and to spare, and no eight's bits hide another's.
record Lays (l : Layout) (size : ℕ) : Type 0 where
  few : l.eights ≤ 4
  inside : (e : ℕ) → e < l.eights → e * l.step + 8 ≤ size
  placed : (i : ℕ) → i < size → (eight_of l i < l.eights) × (eight_of l i * l.step ≤ i) × (i - eight_of l i * l.step < 8)
  room : (j : ℕ) → heaped l (λ i. 1) l.eights j ≤ 85
  apart : Told l

-- so a byte of the bits is far from full
heaped_few : (l : Layout) (size : ℕ) → Lays l size → (f : ℕ → ℕ) (k j : ℕ) → k ≤ l.eights → j < 8 → Good l f k → heaped l f k j ≤ 85
heaped_few l size L f k j h i g = omega (arith, heaped_le l f k j g i, heaped_up l k l.eights j h, L.room j)

-- chip i of a part
abbrev chip_at : List ℕ → ℕ → ℕ
chip_at part i = get_or part i 0

-- the bits of the first k eights of a part, which are chips
record Gathers (l : Layout) (part : List ℕ) (k bits : ℕ) : Type 0 where
  good : Good l (chip_at part) k
  laid : bits ≡ packed (heaped l (chip_at part) k) 8

module _ (l : Layout) (size : ℕ) (L : Lays l size) (part : List ℕ) where
  gathers_none : Gathers l part 0 0
  unfolding packed heaped
  gathers_none = record { good = λ e j h. absurd (omega arith); laid = refl }

  module _ (long : length part ≡ size) where
    -- where the part's chips are chips, so are each eight's
    part_good : bad part ≡ false → Good l (chip_at part) l.eights
    part_good b e j h i = chip_at_lem part b (e * l.step + j)

    module _ (k : ℕ) (h : k < l.eights) where
      abbrev eight : List ℕ
      eight = take 8 (drop (k * l.step) part)

      eight_good : bad eight ≡ false → (j : ℕ) → j < 8 → chip_at part (k * l.step + j) ≤ 1
      eight_good b j i = rw (window_chip part (k * l.step) 8 j i) (chip_at_lem eight b j)

      -- an eight with a byte that is no chip is the part's
      eight_part : bad eight ≡ true → bad part ≡ true
      eight_part b =
          by_test (bad part) (λ t. t)
          (λ t. not_both (bad eight) b
          (chips_good eight
          (λ j i.
          let s : j < 8 = omega (arith, length-take 8 (drop (k * l.step) part), i) in
          rw (← window_chip part (k * l.step) 8 j s) (part_good t k j h s))))

      module _ (bits : ℕ) (G : Gathers l part k bits) where
        more_good : bad eight ≡ false → Good l (chip_at part) (k + 1)
        more_good b e j i s = go (eq-or-lt_of_le (upto e k (rw add-one at i)))
          where
            go : (e ≡ k) ⊎ (e < k) → chip_at part (e * l.step + j) ≤ 1
            go (inl q) = rw q (eight_good b j s)
            go (inr q) = G.good e j q s

        -- an eight of chips adds its bits to the others, and nothing wraps
        module _ (b : bad eight ≡ false) where
          abbrev heap : ℕ → ℕ
          heap = heaped l (chip_at part) (k + 1)

          sum_is : bits + packed (from part (k * l.step)) 8 * 2 ^ (k * l.lift) ≡ packed heap 8
          unfolding heaped
          sum_is =
              rw (G.laid, add-one)
              (packed_add (heaped l (chip_at part) k) (λ j. chip_at part (k * l.step + j)) (2 ^ (k * l.lift)) 8)

          sum_lt : packed heap 8 < 2 ^ 64
          sum_lt = packed_lt heap 8 (λ j i. omega (arith, heaped_few l size L (chip_at part) (k + 1) j (omega arith) i (more_good b)))

          next_is : gathered l.eights l.step l.lift part k bits ≡ Some (packed heap 8)
          unfolding gathered
          next_is =
              rw (lt-ltb k l.eights h, le-ltb (length part) (k * l.step + 8) (omega (arith, L.inside k h)), b)
              (ap Some (omega (arith, sum_is, sum_lt)))

        -- one with a byte that is none adds nothing
        none_is : bad eight ≡ true → gathered l.eights l.step l.lift part k bits ≡ None
        unfolding gathered
        none_is b = rw (lt-ltb k l.eights h, le-ltb (length part) (k * l.step + 8) (omega (arith, L.inside k h)), b)

        gathers_more : (next : ℕ) → Some next ≡ gathered l.eights l.step l.lift part k bits → Gathers l part (k + 1) next
        gathers_more next e =
            by_test (bad eight)
            (λ b. absurd (some_none (e ∙ none_is b)))
            (λ b. record { good = more_good b; laid = some_is (e ∙ next_is b) })

        gathers_bad : None ≡ gathered l.eights l.step l.lift part k bits → bad part ≡ true
        gathers_bad e = by_test (bad eight) eight_part (λ b. absurd (some_none (sym (e ∙ next_is b))))

    -- after the last eight the bits hold the part's chips
    gathers_all : (bits : ℕ) → Gathers l part l.eights bits → listed (chip_in l bits) size ≡ part
    unfolding chip_in
    gathers_all bits G =
        ext_get_or 0 (listed (chip_in l bits) size) part
        (listed_long (chip_in l bits) size ∙ sym long)
        (λ i h.
        let s : i < size = omega (arith, listed_long (chip_in l bits) size, h) in
        let p = L.placed i s in
        let e = eight_of l i in
        let j = i - eight_of l i * l.step in
        let q : e * l.step + j ≡ i = omega (arith, p.1) in
        let d = packed_digit heap 8 j (λ m t. omega (arith, heaped_few l size L (chip_at part) l.eights m (omega arith) t G.good)) p.2 in
        let c : chip_in l bits i ≡ chip_at part (e * l.step + j) = rw (G.laid, d) (L.apart (chip_at part) e j p.0 p.2 G.good) in
        listed_at (chip_in l bits) size i s ∙ c ∙ ap (chip_at part) q)
      where
        heap : ℕ → ℕ
        heap = heaped l (chip_at part) l.eights

-- where a chip stands, and where the eights do: tests that antt computes
place_test : Layout → ℕ → Bool
place_test l i =
    pick (ltb (eight_of l i) l.eights) (pick (leb (eight_of l i * l.step) i) (ltb (i - eight_of l i * l.step) 8) false) false

lays_test : Layout → ℕ → Bool
lays_test l size =
    pick (leb l.eights 4) (pick (every (λ e. leb (e * l.step + 8) size) l.eights) (every (place_test l) size) false) false

lays_by : (l : Layout) (size : ℕ) → lays_test l size ≡ true → ((j : ℕ) → heaped l (λ i. 1) l.eights j ≤ 85) → Told l → Lays l size
unfolding lays_test place_test
lays_by l size t room apart =
    let f = both_true (leb l.eights 4) _ t in
    let s = both_true (every (λ e. leb (e * l.step + 8) size) l.eights) _ f.1 in
    record {
      few = leb-true _ _ f.0;
      inside = λ e h. leb-true _ _ (each (λ e. leb (e * l.step + 8) size) l.eights s.0 e h);
      placed = λ i h.
          let p = both_true _ _ (each (place_test l) size s.1 i h) in
          let q = both_true _ _ p.1 in
          (ltb-true _ _ p.0, leb-true _ _ q.0, ltb-true _ _ q.1);
      room = room;
      apart = apart;
    }

-- of two eights whose bits lie four apart, and of four whose bits lie two apart, each chip is read
-- back
told_two : (step : ℕ) → Told (record { eights = 2; step = step; lift = 4 })
unfolding heaped
told_two step f e j h i g = go e h (g 0 j (omega arith) i) (g 1 j (omega arith) i)
  where
    go : (e : ℕ) → e < 2 → f (0 * step + j) ≤ 1 → f (1 * step + j) ≤ 1
        → (0 + f (0 * step + j) * 2 ^ (0 * 4) + f (1 * step + j) * 2 ^ (1 * 4)) / 2 ^ (e * 4) % 2 ≡ f (e * step + j)
    go zero h a b = omega arith
    go (suc zero) h a b = omega arith
    go (suc (suc e)) h a b = absurd (omega arith)

told_four : (step : ℕ) → Told (record { eights = 4; step = step; lift = 2 })
unfolding heaped
told_four step f e j h i g = go e h (g 0 j (omega arith) i) (g 1 j (omega arith) i) (g 2 j (omega arith) i) (g 3 j (omega arith) i)
  where
    go : (e : ℕ) → e < 4 → f (0 * step + j) ≤ 1 → f (1 * step + j) ≤ 1 → f (2 * step + j) ≤ 1 → f (3 * step + j) ≤ 1
        → (0 + f (0 * step + j) * 2 ^ (0 * 2) + f (1 * step + j) * 2 ^ (1 * 2) + f (2 * step + j) * 2 ^ (2 * 2) + f (3 * step + j) * 2 ^ (3 * 2))
        / 2 ^ (e * 2) % 2
        ≡ f (e * step + j)
    go zero h a b c d = omega arith
    go (suc zero) h a b c d = omega arith
    go (suc (suc zero)) h a b c d = omega arith
    go (suc (suc (suc zero))) h a b c d = omega arith
    go (suc (suc (suc (suc e)))) h a b c d = absurd (omega arith)

-- the layout of each radio serves its symbols
lays : (mode : ℕ) → Lays (layout_of (radio_of mode)) (radio_of mode).size
unfolding lays_test place_test every heaped
lays =
    each_row (λ r. Lays (layout_of r) r.size)
    (lays_by (layout_of bpsk) 15 refl (λ j. omega arith) (told_two 7))
    (lays_by (layout_of oqpsk) 32 refl (λ j. omega arith) (told_four 8))
    (lays_by (layout_of lowband) 16 refl (λ j. omega arith) (told_two 8))

-- At a mode that has a radio, for the loops, which run over all eights that a symbol can have:
-- after k turns the bits are those of k eights, or of all.
pub record Loop (mode : ℕ) (part : List ℕ) (k bits : ℕ) : Type 0 where
  few : k ≤ 4
  gathers : Gathers (layout_of (radio_of mode)) part (pick (ltb k (layout_of (radio_of mode)).eights) k (layout_of (radio_of mode)).eights) bits

module _ (mode : ℕ) (m : known mode ≡ true) (part : List ℕ) where
  abbrev laying : Layout
  laying = layout_of (radio_of mode)

  -- how many are gathered
  abbrev reached : ℕ → ℕ
  reached k = pick (ltb k laying.eights) k laying.eights

  within : (k : ℕ) → k ≤ laying.eights → reached k ≡ k
  within k h = by_test (ltb k laying.eights) (λ t. rw t) (λ t. rw t (omega (arith, ltb-false k laying.eights t)))

  beyond : (k : ℕ) → laying.eights ≤ k → reached k ≡ laying.eights
  beyond k h = rw (le-ltb k laying.eights h)

  pub loop_starts : Loop mode part 0 0
  loop_starts =
      record { few = omega arith; gathers = rw (within 0 (omega arith)) (gathers_none laying (radio_of mode).size (lays mode) part) }

  module _ (long : length part ≡ (radio_of mode).size) where
    module _ (k : ℕ) (h : k < 4) (bits : ℕ) (G : Loop mode part k bits) where
      here : gathered_at mode part k bits ≡ gathered laying.eights laying.step laying.lift part k bits
      unfolding gathered_at
      here = rw m

      -- a symbol's eight
      module _ (i : k < laying.eights) where
        so_far : Gathers laying part k bits
        so_far = rw (within k (omega arith)) at G.gathers

        inside_on : (next : ℕ) → Some next ≡ gathered_at mode part k bits → Loop mode part (k + 1) next
        inside_on next e =
            record {
              few = omega arith;
              gathers =
                  rw (within (k + 1) (omega arith))
                  (gathers_more laying (radio_of mode).size (lays mode) part long k i bits so_far next (e ∙ here));
            }

        inside_stop : None ≡ gathered_at mode part k bits → bad part ≡ true
        inside_stop e = gathers_bad laying (radio_of mode).size (lays mode) part long k i bits so_far (e ∙ here)

      -- one that it doesn't have
      module _ (i : laying.eights ≤ k) where
        same : gathered_at mode part k bits ≡ Some bits
        unfolding gathered
        same = here ∙ rw (le-ltb k laying.eights i)

        all_so_far : Gathers laying part laying.eights bits
        all_so_far = rw (beyond k i) at G.gathers

      pub loop_goes_on : (next : ℕ) → Some next ≡ gathered_at mode part k bits → Loop mode part (k + 1) next
      loop_goes_on next e =
          by_test (ltb k laying.eights)
          (λ t. inside_on (ltb-true k laying.eights t) next e)
          (λ t. let i = ltb-false k laying.eights t in
          record { few = omega arith; gathers = rw (beyond (k + 1) (omega arith), some_is (e ∙ same i)) (all_so_far i) })

      pub loop_stops : None ≡ gathered_at mode part k bits → bad part ≡ true
      loop_stops e =
          by_test (ltb k laying.eights)
          (λ t. inside_stop (ltb-true k laying.eights t) e)
          (λ t. absurd (some_none (sym (e ∙ same (ltb-false k laying.eights t)))))

    pub loop_ends : (k bits : ℕ) → 4 ≤ k → Loop mode part k bits → symbol_in mode bits ≡ symbol_of (radio_of mode) part
    unfolding symbol_in
    loop_ends k bits h G =
        let g : Gathers laying part laying.eights bits = rw (beyond k (omega (arith, (lays mode).few))) at G.gathers in
        rw m (ap (symbol_of (radio_of mode)) (gathers_all laying (radio_of mode).size (lays mode) part long bits g))
