-- Either way round. In a chained radio whose two words are each other's inverse, as mode 0's are,
-- chips 0 and 1 are read alike when every one of them is inverted: as the same report with the same
-- count and gap and the other polarity, or refused with the same number at the same place. A symbol
-- then reads as the other value, at the same distances, and the raw symbols are the same, since the
-- chain starts from the first value. Assumes nothing.
use mathlib.Core.Path.{◌≡◌, refl, sym, ap, ap₂, ◌∙◌}
use mathlib.Core.Bool.{true, false}
use mathlib.Core.List.{List, [], ◌∷◌, ◌++◌, map, map-append}
use Prim.Native.Nat.{ℕ, zero, suc, ◌+◌, ◌-◌, ◌*◌, ◌/◌, ◌≤◌, ◌<◌}
use native.Mathlib.Omega.{arith}
use lib.ListN.{length, get_or, take, drop, length-map, length-append, length-take}
use lib.Seq.{get_or-take}
use lib.Dec.{eqb, leb}
use borrow.Author.Tests.{eq-eqb, ne_eqb, eqb-true, eqb-false, le-ltb}
use Rattle.codes.specs.Numbers.{DONE, RUNOUT, LOST, MORE}
use Rattle.codes.specs.Chips.{differ, distance, bad}
use Rattle.codes.specs.Radio.{Radio, Sound, word, bpsk}
use Rattle.codes.specs.Symbol.{least, nearest, nearest_but, symbol_of, gap_of}
use Rattle.codes.specs.declared.Symbol.{Symbol}
use Rattle.codes.proofs.Tests.{by_test}
use Rattle.codes.proofs.Chips.{differ_same, differ_other, bad_drop, chip_at_lem, chips_good}
use Rattle.codes.proofs.Leasts.{but_at}
use Rattle.codes.proofs.Unique.{Reads, some_words, two_words, of_symbol_lem, read_as_lem, lost_of, of_lost, symbol_of_lem}
use Rattle.codes.proofs.Facts.{sound_bpsk}
use Rattle.frame.proofs.Below.{Below, below_append}
use Rattle.order.specs.Received.{raw_after, decode, chain_start, polarity_of, received}
use Rattle.order.specs.Order.{
  Answer,
  refused,
  done,
  window,
  windows,
  whole,
  values,
  repaired,
  smallest_gap,
  verdict,
  report_in,
  succeeded,
  concluded,
  taking,
  reading_from,
  reading,
}
use Rattle.order.proofs.Raw.{size_pos}
use Rattle.order.proofs.Windows.{whole_at_lem, whole_sized}
use Rattle.order.proofs.Carried.{values_snoc, values_long}
use Rattle.reader.specs.Read.{told, left, answer_at, answered, read_of}
use Rattle.reader.proofs.Fair.{Told, answer_told}
use Rattle.checked.specs.Profile.{check_of, checked_answer, read_checked_of}
use Rattle.demands.specs.Words.{inverse, Opposite, other_way, Alike}
use Rattle.demands.proofs.Stands.{take_map}
use Rattle.demands.proofs.TurnsOver.{bpsk_opposite}

-- ---- chips

inverse_differ : (x y : ℕ) → x ≤ 1 → y ≤ 1 → differ (1 - x) (1 - y) ≡ differ x y
inverse_differ x y h l =
    by_test (eqb x y)
    (λ t. let e = eqb-true x y t in differ_same (1 - x) (1 - y) (ap (λ (z : ℕ). 1 - z) e) ∙ sym (differ_same x y e))
    (λ t. let n = eqb-false x y t in differ_other (1 - x) (1 - y) (λ e. n (omega arith)) ∙ sym (differ_other x y n))

-- inverted chips are as far from inverted ones
inverse_distance : (xs ys : List ℕ) → bad xs ≡ false → bad ys ≡ false → distance (inverse xs) (inverse ys) ≡ distance xs ys
unfolding distance
inverse_distance [] ys a b = refl
inverse_distance (x ∷ xs) [] a b = refl
inverse_distance (x ∷ xs) (y ∷ ys) a b =
    ap₂ (λ (m n : ℕ). m + n) (inverse_differ x y (chip_at_lem (x ∷ xs) a 0) (chip_at_lem (y ∷ ys) b 0))
    (inverse_distance xs ys (bad_drop 1 (x ∷ xs) a) (bad_drop 1 (y ∷ ys) b))

inverse_good : (xs : List ℕ) → bad (inverse xs) ≡ false
unfolding bad
inverse_good [] = refl
inverse_good (x ∷ xs) = rw (le-ltb 1 (1 - x) (omega arith)) (inverse_good xs)

drop_map : {A B : Type 0} (f : A → B) (j : ℕ) (l : List A) → drop j (map f l) ≡ map f (drop j l)
drop_map f zero l = refl
drop_map f (suc j) [] = refl
drop_map f (suc j) (x ∷ l) = drop_map f j l

-- the windows of inverted chips
windows_inverse : (r : Radio) (chips : List ℕ) (s k : ℕ) → windows r (inverse chips) s k ≡ map inverse (windows r chips s k)
unfolding windows
windows_inverse r chips s zero = refl
windows_inverse r chips s (suc k) =
    ap₂ (λ (w : List ℕ) (ws : List (List ℕ)). w ∷ ws)
    (ap (take r.size) (drop_map (λ (c : ℕ). 1 - c) (s * r.size) chips) ∙ take_map (λ (c : ℕ). 1 - c) r.size (drop (s * r.size) chips))
    (windows_inverse r chips (suc s) k)

-- ---- symbols

-- the other value, at the same distances
abbrev flip : Symbol → Symbol
flip x = record { number = x.number; value = 1 - x.value; distance = x.distance; next = x.next }

values_flip : (xs : List Symbol) → values (map flip xs) ≡ inverse (values xs)
values_flip [] = refl
values_flip (x ∷ xs) = ap (λ (l : List ℕ). (1 - x.value) ∷ l) (values_flip xs)

repaired_flip : (xs : List Symbol) → repaired (map flip xs) ≡ repaired xs
unfolding repaired
repaired_flip [] = refl
repaired_flip (x ∷ xs) = ap (λ (n : ℕ). x.distance + n) (repaired_flip xs)

gaps_flip : (xs : List Symbol) → map gap_of (map flip xs) ≡ map gap_of xs
gaps_flip [] = refl
gaps_flip (x ∷ xs) = ap (λ (l : List ℕ). gap_of x ∷ l) (gaps_flip xs)

module _ (r : Radio) (S : Sound r) (c : r.chained ≡ true) (o : Opposite r) where
  two : length r.words ≡ 2
  two = S.many ∙ rw (S.single c)

  -- as far from the other word
  other_word : (w : List ℕ) → bad w ≡ false → (v : ℕ) → v ≤ 1 → distance (inverse w) (word r (1 - v)) ≡ distance w (word r v)
  other_word w b v l = rw (o v l) (inverse_distance w (word r v) b (S.chips v (omega (arith, two))))

  -- the nearest of the others is the other
  but_other : (w : List ℕ) (v : ℕ) → v ≤ 1 → nearest_but r w v ≡ distance w (word r (1 - v))
  but_other w v l =
      let t = but_at r w v (omega (arith, two)) (two_words r S) in
      let e : t.0 ≡ 1 - v = omega (arith, t.1, t.2, two) in
      sym t.3 ∙ ap (λ (u : ℕ). distance w (word r u)) e

  module _ (w : List ℕ) (sized : length w ≡ r.size) (b : bad w ≡ false) where
    -- a symbol that is read reads as the other value
    flipped : (symbol_of r w).number ≡ DONE → symbol_of r (inverse w) ≡ flip (symbol_of r w)
    flipped e =
        let v = (symbol_of r w).value in
        let d = (symbol_of r w).distance in
        let R = of_symbol_lem r w (some_words r S) e in
        let l : v ≤ 1 = omega (arith, R.known, two) in
        let Q : Reads r (inverse w) (1 - v) d =
        record { chip = inverse_good w; known = omega (arith, two); apart = R.apart ∙ sym (other_word w b v l); near = R.near } in
        let next : nearest_but r (inverse w) (1 - v) ≡ nearest_but r w v =
        but_other (inverse w) (1 - v) (omega arith) ∙ other_word w b (1 - v) (omega arith) ∙ sym (but_other w v l) in
        symbol_of_lem r (inverse w) S (length-map w (λ (x : ℕ). 1 - x) ∙ sized) (1 - v) d Q
        ∙ ap₂ (λ (m n : ℕ). says (1 - v) m n) (other_word w b v l) next
        ∙ ap flip (sym (read_as_lem r w (some_words r S) e))
      where
        says : ℕ → ℕ → ℕ → Symbol
        says v m n = record { number = DONE; value = v; distance = m; next = n }

    -- and one that isn't is lost either way round
    lost : ((symbol_of r w).number ≡ DONE → ⊥) → (symbol_of r w).number ≡ LOST
    unfolding symbol_of
    lost n = by_test (leb (nearest r w) r.limit) (λ t. absurd (n (rw (b, t)))) (λ t. rw (b, t))

    still_lost : (symbol_of r w).number ≡ LOST → (symbol_of r (inverse w)).number ≡ LOST
    still_lost e =
        ap (λ (x : Symbol). x.number)
        (lost_of r (inverse w) (some_words r S)
        (record {
          chip = inverse_good w;
          far = λ u h.
              let l : u ≡ 1 - (1 - u) = omega (arith, two) in
              rw l (rw (other_word w b (1 - u) (omega arith)) ((of_lost r w e).far (1 - u) (omega (arith, two))));
        }))

  -- ---- the reading

  decode_inverse : (e : ℕ) → e ≤ 1 → (vs : List ℕ) → Below 2 vs → decode r (1 - e) (inverse vs) ≡ decode r e vs
  unfolding decode
  decode_inverse e l [] p = refl
  decode_inverse e l (v ∷ vs) p =
      let h : v ≤ 1 = omega (arith, p.0) in
      let raw : raw_after r (1 - e) (1 - v) ≡ raw_after r e v = rw c (omega arith) in
      ap₂ (λ (x : ℕ) (l : List ℕ). x ∷ l) raw (decode_inverse v h vs p.1)

  received_inverse : (vs : List ℕ) → Below 2 vs → received r (inverse vs) ≡ received r vs
  unfolding decode
  received_inverse [] p = refl
  received_inverse (v ∷ vs) p =
      ap (λ (e : ℕ). decode r e (inverse (v ∷ vs))) (start (1 - v)) ∙ decode_inverse v (omega (arith, p.0)) (v ∷ vs) p
      ∙ ap (λ (e : ℕ). decode r e (v ∷ vs)) (sym (start v))
    where
      start : (u : ℕ) → chain_start r u ≡ u
      start u = rw c

  polarity_inverse : (vs : List ℕ) → 0 < length vs → polarity_of r (inverse vs) ≡ 1 - polarity_of r vs
  polarity_inverse [] h = absurd (omega arith)
  polarity_inverse (v ∷ vs) h = rw c

  module _ (room : ℕ) (before : List Symbol) (x : Symbol) (low : Below 2 (values (before ++ x ∷ []))) where
    abbrev all : List Symbol
    all = before ++ x ∷ []

    raws_same : received r (values (map flip all)) ≡ received r (values all)
    raws_same = ap (received r) (values_flip all) ∙ received_inverse (values all) low

    some : 0 < length (values all)
    some = omega (arith, values_long all, length-append before (x ∷ []))

    succeeded_turned : (s : ℕ) → succeeded r s (map flip all) ≡ other_way (succeeded r s all)
    unfolding smallest_gap
    succeeded_turned s =
        ap₂ (λ (bs : List ℕ) (n : ℕ). done (suc s) (report_in r bs) n (smallest_gap (map flip all)) (polarity_of r (values (map flip all))))
        raws_same (repaired_flip all)
        ∙ ap₂ (λ (g p : ℕ). done (suc s) (report_in r (received r (values all))) (repaired all) g p) (ap least (gaps_flip all))
        (ap (polarity_of r) (values_flip all) ∙ polarity_inverse (values all) some)

    concluded_turned : (s f : ℕ) (next : Answer) → concluded r s (map flip all) f (other_way next) ≡ other_way (concluded r s all f next)
    unfolding concluded
    concluded_turned s f next =
        by_test (eqb f MORE) (λ a. rw a) (λ a. by_test (eqb f DONE) (λ b. rw (a, b) (succeeded_turned s)) (λ b. rw (a, b)))

    taking_turned : x.number ≡ DONE → (next : Answer) → taking r room (map flip before) (flip x) (other_way next) ≡ other_way (taking r room before x next)
    unfolding taking
    taking_turned d next =
        rw (eq-eqb x.number DONE d)
        (ap₂ (λ (s : ℕ) (l : List Symbol). concluded r s l (verdict r room s (received r (values l))) (other_way next))
        (length-map before flip) (sym (map-append flip before (x ∷ [])))
        ∙ ap (λ (bs : List ℕ). concluded r (length before) (map flip all) (verdict r room (length before) bs) (other_way next)) raws_same
        ∙ concluded_turned (length before) _ next)

  taking_lost : (room : ℕ) (before : List Symbol) (y : Symbol) → y.number ≡ LOST → (next : Answer)
      → taking r room before y next ≡ refused LOST (length before)
  unfolding taking
  taking_lost room before y e next = rw e

  -- windows of one symbol each, of chips 0 and 1
  abbrev Good : List (List ℕ) → Type 0
  Good ws = (s : ℕ) → s < length ws → (length (get_or ws s []) ≡ r.size) × (bad (get_or ws s []) ≡ false)

  from_turned : (room : ℕ) (before : List Symbol) → Below 2 (values before) → (ws : List (List ℕ)) → Good ws
      → reading_from r room (map flip before) (map inverse ws) ≡ other_way (reading_from r room before ws)
  unfolding reading_from
  from_turned room before low [] G = ap (refused RUNOUT) (length-map before flip)
  from_turned room before low (w ∷ ws) G =
      by_test (eqb x.number DONE)
      (λ t.
      let d = eqb-true x.number DONE t in
      let l : x.value < 2 = rw two at (of_symbol_lem r w (some_words r S) d).known in
      let more : Below 2 (values (before ++ x ∷ [])) = rw (values_snoc before x) (below_append 2 (values before) (x.value ∷ []) low (l, tt)) in
      ap (λ (y : Symbol). taking r room (map flip before) y (reading_from r room (map flip before ++ y ∷ []) (map inverse ws))) (flipped w g.0 g.1 d)
      ∙ ap (taking r room (map flip before) (flip x))
      (ap (λ (l : List Symbol). reading_from r room l (map inverse ws)) (sym (map-append flip before (x ∷ [])))
      ∙ from_turned room (before ++ x ∷ []) more ws (λ s h. G (suc s) (omega arith)))
      ∙ taking_turned room before x more d (reading_from r room (before ++ x ∷ []) ws))
      (λ t.
      let e = lost w g.0 g.1 (eqb-false x.number DONE t) in
      taking_lost room (map flip before) (symbol_of r (inverse w)) (still_lost w g.0 g.1 e) _
      ∙ ap (refused LOST) (length-map before flip)
      ∙ ap other_way (sym (taking_lost room before x e _)))
    where
      x : Symbol
      x = symbol_of r w

      g : (length w ≡ r.size) × (bad w ≡ false)
      g = G 0 (omega arith)

  whole_good : (chips : List ℕ) → bad chips ≡ false → Good (whole r chips)
  whole_good chips b s h =
      let at = s * r.size in (
        whole_sized r chips (size_pos r S) s h,
        rw (whole_at_lem r chips s h)
            (chips_good (window r chips s)
            (λ k l. rw (get_or-take r.size (drop at chips) k 0 (omega (arith, l, length-take r.size (drop at chips))))
            (chip_at_lem (drop at chips) (bad_drop at chips b) k))),
      )

  -- Chips 0 and 1, all of them inverted, are read alike but for the polarity.
  pub reading_turned : (room : ℕ) (chips : List ℕ) → bad chips ≡ false → reading r room (inverse chips) ≡ other_way (reading r room chips)
  unfolding reading
  reading_turned room chips b =
      ap (λ (n : ℕ). reading_from r room [] (windows r (inverse chips) 0 (n / r.size))) (length-map chips (λ (x : ℕ). 1 - x))
      ∙ ap (reading_from r room []) (windows_inverse r chips 0 (length chips / r.size))
      ∙ from_turned room [] tt (whole r chips) (whole_good chips b)

-- so is what is told of them, by the plain reader and by the checked one
told_turned : (a : Answer) → Told a → (buffer : List ℕ) → Alike (answered (other_way a) buffer) (answered a buffer)
unfolding told left
told_turned (refused x place) f buffer =
    record { number = refl; place = refl; n = refl; count = refl; gap = refl; polarity = rw (ne_eqb x DONE f); buffer = refl }
told_turned (done place report count gap polarity) f buffer =
    record { number = refl; place = refl; n = refl; count = refl; gap = refl; polarity = refl; buffer = refl }

checked_turned : (a : Answer) → Told a → (buffer : List ℕ) → Alike (answered (checked_answer (other_way a)) buffer) (answered (checked_answer a) buffer)
unfolding checked_answer
checked_turned (refused x place) f buffer = told_turned (refused x place) f buffer
checked_turned (done place report count gap polarity) f buffer =
    by_test (eqb (check_of report) DONE)
    (λ t. rw t (told_turned (done place report count gap polarity) tt buffer))
    (λ t. rw t (told_turned (refused (check_of report) place) (eqb-false (check_of report) DONE t) buffer))

module _ (chips buffer : List ℕ) (b : bad chips ≡ false) where
  turned_over : answer_at 0 (length buffer) (inverse chips) ≡ other_way (answer_at 0 (length buffer) chips)
  unfolding answer_at
  turned_over = reading_turned bpsk sound_bpsk refl bpsk_opposite (length buffer) chips b

  -- And so in mode 0: with every chip inverted a reader answers the same number, place, n, count
  -- and gap, leaves the same report buffer, and where it is done its polarity is the other.
  pub reads_turned : Alike (read_of 0 (inverse chips) buffer) (read_of 0 chips buffer)
  reads_turned = rw turned_over (told_turned (answer_at 0 (length buffer) chips) (answer_told 0 (length buffer) chips) buffer)

  pub checked_reads_turned : Alike (read_checked_of 0 (inverse chips) buffer) (read_checked_of 0 chips buffer)
  checked_reads_turned = rw turned_over (checked_turned (answer_at 0 (length buffer) chips) (answer_told 0 (length buffer) chips) buffer)
