-- The hand carries the numbers of the symbols before it, and a symbol more keeps it so.
-- Assumes nothing.
use mathlib.Core.Path.{◌≡◌, refl, sym, ap, ◌∙◌}
use mathlib.Core.Bool.{true}
use mathlib.Core.List.{List, [], ◌∷◌, ◌++◌, map, map-append}
use Prim.Native.Nat.{ℕ, suc, ◌+◌, ◌*◌, ◌%◌, ◌^◌, ◌≤◌, ◌<◌}
use native.Mathlib.Nat.{mod-eq_of_lt}
use native.Mathlib.Omega.{arith}
use lib.ListN.{length, get_or, length-append, length-map}
use lib.Seq.{get_or_at}
use borrow.Author.Tests.{eqb-true, eqb-false, ne_eqb, lt-ltb}
use Rattle.codes.specs.Radio.{Radio, Sound}
use Rattle.codes.specs.Symbol.{lesser, least, gap_of, NOGAP}
use Rattle.codes.specs.declared.Symbol.{Symbol}
use Rattle.codes.proofs.Tests.{by_test}
use Rattle.codes.proofs.Leasts.{least_snoc}
use Rattle.frame.specs.Frame.{per_octet}
use Rattle.frame.proofs.Below.{Below, below_append}
use Rattle.order.specs.declared.Hand.{Hand}
use Rattle.order.specs.Received.{raw_after, decode, chain_start, polarity_of, received, octet_at}
use Rattle.order.specs.Order.{ends, rules, values, repaired, smallest_gap, length_in, verdict}
use Rattle.order.specs.Taking.{begun, at_first, shifted, length_after, gap_at, moved, raw_next, polarity_next}
use Rattle.order.proofs.Raw.{
  last_of,
  last_snoc,
  last_below,
  decode_long,
  decode_snoc,
  decode_below,
  octet_stays,
  shifts,
  shifts_append,
  per_positive,
  last_octet,
}
use Rattle.order.proofs.Rules.{past_first, rules_same}

-- the hand's numbers are those of the symbols before
pub record Carries (r : Radio) (before : List Symbol) (h : Hand) : Type 0 where
  pub taken : h.taken ≡ length before
  pub last : h.last ≡ last_of 0 (values before)
  pub polarity : h.polarity ≡ polarity_of r (values before)
  pub octet : h.octet ≡ shifts r 0 (received r (values before))
  pub late : 6 * per_octet r ≤ length before → h.length ≡ length_in r (received r (values before))
  pub early : length before < 6 * per_octet r → h.length ≡ 0
  pub count : h.count ≡ repaired before
  pub none : length before ≡ 0 → h.gap ≡ NOGAP
  pub gap : 0 < length before → h.gap ≡ smallest_gap before
  pub below : Below (2 ^ r.bits) (values before)

pub values_snoc : (xs : List Symbol) (x : Symbol) → values (xs ++ x ∷ []) ≡ values xs ++ x.value ∷ []
values_snoc xs x = map-append (λ (y : Symbol). y.value) xs (x ∷ [])

pub repaired_append : (xs ys : List Symbol) → repaired (xs ++ ys) ≡ repaired xs + repaired ys
unfolding repaired
repaired_append [] ys = omega arith
repaired_append (x ∷ xs) ys = omega (arith, repaired_append xs ys)

repaired_snoc : (xs : List Symbol) (x : Symbol) → repaired (xs ++ x ∷ []) ≡ repaired xs + x.distance
unfolding repaired
repaired_snoc xs x = omega (arith, repaired_append xs (x ∷ []))

-- the smallest gap with one symbol more; before the first it is above every gap
gap_snoc : (xs : List Symbol) (x : Symbol) (g : ℕ) → (length xs ≡ 0 → g ≡ NOGAP) → (0 < length xs → g ≡ smallest_gap xs)
    → gap_of x < NOGAP → lesser (gap_of x) g ≡ smallest_gap (xs ++ x ∷ [])
unfolding smallest_gap least
gap_snoc [] x g none some l = rw (none refl, lt-ltb (gap_of x) NOGAP l)
gap_snoc (y ∷ ys) x g none some l =
    ap (lesser (gap_of x)) (some (omega arith))
    ∙ sym (ap least (map-append gap_of (y ∷ ys) (x ∷ [])) ∙ least_snoc (map gap_of (y ∷ ys)) (gap_of x) (omega arith))

pub values_long : (xs : List Symbol) → length (values xs) ≡ length xs
values_long xs = length-map xs (λ (x : Symbol). x.value)

-- the value before one more: the last one, or, before the first, where the chain starts
abbrev pub value_before : Radio → List ℕ → ℕ → ℕ
value_before r vs v = last_of (chain_start r v) vs

received_next : (r : Radio) (vs : List ℕ) (v : ℕ) → received r (vs ++ v ∷ []) ≡ received r vs ++ raw_after r (value_before r vs v) v ∷ []
unfolding decode
received_next r [] v = refl
received_next r (u ∷ vs) v = decode_snoc r (chain_start r u) (u ∷ vs) v

-- the raw symbols with one symbol more
pub received_snoc : (r : Radio) (xs : List Symbol) (x : Symbol)
    → received r (values (xs ++ x ∷ [])) ≡ received r (values xs) ++ raw_after r (value_before r (values xs) x.value) x.value ∷ []
received_snoc r xs x = ap (received r) (values_snoc xs x) ∙ received_next r (values xs) x.value

pub received_long : (r : Radio) (xs : List Symbol) → length (received r (values xs)) ≡ length xs
received_long r xs = decode_long r (polarity_of r (values xs)) (values xs) ∙ values_long xs

-- What the code has for the value before one more, and for the polarity with it, is by the values
-- before: held, or at the first symbol of a chain its value.
module _ (r : Radio) (h : Hand) (v : ℕ) where
  first_last : r.chained ≡ true → (vs : List ℕ) → h.taken ≡ length vs → h.last ≡ last_of 0 vs
      → at_first r.chained h.taken h.last v ≡ value_before r vs v
  first_last c [] t l = rw (c, t)
  first_last c (u ∷ vs) t l = past_first r.chained h.taken h.last v (λ _ e. omega arith) ∙ l

  first_polarity : (vs : List ℕ) → h.taken ≡ length vs → h.polarity ≡ polarity_of r vs
      → at_first r.chained h.taken h.polarity v ≡ polarity_of r (vs ++ v ∷ [])
  first_polarity [] t p = by_test r.chained (λ c. rw (c, t)) (λ c. rw c (rw c at p))
  first_polarity (u ∷ vs) t p = past_first r.chained h.taken h.polarity v (λ _ e. omega arith) ∙ p

module _ (r : Radio) (S : Sound r) where
  -- the polarity of values is one that the radio has
  pub polarity_low : (vs : List ℕ) → Below (2 ^ r.bits) vs → chain_start r (polarity_of r vs % 2) ≡ polarity_of r vs
  polarity_low [] b = by_test r.chained (λ c. rw c) (λ c. rw c)
  polarity_low (v ∷ vs) b = by_test r.chained (λ c. let l : v < 2 = rw (S.single c) at b.0 in rw c (mod-eq_of_lt l)) (λ c. rw c)

  pub carries_none : Carries r [] begun
  unfolding decode repaired
  carries_none =
      record {
        taken = refl;
        last = refl;
        polarity = by_test r.chained (λ c. rw c) (λ c. rw c);
        octet = refl;
        late = λ h. absurd (omega (arith, per_positive r S));
        early = λ h. refl;
        count = refl;
        none = λ _. refl;
        gap = λ h. absurd (omega arith);
        below = tt;
      }

  module _ (before : List Symbol) (h : Hand) (C : Carries r before h) (x : Symbol) (lv : x.value < 2 ^ r.bits) where
    abbrev v : ℕ
    v = x.value

    abbrev after : List Symbol
    after = before ++ x ∷ []

    -- the raw symbol
    abbrev raw : ℕ
    raw = raw_after r (value_before r (values before) v) v

    -- the raw symbols with it
    abbrev bits : List ℕ
    bits = received r (values after)

    -- the octet in hand and n with it, as the code has them
    abbrev octet : ℕ
    octet = shifted r h.octet (raw_next r h x)

    abbrev n : ℕ
    n = length_after (per_octet r) h.taken h.length octet

    after_long : length after ≡ suc (length before)
    after_long = length-append before (x ∷ []) ∙ omega arith

    bits_snoc : bits ≡ received r (values before) ++ raw ∷ []
    bits_snoc = received_snoc r before x

    bits_long : length bits ≡ suc (length before)
    bits_long = received_long r after ∙ after_long

    after_below : Below (2 ^ r.bits) (values after)
    after_below = rw (values_snoc before x) (below_append (2 ^ r.bits) (values before) (v ∷ []) C.below (lv, tt))

    raw_is : raw_next r h x ≡ raw
    raw_is =
        by_test r.chained
        (λ c.
        let b : value_before r (values before) v < 2 ^ r.bits = last_below (2 ^ r.bits) (chain_start r v) (values before) (rw c lv) C.below in
        rw (first_last r h v c (values before) (C.taken ∙ sym (values_long before)) C.last, mod-eq_of_lt b, mod-eq_of_lt lv))
        (λ c. rw (c, mod-eq_of_lt lv))

    octet_is : octet ≡ shifts r 0 bits
    octet_is =
        rw (raw_is, C.octet, bits_snoc) (sym (shifts_append r 0 (received r (values before)) (raw ∷ [])))

    -- on the last symbol of octet k it is that octet
    octet_ends : (k : ℕ) → ends (per_octet r) k (length before) ≡ true → octet ≡ octet_at r k bits
    octet_ends k e = octet_is ∙ (last_octet r S bits k (decode_below r S _ (values after) after_below) (bits_long ∙ eqb-true _ _ e)).0

    -- n, by the symbols before
    n_at : n ≡ length_after (per_octet r) (length before) h.length octet
    n_at = ap (λ (s : ℕ). length_after (per_octet r) s h.length octet) C.taken

    n_late : 6 * per_octet r ≤ suc (length before) → n ≡ length_in r bits
    n_late l = n_at
        ∙ by_test (ends (per_octet r) 5 (length before))
        (λ e. rw e (ap (λ (x : ℕ). x % 128) (octet_ends 5 e)))
        (λ e.
        let m : 6 * per_octet r ≤ length before = omega (arith, eqb-false (suc (length before)) (6 * per_octet r) e) in
        let b : 6 * per_octet r ≤ length (received r (values before)) = rw (received_long r before) m in
        rw e (C.late m ∙ sym (ap (length_in r) bits_snoc ∙ ap (λ (x : ℕ). x % 128) (octet_stays r 5 (received r (values before)) (raw ∷ []) b))))

    n_early : suc (length before) < 6 * per_octet r → n ≡ 0
    n_early l = n_at ∙ rw (ne_eqb (suc (length before)) (6 * per_octet r) (λ e. omega arith)) (C.early (omega arith))

    -- the code's rules are the reading order's
    pub verdict_is : (room : ℕ) → rules (per_octet r) room h.taken (raw_next r h x) octet n ≡ verdict r room (length before) bits
    verdict_is room =
        let g : get_or bits (length before) 0 ≡ raw_next r h x =
        ap (λ (l : List ℕ). get_or l (length before) 0) bits_snoc
        ∙ get_or_at (received r (values before)) raw [] 0 (length before) (received_long r before)
        ∙ sym raw_is in
        ap (λ (s : ℕ). rules (per_octet r) room s (raw_next r h x) octet n) C.taken
        ∙ rules_same (per_octet r) room (length before) (raw_next r h x) octet (octet_at r 4 bits) n (length_in r bits) (octet_ends 4) n_late
        ∙ ap (λ (y : ℕ). rules (per_octet r) room (length before) y (octet_at r 4 bits) (length_in r bits)) (sym g)

    -- and one symbol more is carried
    pub carries_more : suc (length before) < 2 ^ 32 → repaired before + x.distance < 2 ^ 32 → x.distance ≤ x.next → x.next < NOGAP
        → (y : ℕ) → Carries r after (moved h y n x octet (polarity_next r h x))
    carries_more a b c d y =
        let g : gap_at x ≡ gap_of x = omega (arith, c, d) in
        record {
          taken = rw (C.taken, mod-eq_of_lt {n = length before + 1} {m = 2 ^ 32} (omega arith)) (omega (arith, after_long));
          last = sym (ap (last_of 0) (values_snoc before x) ∙ last_snoc 0 (values before) v);
          polarity = first_polarity r h v (values before) (C.taken ∙ sym (values_long before)) C.polarity ∙ ap (polarity_of r) (sym (values_snoc before x));
          octet = octet_is;
          late = λ l. n_late (omega (arith, after_long));
          early = λ l. n_early (omega (arith, after_long));
          count = rw (C.count, mod-eq_of_lt {n = repaired before + x.distance} {m = 2 ^ 32} b) (sym (repaired_snoc before x));
          none = λ l. absurd (omega (arith, after_long));
          gap = λ l. ap (λ (z : ℕ). lesser z h.gap) g ∙ gap_snoc before x h.gap C.none C.gap (omega (arith, d));
          below = after_below;
        }
