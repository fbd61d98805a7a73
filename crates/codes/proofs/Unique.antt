-- Reading a symbol within a distance, once for every word length, number of words and limit: at
-- most one word lies within the limit where any two are more than twice the limit apart (triangle
-- inequality), and that word is the nearest, which is the answer. Assumes nothing.
use Rattle.std.proofs.Common.{◌≡◌, ℕ, zero, suc, ◌*◌, ◌/◌, ◌^◌, ◌<◌, ◌≤◌, Bool, true, false, eqb, leb, ◌⊎◌, List, length, sym, refl, ap, ◌∙◌, inl, inr, pow-suc, arith, pow_pos, eqb-true, le-leb, leb-false, leb-true}
use borrow.Author.Tests.{lt-leb, eqb-false}
use Rattle.codes.specs.declared.Symbol.{Symbol}
use Rattle.codes.specs.Numbers.{DONE, LOST, NOCHIP}
use Rattle.codes.specs.Chips.{pick, distance, bad}
use Rattle.codes.specs.Radio.{Radio, word, Sound}
use Rattle.codes.specs.Symbol.{nearest, nearest_word, nearest_but, next_nearest, refused, closeness, symbol_of}
use Rattle.codes.proofs.Tests.{by_test, by_pick}
use Rattle.codes.proofs.Chips.{distance_sym, distance_tri, distance_le}
use Rattle.codes.proofs.Leasts.{nearest_le, nearest_at, nearest_is, word_is, but_at}

-- the chips are 0 or 1, and d places, at most the limit, from word v
pub record Reads (r : Radio) (chips : List ℕ) (v d : ℕ) : Type 0 where
  pub chip : bad chips ≡ false
  pub known : v < length r.words
  pub apart : d ≡ distance chips (word r v)
  pub near : d ≤ r.limit

-- the chips are 0 or 1, and farther than the limit from every word
pub record Stray (r : Radio) (chips : List ℕ) : Type 0 where
  pub chip : bad chips ≡ false
  pub far : (v : ℕ) → v < length r.words → r.limit < distance chips (word r v)

-- chips that read as word v: its distance, and that of the nearest other word
abbrev pub read_as : Radio → List ℕ → ℕ → Symbol
read_as r chips v = record { number = DONE; value = v; distance = distance chips (word r v); next = nearest_but r chips v }

-- a sound radio has words
pub some_words : (r : Radio) → Sound r → 0 < length r.words
some_words r S = rw S.many (pow_pos r.bits)

-- and at least two: an octet is not of no bits
pub two_words : (r : Radio) → Sound r → 1 < length r.words
two_words r S = rw S.many (go r.bits S.divides)
  where
    go : (b : ℕ) → 8 / b * b ≡ 8 → 1 < 2 ^ b
    go zero e = absurd (omega (arith, e))
    go (suc b) e = omega (arith, pow-suc 2 b, pow_pos b)

-- the nearest word is no farther than the next-nearest, which is at most a word's chips away
pub closeness_order : (r : Radio) → Sound r → (chips : List ℕ) → (nearest r chips ≤ next_nearest r chips) × (next_nearest r chips ≤ r.size)
closeness_order r S chips =
    let w = nearest_at r chips (some_words r S) in
    let t = but_at r chips (nearest_word r chips) w.0 (two_words r S) in (
      omega (arith, t.3, nearest_le r chips t.0 t.1),
      omega (arith, t.3, distance_sym chips (word r t.0), distance_le (word r t.0) chips, S.sized t.0 t.1),
    )

module _ (r : Radio) (chips : List ℕ) where
  -- a byte above 1: 5
  pub nochip_of : bad chips ≡ true → symbol_of r chips ≡ refused NOCHIP
  unfolding symbol_of
  nochip_of b = rw b

  -- the number is one of three
  pub symbol_numbers : (P : ℕ → Type 0) → P NOCHIP → P LOST → P DONE → P (symbol_of r chips).number
  unfolding symbol_of
  symbol_numbers P n l d =
      by_pick (λ (z : Symbol). P z.number) (bad chips) _ _ (λ _. n) (λ _. by_pick P (leb (nearest r chips) r.limit) _ _ (λ _. d) (λ _. l))

  -- what it says: no byte above 1, and the nearest word within the limit or not
  number_says : (x : ℕ) → (x ≡ NOCHIP → ⊥) → (symbol_of r chips).number ≡ x
      → (bad chips ≡ false) × (pick (leb (nearest r chips) r.limit) DONE LOST ≡ x) × (symbol_of r chips ≡ closeness x r chips)
  unfolding symbol_of
  number_says x n e =
      by_test (bad chips)
      (λ b. absurd (n (sym (rw b at e))))
      (λ b. let q : pick (leb (nearest r chips) r.limit) DONE LOST ≡ x = rw b at e in (b, q, rw (b, q)))

  -- of chips it is one of two
  pub chips_numbers : bad chips ≡ false → ((symbol_of r chips).number ≡ DONE) ⊎ ((symbol_of r chips).number ≡ LOST)
  unfolding symbol_of
  chips_numbers b = rw b (by_pick (λ x. (x ≡ DONE) ⊎ (x ≡ LOST)) (leb (nearest r chips) r.limit) DONE LOST (λ _. inl refl) (λ _. inr refl))

  -- what is answered 0 is the nearest word
  pub of_done : (symbol_of r chips).number ≡ DONE → symbol_of r chips ≡ closeness DONE r chips
  of_done e = (number_says DONE (λ z. omega arith) e).2

  module _ (some : 0 < length r.words) where
    -- what is answered 0 is within the limit of its value's word
    pub of_symbol_lem : (symbol_of r chips).number ≡ DONE → Reads r chips (symbol_of r chips).value (symbol_of r chips).distance
    of_symbol_lem e =
        let s = number_says DONE (λ z. omega arith) e in
        let w = nearest_at r chips some in
        let v : (symbol_of r chips).value ≡ nearest_word r chips = ap (λ (x : Symbol). x.value) s.2 in
        let d : (symbol_of r chips).distance ≡ nearest r chips = ap (λ (x : Symbol). x.distance) s.2 in
        rw (v, d)
        (record { chip = s.0; known = w.0; apart = sym w.1; near = within (leb (nearest r chips) r.limit) refl s.1 })
      where
        within : (b : Bool) → leb (nearest r chips) r.limit ≡ b → pick b DONE LOST ≡ DONE → nearest r chips ≤ r.limit
        within true t x = leb-true _ _ t
        within false t x = absurd (omega (arith, x))

    -- and reads as that word
    pub read_as_lem : (symbol_of r chips).number ≡ DONE → symbol_of r chips ≡ read_as r chips (symbol_of r chips).value
    read_as_lem e =
        let s = of_done e in
        let w = nearest_at r chips some in
        let v : (symbol_of r chips).value ≡ nearest_word r chips = ap (λ (x : Symbol). x.value) s in
        s ∙ rw (v, w.1)

    -- no word within the limit: 6, with the nearest word and both distances
    pub lost_of : Stray r chips → symbol_of r chips ≡ closeness LOST r chips
    unfolding symbol_of
    lost_of s =
        let w = nearest_at r chips some in
        rw (s.chip, lt-leb (nearest r chips) r.limit (omega (arith, s.far (nearest_word r chips) w.0, w.1)))

  -- and only then
  pub of_lost : (symbol_of r chips).number ≡ LOST → Stray r chips
  of_lost e =
      let s = number_says LOST (λ z. omega arith) e in
      record { chip = s.0; far = λ v h. omega (arith, beyond (leb (nearest r chips) r.limit) refl s.1, nearest_le r chips v h) }
    where
      beyond : (b : Bool) → leb (nearest r chips) r.limit ≡ b → pick b DONE LOST ≡ LOST → r.limit < nearest r chips
      beyond true t x = absurd (omega (arith, x))
      beyond false t x = leb-false _ _ t

  module _ (S : Sound r) (l : length chips ≡ r.size) where
    -- at most one word lies within the limit
    pub only : (u v : ℕ) → u < length r.words → v < length r.words → distance chips (word r u) ≤ r.limit → distance chips (word r v) ≤ r.limit → u ≡ v
    only u v hu hv p q =
        S.apart u v hu hv
        (omega (arith, distance_tri (word r u) chips (word r v) (S.sized u hu ∙ sym l), distance_sym (word r u) chips))

    -- a word within the limit is nearer than every other
    pub nearer : (v : ℕ) → v < length r.words → distance chips (word r v) ≤ r.limit
        → (u : ℕ) → u < length r.words → (u ≡ v → ⊥) → distance chips (word r v) < distance chips (word r u)
    nearer v h n u hu ne =
        by_test (leb (distance chips (word r u)) r.limit)
        (λ t. absurd (ne (only u v hu h (leb-true _ _ t) n)))
        (λ t. omega (arith, leb-false (distance chips (word r u)) r.limit t))

    -- so it is the nearest
    pub within_nearest : (v : ℕ) → v < length r.words → distance chips (word r v) ≤ r.limit
        → (nearest_word r chips ≡ v) × (nearest r chips ≡ distance chips (word r v))
    within_nearest v h n =
        let near : (u : ℕ) → u < length r.words → distance chips (word r v) ≤ distance chips (word r u) =
        λ u hu. by_test (eqb u v)
        (λ t. rw (eqb-true u v t) (omega arith))
        (λ t. omega (arith, nearer v h n u hu (eqb-false u v t))) in
        (word_is r chips v h near (λ u b. nearer v h n u (omega (arith, b)) (λ q. omega (arith, b))), nearest_is r chips v h near)

    -- and the answer
    pub symbol_of_lem : (v d : ℕ) → Reads r chips v d → symbol_of r chips ≡ read_as r chips v
    unfolding symbol_of
    symbol_of_lem v d w =
        let n : distance chips (word r v) ≤ r.limit = omega (arith, w.apart, w.near) in
        let e = within_nearest v w.known n in
        rw (w.chip, e.0, e.1, le-leb (distance chips (word r v)) r.limit n)
