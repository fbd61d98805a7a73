-- The least of some values, and of keys of distance and number: the least key tells the nearest
-- word, the least key above it the next-nearest. Assumes nothing.
use Rattle.std.proofs.Common.{◌≡◌, ℕ, zero, suc, ◌+◌, ◌/◌, ◌%◌, ◌^◌, ◌<◌, ◌≤◌, eqb, ltb, min, List, [], ◌∷◌, length, get_or, set, take, map, fold, sym, ap, ◌∙◌, arith, length-take-le, ltb-false, ltb-true, eqb-true}
use Rattle.std.proofs.lemmas.Grind.{common_steps}
use Rattle.std.proofs.lemmas.List.{length-map, get_or-map, get_or-take, get_or_past}
use borrow.Author.Tests.{eqb-false}
use Rattle.codes.specs.Chips.{distance}
use Rattle.codes.specs.Radio.{Radio, word}
use Rattle.codes.specs.Symbol.{nearest, nearest_word, nearest_but, next_nearest}
use Rattle.columns.specs.Columns.{Keyed, past, least_past, near_of, near_in}
use Rattle.codes.specs.Near.{nearest_of}
use Rattle.codes.proofs.Tests.{by_test}
use Rattle.codes.proofs.Leasts.{nearest_is, word_is, but_is}

-- the least of a list and of a number to start from is none but one of them
fold_le_start : (s : ℕ) (xs : List ℕ) → fold min s xs ≤ s
fold_le_start s [] = omega arith
fold_le_start s (x ∷ xs) = omega (arith, fold_le_start (min s x) xs)

pub fold_le : (s : ℕ) (xs : List ℕ) (u : ℕ) → u < length xs → fold min s xs ≤ get_or xs u 0
fold_le s [] u h = absurd (omega arith)
fold_le s (x ∷ xs) zero h = omega (arith, fold_le_start (min s x) xs)
fold_le s (x ∷ xs) (suc u) h = fold_le (min s x) xs u (omega (arith, h))

-- where it is below the start
pub fold_at : (s : ℕ) (xs : List ℕ) → fold min s xs < s → (u : ℕ) × (u < length xs) × (get_or xs u 0 ≡ fold min s xs)
fold_at s [] h = absurd (omega arith)
fold_at s (x ∷ xs) h =
    by_test (ltb (fold min (min s x) xs) (min s x))
    (λ t. let r = fold_at (min s x) xs (ltb-true _ _ t) in (suc r.0, omega (arith, r.1), r.2))
    (λ t. (0, omega arith, omega (arith, fold_le_start (min s x) xs, ltb-false _ _ t)))

-- of sixteen keys, each less a number
module _ (b : ℕ) (keys : List ℕ) (enough : 16 ≤ length keys) where
  abbrev firsts : List ℕ
  firsts = take 16 keys

  length-firsts : length firsts ≡ 16
  length-firsts = length-take-le 16 keys enough

  past_at : (v : ℕ) → v < 16 → get_or (map (past b) firsts) v 0 ≡ past b (get_or keys v 0)
  past_at v h = get_or-map (past b) firsts v 0 0 (omega (arith, length-firsts)) ∙ ap (past b) (get_or-take 16 keys v 0 h)

  pub least_le : (v : ℕ) → v < 16 → fold min 0xFFFF (map (past b) firsts) ≤ past b (get_or keys v 0)
  least_le v h = rw (past_at v h) at (fold_le 0xFFFF (map (past b) firsts) v (rw (length-map firsts (past b), length-firsts) h))

  pub least_at : fold min 0xFFFF (map (past b) firsts) < 0xFFFF
      → (u : ℕ) × (u < 16) × (past b (get_or keys u 0) ≡ fold min 0xFFFF (map (past b) firsts))
  least_at h =
      let t = fold_at 0xFFFF (map (past b) firsts) h in
      let l = rw (length-map firsts (past b), length-firsts) at t.1 in
      (t.0, l, sym (past_at t.0 l) ∙ t.2)

-- sixteen keys of a radio's words
module _ (r : Radio) (many : length r.words ≡ 16) (xs : List ℕ) (small : (v : ℕ) → v < 16 → distance xs (word r v) ≤ 32)
    (keys : List ℕ) (K : Keyed (λ v. distance xs (word r v)) keys) where
  abbrev apart : ℕ → ℕ
  apart v = distance xs (word r v)

  abbrev key : ℕ → ℕ
  key v = get_or keys v 0

  -- a word of the radio
  known : (v : ℕ) → v < 16 → v < length r.words
  known v h = omega (arith, many)

  sixteen : (v : ℕ) → v < length r.words → v < 16
  sixteen v h = omega (arith, many)

  key_few : (v : ℕ) → v < 16 → (1 ≤ key v) × (key v < 2000)
  key_few v h = (omega (arith, K v h), omega (arith, K v h, small v h))

  -- there are as many
  enough : 16 ≤ length keys
  enough = grind (arith, K 15 (omega arith), get_or_past keys 15 0)

  -- the least of them is a word's
  abbrev m : ℕ
  m = least_past 0 keys

  abbrev all : ℕ
  all = fold min 0xFFFF (map (past 0) (take 16 keys))

  past_none : (v : ℕ) → v < 16 → past 0 (key v) ≡ key v
  past_none v h = omega (arith, (key_few v h).1)

  all_le : (v : ℕ) → v < 16 → all ≤ key v
  all_le v h = omega (arith, past_none v h, least_le 0 keys enough v h)

  m_is : m ≡ all
  m_is = omega (arith, all_le 0 (omega arith), (key_few 0 (omega arith)).1)

  m_le : (v : ℕ) → v < 16 → m ≤ key v
  m_le v h = omega (arith, m_is, all_le v h)

  lowest : (v : ℕ) × (v < 16) × (key v ≡ m)
  lowest =
      let t = least_at 0 keys enough (omega (arith, all_le 0 (omega arith), (key_few 0 (omega arith)).1)) in
      (t.0, t.1, omega (arith, past_none t.0 t.1, t.2, m_is))

  module _ (v : ℕ) (h : v < 16) (e : key v ≡ m) where
    -- no word is nearer than it, and none of a lower number as near
    near : (u : ℕ) → u < length r.words → apart v ≤ apart u
    near u l = omega (arith, K v h, K u (sixteen u l), e, m_le u (sixteen u l))

    below : (u : ℕ) → u < v → apart v < apart u
    below u l = omega (arith, K v h, K u (omega arith), e, m_le u (omega arith))

    nearest_word_lem : nearest_word r xs ≡ v
    nearest_word_lem = word_is r xs v (known v h) near below

    nearest_apart : nearest r xs ≡ apart v
    nearest_apart = nearest_is r xs v (known v h) near

    -- a key other than the least is above it, and the least wraps to the top
    other_key : (u : ℕ) → u < 16 → (u ≡ v → ⊥) → past (m + 1) (key u) + (m + 1) ≡ key u
    other_key u l n = omega (arith, n, K v h, K u l, e, (key_few u l).1, (key_few v h).1, m_le u l)

    own_key : past (m + 1) (key v) ≡ 0xFFFF
    own_key = omega (arith, e, (key_few v h).1)

    abbrev rest : ℕ
    rest = fold min 0xFFFF (map (past (m + 1)) (take 16 keys))

    rest_le : (u : ℕ) → u < 16 → (u ≡ v → ⊥) → rest + (m + 1) ≤ key u
    rest_le u l n = omega (arith, other_key u l n, least_le (m + 1) keys enough u l)

    -- there is another word
    another : (u : ℕ) × (u < 16) × (u ≡ v → ⊥)
    another = by_test (eqb v 0) (λ t. (1, omega arith, λ q. omega (arith, eqb-true v 0 t))) (λ t. (0, omega arith, λ q. eqb-false v 0 t (sym q)))

    rest_lt : rest < 0xFFFF
    rest_lt = let u = another in omega (arith, rest_le u.0 u.1 u.2, (key_few u.0 u.1).1)

    rest_at : (u : ℕ) × (u < 16) × (u ≡ v → ⊥) × (key u ≡ rest + (m + 1))
    rest_at =
        let t = least_at (m + 1) keys enough rest_lt in
        let n : t.0 ≡ v → ⊥ = λ q. omega (arith, rest_lt, t.2, own_key, ap (λ (u : ℕ). past (m + 1) (key u)) q) in
        (t.0, t.1, n, omega (arith, t.2, other_key t.0 t.1 n))

    next_is : (least_past ((m + 1) % 2 ^ 16) keys) / 32 ≡ next_nearest r xs
    next_is =
        let t = rest_at in
        let w : (m + 1) % 2 ^ 16 ≡ m + 1 = omega (arith, e, (key_few v h).1) in
        let b : next_nearest r xs ≡ apart t.0 =
        ap (nearest_but r xs) nearest_word_lem
        ∙ but_is r xs v (known v h) t.0 (known t.0 t.1) t.2
        (λ u l n. omega (arith, K t.0 t.1, K u (sixteen u l), t.1, t.3, rest_le u (sixteen u l) n)) in
        rw w (omega (arith, b, t.1, t.3, K t.0 t.1, (key_few t.0 t.1).1))

    told : near_of m (least_past ((m + 1) % 2 ^ 16) keys) ≡ nearest_of r xs
    unfolding nearest_of
    told =
        let d : m / 32 ≡ nearest r xs = omega (arith, nearest_apart, e, K v h) in
        let w : (m + 15) % 16 ≡ nearest_word r xs = omega (arith, nearest_word_lem, e, K v h) in
        rw (d, w, next_is)

  -- so they tell the nearest word and both distances
  pub keys_near : near_in keys ≡ nearest_of r xs
  keys_near = let t = lowest in told t.0 t.1 t.2

-- a turn of the loop that writes two keys, the second half's eight places on
module _ (lo hi : ℕ → ℕ) (k : List ℕ) (i x y : ℕ) (long : length k ≡ 16) (h : i < 8) (ex : x ≡ lo i) (ey : y ≡ hi i) where
  pub lower_turn : ((u : ℕ) → u < i → get_or k u 0 ≡ lo u) → (u : ℕ) → u < i + 1 → get_or (set (set k i x) (i + 8) y) u 0 ≡ lo u
  lower_turn p u l = grind (arith, common_steps)

  pub upper_turn : ((u : ℕ) → u < i → get_or k (u + 8) 0 ≡ hi u) → (u : ℕ) → u < i + 1 → get_or (set (set k i x) (i + 8) y) (u + 8) 0 ≡ hi u
  upper_turn p u l = grind (arith, common_steps)
