-- Laws of the least of a list: of the values of a function over the list's elements, and over all
-- of them but one. Then of a radio's words: what is nearest to chips, and what is next-nearest.
-- Assumes nothing.
use Rattle.std.proofs.Common.{◌≡◌, ℕ, zero, suc, ◌+◌, ◌-◌, ◌<◌, ◌≤◌, Bool, true, eqb, ltb, List, [], ◌∷◌, ◌++◌, map, length, get_or, sym, refl, ap, ◌∙◌, le_antisymm, arith, length-append, length-drop, length-take, ltb-false, ltb-true, le-ltb, lt-ltb, eq-eqb, eqb-true}
use borrow.Author.Tests.{eqb-false}
use Rattle.codes.specs.Chips.{pick, distance}
use Rattle.codes.specs.Radio.{Radio, word}
use Rattle.codes.specs.Symbol.{lesser, least, first, without, nearest, nearest_word, nearest_but}
use Rattle.codes.proofs.Tests.{by_test}
use Rattle.codes.proofs.First.{first_true, first_upto}

-- the first that passes a test
pub first_is : (p : ℕ → Bool) (k v : ℕ) → v < k → p v ≡ true → ((u : ℕ) → u < k → p u ≡ true → v ≤ u) → first p 0 k ≡ v
first_is p k v h t l =
    let w = first_upto p 0 k v (omega arith) (omega arith) t in
    le_antisymm w (l (first p 0 k) (omega (arith, w)) (first_true p 0 k (omega (arith, w))))

-- an element of a list without element v is one of the list: those from v on are one place later
module _ {A : Type 0} (d : A) where
  abbrev pub past : ℕ → ℕ → ℕ
  past v i = pick (ltb i v) i (suc i)

  past_suc : (v i : ℕ) → past (suc v) (suc i) ≡ suc (past v i)
  past_suc v i =
      by_test (ltb i v)
      (λ t. rw (t, lt-ltb (suc i) (suc v) (omega (arith, ltb-true i v t))))
      (λ t. rw (t, le-ltb (suc i) (suc v) (omega (arith, ltb-false i v t))))

  without_at : (v : ℕ) (xs : List A) (i : ℕ) → get_or (without v xs) i d ≡ get_or xs (past v i) d
  without_at zero [] i = refl
  without_at zero (x ∷ xs) i = rw (le-ltb i 0 (omega arith))
  without_at (suc v) [] i = refl
  without_at (suc v) (x ∷ xs) zero = rw (lt-ltb 0 (suc v) (omega arith))
  without_at (suc v) (x ∷ xs) (suc i) = rw (past_suc v i) (without_at v xs i)

  without_long : (v : ℕ) (xs : List A) → v < length xs → length (without v xs) + 1 ≡ length xs
  without_long v xs h = simp (length-append, length-take, length-drop) (omega arith)

-- the lesser of two is neither's more, and whatever is neither's more is not more than it
lesser_left : (a b : ℕ) → lesser a b ≤ a
lesser_left a b = by_test (ltb a b) (λ t. rw t (omega arith)) (λ t. rw t (ltb-false a b t))

lesser_right : (a b : ℕ) → lesser a b ≤ b
lesser_right a b = by_test (ltb a b) (λ t. rw t (omega (arith, ltb-true a b t))) (λ t. rw t (omega arith))

lesser_most : (a b c : ℕ) → c ≤ a → c ≤ b → c ≤ lesser a b
lesser_most a b c h j = by_test (ltb a b) (λ t. rw t h) (λ t. rw t j)

lesser_swap : (a b : ℕ) → lesser a b ≡ lesser b a
lesser_swap a b =
    le_antisymm (lesser_most b a (lesser a b) (lesser_right a b) (lesser_left a b)) (lesser_most a b (lesser b a) (lesser_right b a) (lesser_left b a))

lesser_three : (a b c : ℕ) → lesser a (lesser b c) ≤ lesser b (lesser a c)
lesser_three a b c =
    let x = lesser a (lesser b c) in
    let y = lesser_right a (lesser b c) in
    lesser_most b (lesser a c) x (omega (arith, y, lesser_left b c))
    (lesser_most a c x (lesser_left a (lesser b c)) (omega (arith, y, lesser_right b c)))

-- the least with one number more
pub least_snoc : (xs : List ℕ) (y : ℕ) → 0 < length xs → least (xs ++ y ∷ []) ≡ lesser y (least xs)
unfolding least
least_snoc [] y h = absurd (omega arith)
least_snoc (x ∷ []) y h = lesser_swap x y
least_snoc (x ∷ z ∷ xs) y h =
    ap (lesser x) (least_snoc (z ∷ xs) y (omega arith))
    ∙ le_antisymm (lesser_three x y (least (z ∷ xs))) (lesser_three y x (least (z ∷ xs)))

-- the values of f over a list
module _ {A : Type 0} (f : A → ℕ) (d : A) where
  -- none is less than the least
  pub least_le : (xs : List A) (i : ℕ) → i < length xs → least (map f xs) ≤ f (get_or xs i d)
  unfolding least
  least_le [] i h = absurd (omega arith)
  least_le (x ∷ []) zero h = omega arith
  least_le (x ∷ []) (suc i) h = absurd (omega arith)
  least_le (x ∷ y ∷ ys) i h =
      by_test (ltb (f x) (least (map f (y ∷ ys))))
      (λ t. rw t (go i h (f x) (omega arith) (λ j l. omega (arith, ltb-true (f x) _ t, least_le (y ∷ ys) j l))))
      (λ t. rw t (go i h (least (map f (y ∷ ys))) (ltb-false (f x) _ t) (least_le (y ∷ ys))))
    where
      go : (i : ℕ) → i < length (x ∷ y ∷ ys) → (n : ℕ) → n ≤ f x → ((j : ℕ) → j < length (y ∷ ys) → n ≤ f (get_or (y ∷ ys) j d))
          → n ≤ f (get_or (x ∷ y ∷ ys) i d)
      go zero h n l r = l
      go (suc i) h n l r = r i (omega arith)

  -- and it is one of them, where there are any
  pub least_at : (xs : List A) → 0 < length xs → (i : ℕ) × (i < length xs) × (f (get_or xs i d) ≡ least (map f xs))
  unfolding least
  least_at [] h = absurd (omega arith)
  least_at (x ∷ []) h = (0, omega arith, refl)
  least_at (x ∷ y ∷ ys) h =
      by_test (ltb (f x) (least (map f (y ∷ ys))))
      (λ t. (0, omega arith, rw t))
      (λ t. let w = least_at (y ∷ ys) (omega arith) in (suc w.0, omega (arith, w.1), rw t w.2))

  -- so one of them that none is less than is the least
  pub least_is : (xs : List A) (i : ℕ) → i < length xs → ((j : ℕ) → j < length xs → f (get_or xs i d) ≤ f (get_or xs j d)) → least (map f xs) ≡ f (get_or xs i d)
  least_is xs i h l =
      let w = least_at xs (omega arith) in
      omega (arith, least_le xs i h, w.2, l w.0 w.1)

  -- of all but element v
  module _ (xs : List A) (v : ℕ) (h : v < length xs) where
    pub other_le : (u : ℕ) → u < length xs → (u ≡ v → ⊥) → least (map f (without v xs)) ≤ f (get_or xs u d)
    other_le u l n =
        by_test (ltb u v)
        (λ t.
        let e : get_or (without v xs) u d ≡ get_or xs u d = without_at d v xs u ∙ rw t in
        let b = ltb-true u v t in
        rw (← e) (least_le (without v xs) u (omega (arith, b, without_long d v xs h))))
        (λ t.
        let b = ltb-false u v t in
        let s : suc (u - 1) ≡ u = omega (arith, n) in
        let e : get_or (without v xs) (u - 1) d ≡ get_or xs u d = without_at d v xs (u - 1) ∙ rw (le-ltb (u - 1) v (omega (arith, n)), s) in
        rw (← e) (least_le (without v xs) (u - 1) (omega (arith, n, without_long d v xs h))))

    pub other_at : 1 < length xs → (u : ℕ) × (u < length xs) × (u ≡ v → ⊥) × (f (get_or xs u d) ≡ least (map f (without v xs)))
    other_at two =
        let w = least_at (without v xs) (omega (arith, without_long d v xs h)) in
        let e = without_at d v xs w.0 in
        by_test (ltb w.0 v)
        (λ t. let b = ltb-true w.0 v t in (w.0, omega arith, (λ q. omega (arith, b)), ap f (sym (rw t at e)) ∙ w.2))
        (λ t. let b = ltb-false w.0 v t in
        (suc w.0, omega (arith, w.1, without_long d v xs h), (λ q. omega (arith, b)), ap f (sym (rw t at e)) ∙ w.2))

    pub other_is : (u : ℕ) → u < length xs → (u ≡ v → ⊥)
        → ((w : ℕ) → w < length xs → (w ≡ v → ⊥) → f (get_or xs u d) ≤ f (get_or xs w d)) → least (map f (without v xs)) ≡ f (get_or xs u d)
    other_is u l n m =
        let w = other_at (omega (arith, n)) in
        omega (arith, other_le u l n, w.3, m w.0 w.1 w.2)

-- the words of a radio
module _ (r : Radio) (xs : List ℕ) where
  -- no word is nearer than the nearest
  pub nearest_le : (v : ℕ) → v < length r.words → nearest r xs ≤ distance xs (word r v)
  unfolding nearest
  nearest_le = least_le (distance xs) [] r.words

  -- which is a word's, the first of those that are so near
  pub nearest_at : 0 < length r.words → (nearest_word r xs < length r.words) × (distance xs (word r (nearest_word r xs)) ≡ nearest r xs)
  unfolding nearest nearest_word
  nearest_at some =
      let p : ℕ → Bool = λ v. eqb (distance xs (word r v)) (nearest r xs) in
      let w = least_at (distance xs) [] r.words some in
      let u = first_upto p 0 (length r.words) w.0 (omega arith) (omega (arith, w.1)) (eq-eqb _ _ w.2) in
      let l : first p 0 (length r.words) < length r.words = omega (arith, u, w.1) in
      (l, eqb-true _ _ (first_true p 0 (length r.words) (omega (arith, l))))

  -- and no lower number's is so near
  pub nearest_first : (u : ℕ) → u < nearest_word r xs → u < length r.words → nearest r xs < distance xs (word r u)
  unfolding nearest_word
  nearest_first u l h =
      let p : ℕ → Bool = λ v. eqb (distance xs (word r v)) (nearest r xs) in
      by_test (eqb (distance xs (word r u)) (nearest r xs))
      (λ t. absurd (omega (arith, l, first_upto p 0 (length r.words) u (omega arith) (omega arith) t)))
      (λ t. omega (arith, eqb-false (distance xs (word r u)) (nearest r xs) t, nearest_le u h))

  -- a word that none is nearer than, and none of a lower number as near as
  module _ (v : ℕ) (h : v < length r.words) (near : (u : ℕ) → u < length r.words → distance xs (word r v) ≤ distance xs (word r u)) where
    pub nearest_is : nearest r xs ≡ distance xs (word r v)
    unfolding nearest
    nearest_is = least_is (distance xs) [] r.words v h near

    pub word_is : ((u : ℕ) → u < v → distance xs (word r v) < distance xs (word r u)) → nearest_word r xs ≡ v
    unfolding nearest_word
    word_is below =
        first_is (λ u. eqb (distance xs (word r u)) (nearest r xs)) (length r.words) v h (eq-eqb _ _ (sym nearest_is))
        (λ u l t. by_test (ltb u v)
        (λ b. absurd (omega (arith, below u (ltb-true u v b), eqb-true (distance xs (word r u)) (nearest r xs) t, nearest_is)))
        (λ b. ltb-false u v b))

  -- the words but one
  module _ (v : ℕ) (h : v < length r.words) where
    pub but_le : (u : ℕ) → u < length r.words → (u ≡ v → ⊥) → nearest_but r xs v ≤ distance xs (word r u)
    unfolding nearest_but
    but_le = other_le (distance xs) [] r.words v h

    pub but_at : 1 < length r.words → (u : ℕ) × (u < length r.words) × (u ≡ v → ⊥) × (distance xs (word r u) ≡ nearest_but r xs v)
    unfolding nearest_but
    but_at = other_at (distance xs) [] r.words v h

    pub but_is : (u : ℕ) → u < length r.words → (u ≡ v → ⊥)
        → ((w : ℕ) → w < length r.words → (w ≡ v → ⊥) → distance xs (word r u) ≤ distance xs (word r w)) → nearest_but r xs v ≡ distance xs (word r u)
    unfolding nearest_but
    but_is = other_is (distance xs) [] r.words v h
