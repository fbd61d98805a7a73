-- The windows of a buffer, the symbols in them, and the reading of windows one symbol at a time.
-- For any radio. Assumes nothing.
use mathlib.Core.Path.{◌≡◌, refl, sym, ap, ◌∙◌}
use mathlib.Core.List.{List, [], ◌∷◌, ◌++◌, map}
use Prim.Native.Nat.{ℕ, zero, suc, ◌+◌, ◌-◌, ◌*◌, ◌/◌, ◌≤◌, ◌<◌}
use native.Mathlib.Nat.{add-zero, zero-add, suc-mul, le-div_iff_mul-le, div-lt_iff_lt-mul}
use native.Mathlib.Omega.{arith}
use lib.ListN.{length, get_or, take, drop, length-map, length-drop, get_or-map, drop_of_length-le}
use lib.Seq.{take-suc, drop-cons, length-take-le}
use Rattle.codes.specs.Numbers.{RUNOUT}
use Rattle.codes.specs.Radio.{Radio}
use Rattle.codes.specs.Symbol.{symbol_of}
use Rattle.codes.specs.declared.Symbol.{Symbol}
use Rattle.order.specs.Order.{Answer, refused, window, windows, whole, taking, reading_from}

module _ (r : Radio) (chips : List ℕ) where
  -- k windows are k lists
  pub windows_long : (s k : ℕ) → length (windows r chips s k) ≡ k
  unfolding windows
  windows_long s zero = refl
  windows_long s (suc k) = ap suc (windows_long (suc s) k)

  pub windows_at : (s k i : ℕ) → i < k → get_or (windows r chips s k) i [] ≡ window r chips (s + i)
  unfolding windows
  windows_at s zero i h = absurd (omega arith)
  windows_at s (suc k) zero h = rw add-zero
  windows_at s (suc k) (suc i) h =
      let e : s + suc i ≡ suc s + i = omega arith in
      rw e (windows_at (suc s) k i (omega arith))

  -- as many whole symbols as are in the buffer
  pub whole_long : length (whole r chips) ≡ length chips / r.size
  whole_long = windows_long 0 (length chips / r.size)

  -- and each is its symbol's chips
  pub whole_at_lem : (s : ℕ) → s < length (whole r chips) → get_or (whole r chips) s [] ≡ window r chips s
  whole_at_lem s h = windows_at 0 (length chips / r.size) s (omega (arith, whole_long)) ∙ ap (window r chips) (zero-add s)

  -- after s of them: one more is whole, with these chips, or there are no more
  module _ (p : 0 < r.size) (s at : ℕ) (e : at ≡ s * r.size) (u : at ≤ length chips) where
    pub window_next : r.size ≤ length chips - at → s < length (whole r chips)
    window_next l = rw whole_long ((le-div_iff_mul-le {k = r.size} {x = suc s} {y = length chips} p).1 (omega (arith, suc-mul s r.size)))

    pub window_is : r.size ≤ length chips - at → take r.size (drop at chips) ≡ get_or (whole r chips) s []
    window_is l = ap (λ (i : ℕ). take r.size (drop i chips)) e ∙ sym (whole_at_lem s (window_next l))

    pub window_out : length chips - at < r.size → length (whole r chips) ≡ s
    window_out l =
        let w : length chips / r.size < suc s = (div-lt_iff_lt-mul {k = r.size} {x = length chips} {y = suc s} p).1 (omega (arith, suc-mul s r.size)) in
        let v : s ≤ length chips / r.size = (le-div_iff_mul-le {k = r.size} {x = s} {y = length chips} p).1 (omega arith) in
        omega (arith, whole_long)

  -- each has one symbol's chips
  pub whole_sized : 0 < r.size → (s : ℕ) → s < length (whole r chips) → length (get_or (whole r chips) s []) ≡ r.size
  whole_sized p s h =
      let l : suc s * r.size ≤ length chips = (le-div_iff_mul-le {k = r.size} {x = suc s} {y = length chips} p).0 (omega (arith, whole_long)) in
      let m : r.size ≤ length (drop (s * r.size) chips) = simp length-drop (omega (arith, suc-mul s r.size)) in
      ap length (whole_at_lem s h) ∙ length-take-le r.size (drop (s * r.size) chips) m

-- the symbols of windows
abbrev pub seen : Radio → List (List ℕ) → List Symbol
seen r ws = map (symbol_of r) ws

module _ (r : Radio) (ws : List (List ℕ)) where
  -- as many symbols as windows
  pub seen_long : length (seen r ws) ≡ length ws
  seen_long = length-map ws (symbol_of r)

  pub seen_front : (s : ℕ) → s ≤ length ws → length (take s (seen r ws)) ≡ s
  seen_front s h = length-take-le s (seen r ws) (omega (arith, seen_long))

  -- one symbol more
  pub seen_next : (s : ℕ) → s < length ws → take (suc s) (seen r ws) ≡ take s (seen r ws) ++ symbol_of r (get_or ws s []) ∷ []
  seen_next s h =
      take-suc (seen r ws) s (symbol_of r []) (omega (arith, seen_long))
      ∙ ap (λ (x : Symbol). take s (seen r ws) ++ x ∷ []) (get_or-map (symbol_of r) ws s [])

  module _ (room : ℕ) where
    -- what is still to be read after s symbols
    abbrev pub rest : ℕ → Answer
    rest s = reading_from r room (take s (seen r ws)) (drop s ws)

    -- a symbol is left
    pub rest_more : (s : ℕ) → s < length ws → rest s ≡ taking r room (take s (seen r ws)) (symbol_of r (get_or ws s [])) (rest (suc s))
    unfolding reading_from
    rest_more s h = rw (drop-cons ws s [] h, ← seen_next s h)

    -- none is left
    pub rest_out : (s : ℕ) → length ws ≡ s → rest s ≡ refused RUNOUT s
    unfolding reading_from
    rest_out s e = rw (drop_of_length-le ws {i = s} (omega arith)) (ap (refused RUNOUT) (seen_front s (omega arith)))
