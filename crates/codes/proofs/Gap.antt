-- The gap of a symbol's chips, next-nearest less nearest, once for every radio: how small it can be
-- where a word is within the limit, and that it is no smaller for chips which lie between others
-- and their word. Assumes nothing.
use Rattle.std.proofs.Common.{◌≡◌, ℕ, ◌+◌, ◌-◌, ◌*◌, ◌<◌, ◌≤◌, List, length, sym, ◌∙◌, arith}
use Rattle.codes.specs.Chips.{distance}
use Rattle.codes.specs.Radio.{Radio, word, Sound}
use Rattle.codes.specs.Symbol.{nearest, nearest_but, next_nearest}
use Rattle.codes.proofs.Chips.{distance_sym, distance_tri}
use Rattle.codes.proofs.Leasts.{but_le, but_at}
use Rattle.codes.proofs.Unique.{two_words, within_nearest}

-- how much nearer word v is to chips than every other word
abbrev pub ahead : Radio → List ℕ → ℕ → ℕ
ahead r chips v = nearest_but r chips v - distance chips (word r v)

module _ (r : Radio) (S : Sound r) (v : ℕ) (h : v < length r.words) where
  -- where the word is within the limit, that is the gap
  pub ahead_is : (chips : List ℕ) → length chips ≡ r.size → distance chips (word r v) ≤ r.limit
      → next_nearest r chips - nearest r chips ≡ ahead r chips v
  ahead_is chips l n = let e = within_nearest r chips S l v h n in rw (e.0, e.1)

  -- at least the distance of the nearest other word from it less twice the limit
  pub ahead_least : (d : ℕ) → d ≤ nearest_but r (word r v) v → (chips : List ℕ) → length chips ≡ r.size → distance chips (word r v) ≤ r.limit
      → d - 2 * r.limit ≤ ahead r chips v
  ahead_least d apart chips l n =
      let t = but_at r chips v h (two_words r S) in
      omega (
        arith,
        n,
        t.3,
        apart,
        but_le r (word r v) v h t.0 t.1 t.2,
        distance_tri (word r v) chips (word r t.0) (S.sized v h ∙ sym l),
        distance_sym (word r v) chips,
      )

  -- chips that lie between xs and the word are ahead by no less
  pub ahead_between : (xs ys : List ℕ) → length xs ≡ length ys
      → distance xs (word r v) ≡ distance xs ys + distance ys (word r v) → ahead r xs v ≤ ahead r ys v
  ahead_between xs ys l e =
      let t = but_at r ys v h (two_words r S) in
      omega (arith, e, t.3, but_le r xs v h t.0 t.1 t.2, distance_tri xs ys (word r t.0) l)
