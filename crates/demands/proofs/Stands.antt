-- Windows that begin with given symbols, each within the limit, and the values that are then read.
-- For any radio. Assumes nothing.
use mathlib.Core.Path.{◌≡◌, refl, sym, ap, ◌∙◌}
use mathlib.Core.List.{List, [], ◌∷◌, map}
use Prim.Native.Nat.{ℕ, zero, suc, ◌*◌, ◌≤◌, ◌<◌}
use native.Mathlib.Omega.{arith}
use lib.ListN.{length, get_or, take}
use lib.Seq.{ext_get_or, get_or-take, take-take}
use Rattle.codes.specs.Radio.{Radio}
use Rattle.codes.specs.Symbol.{symbol_of}
use Rattle.codes.specs.declared.Symbol.{Symbol}
use Rattle.codes.proofs.Unique.{read_as}
use Rattle.frame.specs.Frame.{per_octet}
use Rattle.order.specs.Received.{chain_start, polarity_of, received, octet_at}
use Rattle.order.specs.Order.{values, repaired}
use Rattle.order.proofs.Windows.{seen, seen_front}
use Rattle.order.proofs.Carried as carried
use Rattle.demands.proofs.Back.{received_take}
use Rattle.demands.proofs.Octet.{octet_take}

-- the windows begin with the symbols vs, each read as its word; count chips are repaired in all
pub record Stands (r : Radio) (ws : List (List ℕ)) (vs : List ℕ) (count : ℕ) : Type 0 where
  pub enough : length vs ≤ length ws
  pub stands : (j : ℕ) → j < length vs → symbol_of r (get_or ws j []) ≡ read_as r (get_or ws j []) (get_or vs j 0)
  pub total : count ≡ repaired (take (length vs) (seen r ws))

map_at : {A B : Type 0} (f : A → B) (l : List A) (j : ℕ) (d : A) (e : B) → j < length l → get_or (map f l) j e ≡ f (get_or l j d)
map_at f [] j d e h = absurd (omega arith)
map_at f (x ∷ l) zero d e h = refl
map_at f (x ∷ l) (suc j) d e h = map_at f l j d e (omega arith)

pub take_map : {A B : Type 0} (f : A → B) (j : ℕ) (l : List A) → take j (map f l) ≡ map f (take j l)
take_map f zero l = refl
take_map f (suc j) [] = refl
take_map {B = B} f (suc j) (x ∷ l) = ap (λ (m : List B). f x ∷ m) (take_map f j l)

module _ (r : Radio) (ws : List (List ℕ)) where
  -- each is its window's
  pub seen_at : (j : ℕ) (d : Symbol) → j < length ws → get_or (seen r ws) j d ≡ symbol_of r (get_or ws j [])
  seen_at j d h = map_at (symbol_of r) ws j [] d h

  -- as many values as windows looked at
  pub values_long : (k : ℕ) → k ≤ length ws → length (values (take k (seen r ws))) ≡ k
  values_long k h = carried.values_long (take k (seen r ws)) ∙ seen_front r ws k h

  -- each is its symbol's
  pub values_at : (k j : ℕ) → k ≤ length ws → j < k → get_or (values (take k (seen r ws))) j 0 ≡ (symbol_of r (get_or ws j [])).value
  values_at k j h l =
      map_at (λ (x : Symbol). x.value) (take k (seen r ws)) j (symbol_of r []) 0 (omega (arith, seen_front r ws k h))
      ∙ ap (λ (x : Symbol). x.value) (get_or-take k (seen r ws) j (symbol_of r []) l ∙ seen_at j (symbol_of r []) (omega arith))

  -- the values of fewer windows are the first of those of more
  pub values_take : (j k : ℕ) → j ≤ k → values (take j (seen r ws)) ≡ take j (values (take k (seen r ws)))
  values_take j k h =
      sym (take_map (λ (x : Symbol). x.value) j (take k (seen r ws)) ∙ ap values (take-take j k (seen r ws) h))

  -- and an octet of the raw symbols of all windows is read off those up to its last
  pub octet_front : (k n : ℕ) → suc k * per_octet r ≤ n
      → octet_at r k (received r (values (take n (seen r ws)))) ≡ octet_at r k (received r (values (seen r ws)))
  octet_front k n h =
      ap (λ (vs : List ℕ). octet_at r k (received r vs)) (sym (take_map (λ (x : Symbol). x.value) n (seen r ws)))
      ∙ ap (octet_at r k) (sym (received_take r n (values (seen r ws))))
      ∙ octet_take r k n (received r (values (seen r ws))) h

  -- as is the polarity off the first
  pub polarity_front : (n : ℕ) → 0 < n → polarity_of r (values (take n (seen r ws))) ≡ polarity_of r (values (seen r ws))
  polarity_front n h =
      ap (polarity_of r) (sym (take_map (λ (x : Symbol). x.value) n (seen r ws)))
      ∙ ap (chain_start r) (get_or-take n (values (seen r ws)) 0 0 h)

  -- where they stand in the windows the values read are theirs
  module _ (vs : List ℕ) (count : ℕ) (T : Stands r ws vs count) where
    pub values_are : values (take (length vs) (seen r ws)) ≡ vs
    values_are =
        let n = values_long (length vs) T.enough in
        ext_get_or 0 (values (take (length vs) (seen r ws))) vs n
        (λ j h. let l : j < length vs = omega arith in values_at (length vs) j T.enough l ∙ ap (λ (x : Symbol). x.value) (T.stands j l))

    -- and so are the raw symbols up to each
    pub raws_are : (j : ℕ) → j ≤ length vs → received r (values (take j (seen r ws))) ≡ take j (received r vs)
    raws_are j h =
        ap (received r) (values_take j (length vs) h ∙ ap (take j) values_are) ∙ sym (received_take r j vs)
