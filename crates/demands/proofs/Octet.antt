-- Octets and their raw symbols: each gives the other back, for any sound radio. Assumes nothing.
use mathlib.Core.Path.{◌≡◌, refl, sym, ap, ◌∙◌}
use mathlib.Core.List.{List, [], ◌∷◌, ◌++◌}
use Prim.Native.Nat.{ℕ, zero, suc, ◌+◌, ◌-◌, ◌*◌, ◌^◌, ◌≤◌, ◌<◌}
use native.Mathlib.Nat.{zero-add, suc-add, zero-mul, suc-mul, pow-le-pow_right, min-le_left}
use native.Mathlib.Omega.{arith}
use lib.Pow.{pow_pos}
use lib.ListN.{length, take, drop, length-take, length-drop, take-append-drop}
use lib.Seq.{take-nil, take_at, drop_at, drop-drop, length-take-le, take-take}
use Rattle.codes.specs.Radio.{Radio, Sound}
use Rattle.frame.specs.Frame.{per_octet, raw_of, raws}
use Rattle.frame.proofs.Count.{raw_long}
use Rattle.frame.proofs.Below.{Below, below_take, below_drop}
use Rattle.order.specs.Received.{value_of, octet_at, octets_from}
use Rattle.order.proofs.Raw.{octet_values}
use Rattle.demands.proofs.Digits.{value_digits, digits_value, value_below}

-- the front of a part is a part of the front
pub drop_take : (m n : ℕ) (l : List ℕ) → drop m (take (m + n) l) ≡ take n (drop m l)
drop_take zero n l = rw zero-add
drop_take (suc m) n [] = rw suc-add (sym (take-nil n))
drop_take (suc m) n (x ∷ l) = rw suc-add (drop_take m n l)

module _ (r : Radio) where
  -- octets from the next one on are octets of what comes after the first
  octets_next : (k n : ℕ) (bs : List ℕ) → octets_from r (suc k) n bs ≡ octets_from r k n (drop (per_octet r) bs)
  unfolding octets_from
  octets_next k zero bs = refl
  octets_next k (suc n) bs =
      let e : suc k * per_octet r ≡ per_octet r + k * per_octet r = omega (arith, suc-mul k (per_octet r)) in
      rw (e, drop-drop (k * per_octet r) (per_octet r) bs, octets_next (suc k) n bs)

  -- an octet is read off the symbols up to its last
  pub octet_take : (k j : ℕ) (bs : List ℕ) → suc k * per_octet r ≤ j → octet_at r k (take j bs) ≡ octet_at r k bs
  octet_take k j bs h =
      let e : j ≡ k * per_octet r + (j - k * per_octet r) = omega (arith, suc-mul k (per_octet r)) in
      let t : take (per_octet r) (drop (k * per_octet r) (take j bs)) ≡ take (per_octet r) (drop (k * per_octet r) bs) =
      ap (λ (i : ℕ). take (per_octet r) (drop (k * per_octet r) (take i bs))) e
      ∙ ap (take (per_octet r)) (drop_take (k * per_octet r) (j - k * per_octet r) bs)
      ∙ take-take (per_octet r) (j - k * per_octet r) (drop (k * per_octet r) bs) (omega (arith, suc-mul k (per_octet r))) in
      ap (value_of (2 ^ r.bits)) t

module _ (r : Radio) (S : Sound r) where
  -- an octet's raw symbols make the octet
  octet_raw : (x : ℕ) → x < 256 → value_of (2 ^ r.bits) (raw_of r x) ≡ x
  octet_raw x h = value_digits (2 ^ r.bits) (pow_pos r.bits) (per_octet r) x (rw (octet_values r S) h)

  -- and those that make an octet are its raw symbols
  raw_octet : (bs : List ℕ) → Below (2 ^ r.bits) bs → length bs ≡ per_octet r → raw_of r (value_of (2 ^ r.bits) bs) ≡ bs
  raw_octet bs p e = rw (← e) (digits_value (2 ^ r.bits) (pow_pos r.bits) bs p)

  -- what raw symbols, at most an octet's, make is below 256
  octet_below : (bs : List ℕ) → Below (2 ^ r.bits) bs → length bs ≤ per_octet r → value_of (2 ^ r.bits) bs < 256
  octet_below bs p h =
      omega (arith, value_below (2 ^ r.bits) (pow_pos r.bits) bs p, pow-le-pow_right (pow_pos r.bits) h, octet_values r S)

  -- octets of raw symbols are below 256
  pub octets_below : (k n : ℕ) (bs : List ℕ) → Below (2 ^ r.bits) bs → Below 256 (octets_from r k n bs)
  unfolding octets_from
  octets_below k zero bs p = tt
  octets_below k (suc n) bs p = (
    octet_below (take (per_octet r) (drop (k * per_octet r) bs))
        (below_take (2 ^ r.bits) (per_octet r) (drop (k * per_octet r) bs) (below_drop (2 ^ r.bits) (k * per_octet r) bs p))
        (simp length-take (min-le_left _ _)),
    octets_below (suc k) n bs p,
  )

  -- the octets of the raw symbols of octets are those octets
  pub octets_raws : (xs : List ℕ) → Below 256 xs → octets_from r 0 (length xs) (raws r xs) ≡ xs
  unfolding octets_from raws
  octets_raws [] p = refl
  octets_raws (x ∷ xs) p =
      let l = raw_long r x in
      rw (
        zero-mul,
        take_at (raw_of r x) (raws r xs) (per_octet r) l,
        octet_raw x p.0,
        octets_next r 0 (length xs) (raw_of r x ++ raws r xs),
        drop_at (raw_of r x) (raws r xs) (per_octet r) l,
        octets_raws xs p.1,
      )

  -- the raw symbols of the octets of raw symbols are those raw symbols
  pub raws_octets : (n : ℕ) (bs : List ℕ) → Below (2 ^ r.bits) bs → length bs ≡ n * per_octet r → raws r (octets_from r 0 n bs) ≡ bs
  unfolding octets_from raws
  raws_octets zero [] p e = refl
  raws_octets zero (b ∷ bs) p e = absurd (omega (arith, zero-mul (per_octet r)))
  raws_octets (suc n) bs p e =
      let l : length bs ≡ n * per_octet r + per_octet r = e ∙ suc-mul n (per_octet r) in
      let d : length (drop (per_octet r) bs) ≡ n * per_octet r = simp length-drop (omega arith) in
      rw (
        zero-mul,
        raw_octet (take (per_octet r) bs) (below_take _ (per_octet r) bs p) (length-take-le (per_octet r) bs (omega arith)),
        octets_next r 0 n bs,
        raws_octets n (drop (per_octet r) bs) (below_drop _ (per_octet r) bs p) d,
        take-append-drop,
      )
