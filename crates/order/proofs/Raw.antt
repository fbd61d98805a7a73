-- Raw symbols and octets of values that come one by one. Assumes nothing.
use mathlib.Core.Path.{◌≡◌, refl, sym, ap, ◌∙◌}
use mathlib.Core.List.{List, [], ◌∷◌, ◌++◌}
use Prim.Native.Nat.{ℕ, zero, suc, ◌+◌, ◌*◌, ◌/◌, ◌%◌, ◌^◌, ◌-◌, ◌≤◌, ◌<◌}
use native.Mathlib.Nat.{
  one-le-pow,
  pow-zero,
  pow-suc,
  pow-succ',
  zero-mul,
  suc-mul,
  mul_comm,
  mul_assoc,
  mul-add,
  div-div-eq-div-mul,
  add-mul-div_right,
  mul-div_cancel_left,
  div-eq_of_lt,
  div-one,
  mod-eq_of_lt,
  one-mul,
  mul-zero,
  mul-le-mul_right,
  div-lt_iff_lt-mul,
  eq-zero-or-pos,
}
use native.Mathlib.Omega.{arith}
use lib.ListN.{length, get_or, take, drop, length-drop, take-append-drop}
use lib.Seq.{take_all, take-append-le, drop-append-le}
use lib.Pow.{pow-add, pow_pos, pow-lt}
use mathlib.Core.Logic.{⊎_elim}
use lib.Dec.{eqb, leb}
use borrow.Author.Tests.{eqb-true, eqb-false, leb-true, leb-false}
use Rattle.codes.specs.Chips.{distance}
use Rattle.codes.specs.Radio.{Radio, Sound, word}
use Rattle.codes.proofs.Chips.{distance_le}
use Rattle.codes.proofs.Tests.{by_test}
use Rattle.frame.specs.Frame.{per_octet}
use Rattle.frame.proofs.Count.{sent_below}
use Rattle.frame.proofs.Below.{Below, below_take, below_drop}
use Rattle.order.specs.Received.{raw_after, decode, value_of, octet_at, octets_from}
use Rattle.order.specs.Taking.{shifted}

-- the last value, e before the first
abbrev pub last_of : ℕ → List ℕ → ℕ
last_of e [] = e
last_of e (v ∷ vs) = last_of v vs

pub last_snoc : (e : ℕ) (vs : List ℕ) (v : ℕ) → last_of e (vs ++ v ∷ []) ≡ v
last_snoc e [] v = refl
last_snoc e (u ∷ vs) v = last_snoc u vs v

pub last_below : (w e : ℕ) (vs : List ℕ) → e < w → Below w vs → last_of e vs < w
last_below w e [] h b = h
last_below w e (v ∷ vs) h b = last_below w v vs b.0 b.1

module _ (r : Radio) where
  pub decode_long : (e : ℕ) (vs : List ℕ) → length (decode r e vs) ≡ length vs
  unfolding decode
  decode_long e [] = refl
  decode_long e (v ∷ vs) = ap suc (decode_long v vs)

  -- one value more
  pub decode_snoc : (e : ℕ) (vs : List ℕ) (v : ℕ) → decode r e (vs ++ v ∷ []) ≡ decode r e vs ++ raw_after r (last_of e vs) v ∷ []
  unfolding decode
  decode_snoc e [] v = refl
  decode_snoc e (u ∷ vs) v = ap (λ (l : List ℕ). raw_after r e u ∷ l) (decode_snoc u vs v)

  -- an octet that is whole stays as it is
  pub octet_stays : (k : ℕ) (bs cs : List ℕ) → suc k * per_octet r ≤ length bs → octet_at r k (bs ++ cs) ≡ octet_at r k bs
  octet_stays k bs cs h =
      let l : k * per_octet r + per_octet r ≤ length bs = omega (arith, suc-mul k (per_octet r)) in
      let d : per_octet r ≤ length (drop (k * per_octet r) bs) = rw (length-drop (k * per_octet r) bs) (omega arith) in
      ap (value_of (2 ^ r.bits)) (ap (take (per_octet r)) (drop-append-le (k * per_octet r) bs cs (omega arith))
      ∙ take-append-le (per_octet r) (drop (k * per_octet r) bs) cs d)

  pub octets_long : (k n : ℕ) (bs : List ℕ) → length (octets_from r k n bs) ≡ n
  unfolding octets_from
  octets_long k zero bs = refl
  octets_long k (suc n) bs = ap suc (octets_long (suc k) n bs)

  pub octets_each : (k n : ℕ) (bs : List ℕ) (i : ℕ) → i < n → get_or (octets_from r k n bs) i 0 ≡ octet_at r (k + i) bs
  unfolding octets_from
  octets_each k zero bs i h = absurd (omega arith)
  octets_each k (suc n) bs zero h = let e : k ≡ k + 0 = omega arith in ap (λ (j : ℕ). octet_at r j bs) e
  octets_each k (suc n) bs (suc i) h =
      let e : suc k + i ≡ k + suc i = omega arith in
      octets_each (suc k) n bs i (omega arith) ∙ ap (λ (j : ℕ). octet_at r j bs) e

  -- the octet in hand after raw symbols
  abbrev pub shifts : ℕ → List ℕ → ℕ
  shifts o [] = o
  shifts o (b ∷ bs) = shifts (shifted r o b) bs

  pub shifts_append : (o : ℕ) (bs cs : List ℕ) → shifts o (bs ++ cs) ≡ shifts (shifts o bs) cs
  shifts_append o [] cs = refl
  shifts_append o (b ∷ bs) cs = shifts_append (shifted r o b) bs cs

pow_pow : (b k : ℕ) → (2 ^ b) ^ k ≡ 2 ^ (k * b)
pow_pow b zero = pow-zero (2 ^ b) ∙ sym (ap (λ (x : ℕ). 2 ^ x) (zero-mul b) ∙ pow-zero 2)
pow_pow b (suc k) =
    pow-suc (2 ^ b) k ∙ ap (λ (x : ℕ). x * 2 ^ b) (pow_pow b k) ∙ sym (pow-add 2 (k * b) b) ∙ ap (λ (x : ℕ). 2 ^ x) (sym (suc-mul k b))

module _ (r : Radio) (S : Sound r) where
  -- the symbols of an octet have 256 values together
  pub octet_values : (2 ^ r.bits) ^ per_octet r ≡ 256
  octet_values = pow_pow r.bits (per_octet r) ∙ ap (λ (x : ℕ). 2 ^ x) S.divides

  raw_below : (e v : ℕ) → v < 2 ^ r.bits → raw_after r e v < 2 ^ r.bits
  raw_below = sent_below r S

  pub decode_below : (e : ℕ) (vs : List ℕ) → Below (2 ^ r.bits) vs → Below (2 ^ r.bits) (decode r e vs)
  unfolding decode
  decode_below e [] b = tt
  decode_below e (v ∷ vs) b = (raw_below e v b.0, decode_below v vs b.1)

  pub per_positive : 0 < per_octet r
  per_positive = by_test (eqb (per_octet r) 0)
      (λ a. let z : 8 / r.bits ≡ 0 = eqb-true _ _ a in absurd (omega (arith, sym S.divides ∙ ap (λ (x : ℕ). x * r.bits) z, zero-mul r.bits)))
      (λ a. let n = eqb-false (per_octet r) 0 a in omega arith)

  power_positive : (k : ℕ) → 0 < (2 ^ r.bits) ^ k
  power_positive k = one-le-pow k (2 ^ r.bits) (pow_pos r.bits)

  -- the weight of a raw symbol that enters at the top of an octet
  weight : (m : ℕ) → suc m ≡ per_octet r → (256 ≡ 2 ^ r.bits * (2 ^ r.bits) ^ m) × (256 / 2 ^ r.bits ≡ (2 ^ r.bits) ^ m)
  weight m e =
      let t : 256 ≡ 2 ^ r.bits * (2 ^ r.bits) ^ m = sym octet_values ∙ ap (λ (x : ℕ). (2 ^ r.bits) ^ x) (sym e) ∙ pow-succ' (2 ^ r.bits) m in
      (t, ap (λ (x : ℕ). x / 2 ^ r.bits) t ∙ mul-div_cancel_left ((2 ^ r.bits) ^ m) (pow_pos r.bits))

  -- a raw symbol leaves the octet in hand an octet
  shifted_below : (o b : ℕ) → b < 2 ^ r.bits → shifted r o b < 256
  shifted_below o b h =
      let m : suc (per_octet r - 1) ≡ per_octet r = omega (arith, per_positive) in
      let w = (2 ^ r.bits) ^ (per_octet r - 1) in
      let t = weight (per_octet r - 1) m in
      let d : o % 256 / 2 ^ r.bits < w =
      (div-lt_iff_lt-mul {k = 2 ^ r.bits} {x = o % 256} {y = w} (pow_pos r.bits)).1 (omega (arith, t.0, mul_comm w (2 ^ r.bits))) in
      rw t.1 (omega (arith, t.0, suc-mul b w, mul-le-mul_right w h))

  -- k raw symbols, with j still to come: what was in hand has moved down by k, and they stand
  -- above it
  shifts_value : (cs : List ℕ) (o j : ℕ) → o < 256 → length cs + j ≡ per_octet r → Below (2 ^ r.bits) cs
      → shifts r o cs ≡ o / (2 ^ r.bits) ^ length cs + (2 ^ r.bits) ^ j * value_of (2 ^ r.bits) cs
  unfolding value_of
  shifts_value [] o j h e b = rw (pow-zero (2 ^ r.bits), div-one, mul-zero) (omega arith)
  shifts_value (c ∷ cs) o j h e b =
      let B = 2 ^ r.bits in
      let k = length cs in
      let m : suc (j + k) ≡ per_octet r = omega arith in
      let w : 256 / B ≡ B ^ j * B ^ k = (weight (j + k) m).1 ∙ pow-add B j k in
      let s : shifted r o c ≡ o / B + c * B ^ j * B ^ k = rw (mod-eq_of_lt h, w, mul_assoc c (B ^ j) (B ^ k)) in
      let d : shifted r o c / B ^ k ≡ o / B ^ suc k + c * B ^ j =
      ap (λ (x : ℕ). x / B ^ k) s ∙ add-mul-div_right (o / B) (c * B ^ j) (power_positive k)
      ∙ ap (λ (x : ℕ). x + c * B ^ j) (div-div-eq-div-mul o B (B ^ k) ∙ ap (λ (x : ℕ). o / x) (sym (pow-succ' B k))) in
      let t : B ^ suc j * value_of B cs ≡ B ^ j * (B * value_of B cs) = rw (pow-suc B j, mul_assoc (B ^ j) B (value_of B cs)) in
      shifts_value cs (shifted r o c) (suc j) (shifted_below o c b.0) (omega arith) b.1
      ∙ rw (d, t, mul-add (B ^ j) c (B * value_of B cs)) (omega (arith, mul_comm c (B ^ j)))

  -- after the symbols of a whole octet it is that octet
  shifts_octet : (cs : List ℕ) (o : ℕ) → o < 256 → length cs ≡ per_octet r → Below (2 ^ r.bits) cs → shifts r o cs ≡ value_of (2 ^ r.bits) cs
  shifts_octet cs o h e b =
      let p : (2 ^ r.bits) ^ length cs ≡ 256 = ap (λ (x : ℕ). (2 ^ r.bits) ^ x) e ∙ octet_values in
      shifts_value cs o 0 h (omega arith) b
      ∙ rw (p, pow-zero (2 ^ r.bits), one-mul) (omega (arith, div-eq_of_lt h))

  shifts_below : (cs : List ℕ) (o : ℕ) → o < 256 → Below (2 ^ r.bits) cs → shifts r o cs < 256
  shifts_below [] o h b = h
  shifts_below (c ∷ cs) o h b = shifts_below cs (shifted r o c) (shifted_below o c b.0) b.1

  -- of raw symbols that are whole octets, it is the last one
  pub last_octet : (bs : List ℕ) (k : ℕ) → Below (2 ^ r.bits) bs → length bs ≡ suc k * per_octet r → (shifts r 0 bs ≡ octet_at r k bs) × (octet_at r k bs < 256)
  last_octet bs k b e =
      let q = k * per_octet r in
      let l : length (drop q bs) ≡ per_octet r = length-drop q bs ∙ omega (arith, suc-mul k (per_octet r)) in
      let two : take q bs ++ drop q bs ≡ bs = take-append-drop q bs in
      let o = shifts r 0 (take q bs) in
      let h : o < 256 = shifts_below (take q bs) 0 (omega arith) (below_take (2 ^ r.bits) q bs b) in
      let c = below_drop (2 ^ r.bits) q bs b in
      let t : take (per_octet r) (drop q bs) ≡ drop q bs = take_all (per_octet r) (drop q bs) (omega arith) in
      let v : shifts r 0 bs ≡ octet_at r k bs = ap (shifts r 0) (sym two) ∙ shifts_append r 0 (take q bs) (drop q bs)
      ∙ shifts_octet (drop q bs) o h l c ∙ ap (value_of (2 ^ r.bits)) (sym t) in
      (v, rw (← v) (shifts_below bs 0 (omega arith) b))

  -- a symbol has a bit
  pub bits_pos : 0 < r.bits
  bits_pos =
      ⊎_elim
      (λ (e : r.bits ≡ 0). absurd (omega (arith, S.divides, ap (λ (x : ℕ). 8 / r.bits * x) e, mul-zero (8 / r.bits))))
      (λ (h : 0 < r.bits). h)
      (eq-zero-or-pos r.bits)

  -- a symbol has a chip
  pub size_pos : 0 < r.size
  size_pos =
      let two : 1 < length r.words = rw S.many (pow-lt {i = 0} {j = r.bits} bits_pos) in
      by_test (leb (distance (word r 0) (word r 1)) (2 * r.limit))
      (λ t. absurd (omega (arith, S.apart 0 1 (omega arith) two (leb-true _ _ t))))
      (λ t. omega (arith, leb-false (distance (word r 0) (word r 1)) (2 * r.limit) t, distance_le (word r 0) (word r 1), S.sized 0 (omega arith)))
