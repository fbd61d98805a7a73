-- How far each of the writer's loops has come, over plain values: what it has written, and behind
-- that what is still to be written, are what it set out to write. Each loop has a law for its turn
-- and its end, over any sound radio. Assumes nothing.
use mathlib.Core.Path.{◌≡◌, refl, sym, ap, ◌∙◌}
use mathlib.Core.List.{List, [], ◌∷◌, ◌++◌, append_assoc}
use Prim.Native.Nat.{ℕ, suc, ◌+◌, ◌-◌, ◌*◌, ◌/◌, ◌%◌, ◌^◌, ◌<◌}
use native.Mathlib.Nat.{mod-lt}
use native.Mathlib.Numerals.{add-one}
use native.Mathlib.Omega.{arith}
use lib.ListN.{length, take, drop, get_or}
use lib.Pow.{pow_pos}
use lib.Seq.{drop-cons, drop-length}
use borrow.Rule.Slice.PartMut.{put_mid}
use Rattle.std.proofs.lemmas.List.{append-nil, take_all}
use Rattle.std.proofs.lemmas.Slice.{take-put_mid}
use Rattle.codes.specs.Radio.{Radio, word, Sound}
use Rattle.codes.proofs.Rows.{row_in, row_next}
use Rattle.frame.specs.Frame.{per_octet, digits, raw_of, raws, sent, encode, chips_of}
use Rattle.frame.specs.Putting.{last_sent, octet_chips}
use Rattle.frame.proofs.Count.{raw_below, sent_below, word_long, octet_long}
use Rattle.frame.proofs.Below.{Below}

module _ (r : Radio) where
  pub encode_append : (last : ℕ) (xs ys : List ℕ) → encode r last (xs ++ ys) ≡ encode r last xs ++ encode r (last_sent r last xs) ys
  unfolding encode last_sent
  encode_append last [] ys = refl
  encode_append last (x ∷ xs) ys = ap (λ (l : List ℕ). sent r last x ∷ l) (encode_append (sent r last x) xs ys)

  pub chips_append : (us vs : List ℕ) → chips_of r (us ++ vs) ≡ chips_of r us ++ chips_of r vs
  unfolding chips_of
  chips_append [] vs = refl
  chips_append (u ∷ us) vs = rw (chips_append us vs) (sym (append_assoc (word r u) (chips_of r us) (chips_of r vs)))

  last_below : Sound r → (last : ℕ) (bs : List ℕ) → last < 2 ^ r.bits → Below (2 ^ r.bits) bs → last_sent r last bs < 2 ^ r.bits
  unfolding last_sent
  last_below S last [] h p = h
  last_below S last (b ∷ bs) h p = last_below S (sent r last b) bs (sent_below r S last b p.0) p.1

-- the octet's loop at symbol i, after the symbol v: digits of `rest` are still to go out
pub record OctetLeft (r : Radio) (last octet : ℕ) (out : List ℕ) (v rest i : ℕ) : Type 0 where
  pub value : v < 2 ^ r.bits
  pub tail_last : last_sent r last (raw_of r octet) ≡ last_sent r v (digits (per_octet r - i) (2 ^ r.bits) rest)
  pub tail : chips_of r (encode r last (raw_of r octet)) ≡ take (i * r.size) out ++ chips_of r (encode r v (digits (per_octet r - i) (2 ^ r.bits) rest))

module _ (r : Radio) (last octet : ℕ) (out : List ℕ) where
  module _ (v rest i : ℕ) (L : OctetLeft r last octet out v rest i) (room : length out ≡ octet_chips r) where
    pub octet_ends : i ≡ per_octet r → (v ≡ last_sent r last (raw_of r octet)) × (out ≡ chips_of r (encode r last (raw_of r octet)))
    unfolding digits last_sent encode chips_of
    octet_ends h =
        let z : per_octet r - i ≡ 0 = omega arith in
        let all : take (i * r.size) out ≡ out = take_all (i * r.size) out (rw h (omega (arith, room))) in
        (sym (L.tail_last ∙ rw z), sym (L.tail ∙ rw (z, all) (append-nil out)))

    module _ (h : i < per_octet r) (S : Sound r) (v' rest' : ℕ) (e : v' ≡ sent r v (rest % 2 ^ r.bits)) (q : rest' ≡ rest / 2 ^ r.bits) where
      pub octet_value : v' < 2 ^ r.bits
      octet_value = rw e (sent_below r S v (rest % 2 ^ r.bits) (mod-lt rest (pow_pos r.bits)))

      next_digit : digits (per_octet r - i) (2 ^ r.bits) rest ≡ rest % 2 ^ r.bits ∷ digits (per_octet r - (i + 1)) (2 ^ r.bits) rest'
      unfolding digits
      next_digit = let s : per_octet r - i ≡ suc (per_octet r - (i + 1)) = omega arith in rw (s, q)

      pub octet_turns : (a k : ℕ) (part : List ℕ) → a ≡ i * r.size → part ≡ word r v' → OctetLeft r last octet (put_mid a k out part) v' rest' (i + 1)
      unfolding last_sent encode chips_of
      octet_turns a k part z w =
          let long : length part ≡ r.size = ap length w ∙ word_long r S v' octet_value in
          let n : (i + 1) * r.size ≡ a + length part = omega (arith, row_next i r.size) in
          let front = take-put_mid a k out part _ n (omega (arith, row_in i (per_octet r) r.size h)) in
          record {
            value = octet_value;
            tail_last = L.tail_last ∙ rw (next_digit, e);
            tail = L.tail ∙ rw (next_digit, ← e, front, w, z) (simp append_assoc);
          }

-- the frame's loop at octet j, after the symbol `last`: the octets from j on are still to go out
pub record FrameLeft (r : Radio) (xs out : List ℕ) (last j : ℕ) : Type 0 where
  pub value : last < 2 ^ r.bits
  pub tail : chips_of r (encode r 0 (raws r xs)) ≡ take (j * octet_chips r) out ++ chips_of r (encode r last (raws r (drop j xs)))

module _ (r : Radio) (xs out : List ℕ) where
  module _ (last j : ℕ) (L : FrameLeft r xs out last j) (room : length out ≡ length xs * octet_chips r) where
    pub frame_ends : j ≡ length xs → out ≡ chips_of r (encode r 0 (raws r xs))
    unfolding raws encode chips_of
    frame_ends h =
        let all : take (j * octet_chips r) out ≡ out = take_all (j * octet_chips r) out (rw h (omega (arith, room))) in
        sym (L.tail ∙ rw (all, h, drop-length xs) (append-nil out))

    pub frame_turns : j < length xs → Sound r → (last' a k : ℕ) (part : List ℕ) → last' ≡ last_sent r last (raw_of r (get_or xs j 0))
        → a ≡ j * octet_chips r → part ≡ chips_of r (encode r last (raw_of r (get_or xs j 0))) → FrameLeft r xs (put_mid a k out part) last' (j + 1)
    unfolding raws
    frame_turns h S last' a k part e z w =
        let long : length part ≡ octet_chips r = ap length w ∙ octet_long r S last (get_or xs j 0) in
        let n : (j + 1) * octet_chips r ≡ a + length part = omega (arith, row_next j (octet_chips r)) in
        let front = take-put_mid a k out part _ n (omega (arith, row_in j (length xs) (octet_chips r) h)) in
        record {
          value = rw e (last_below r S last (raw_of r (get_or xs j 0)) L.value (raw_below r (get_or xs j 0)));
          tail = L.tail ∙ rw (front, drop-cons xs j 0 h, encode_append, chips_append, add-one, w, e, z) (simp append_assoc);
        }
