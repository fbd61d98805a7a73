-- Raw symbols and the symbols sent for them: each gives the other back, for any sound radio.
-- Assumes nothing.
use mathlib.Core.Path.{◌≡◌, refl, ap}
use mathlib.Core.List.{List, [], ◌∷◌}
use Prim.Native.Nat.{ℕ, zero, suc, ◌^◌, ◌<◌}
use native.Mathlib.Omega.{arith}
use lib.ListN.{take}
use Rattle.codes.specs.Radio.{Radio, Sound}
use Rattle.codes.proofs.Tests.{by_test}
use Rattle.frame.specs.Frame.{sent, encode}
use Rattle.frame.proofs.Below.{Below}
use Rattle.order.specs.Received.{raw_after, decode, chain_start, received}

module _ (r : Radio) where
  -- the first raw symbols are those of the first values
  pub decode_take : (last k : ℕ) (vs : List ℕ) → take k (decode r last vs) ≡ decode r last (take k vs)
  unfolding decode
  decode_take last zero vs = refl
  decode_take last (suc k) [] = refl
  decode_take last (suc k) (v ∷ vs) = ap (λ (l : List ℕ). raw_after r last v ∷ l) (decode_take v k vs)

  pub received_take : (k : ℕ) (vs : List ℕ) → take k (received r vs) ≡ received r (take k vs)
  unfolding decode
  received_take zero vs = refl
  received_take (suc k) [] = refl
  received_take (suc k) (v ∷ vs) = decode_take (chain_start r v) (suc k) (v ∷ vs)

  module _ (S : Sound r) where
    raw_sent : (last b : ℕ) → b < 2 ^ r.bits → raw_after r last (sent r last b) ≡ b
    raw_sent last b h = by_test r.chained (λ a. let l : b < 2 = rw (S.single a) at h in rw a (omega arith)) (λ a. rw a)

    sent_raw : (last v : ℕ) → v < 2 ^ r.bits → sent r last (raw_after r last v) ≡ v
    sent_raw = raw_sent

    -- the symbols sent for raw ones are taken back to them
    pub decode_encode : (last : ℕ) (bs : List ℕ) → Below (2 ^ r.bits) bs → decode r last (encode r last bs) ≡ bs
    unfolding decode encode
    decode_encode last [] p = refl
    decode_encode last (b ∷ bs) p = rw (raw_sent last b p.0, decode_encode (sent r last b) bs p.1)

    -- what is sent for the raw symbols of values is the values
    pub encode_decode : (last : ℕ) (vs : List ℕ) → Below (2 ^ r.bits) vs → encode r last (decode r last vs) ≡ vs
    unfolding decode encode
    encode_decode last [] p = refl
    encode_decode last (v ∷ vs) p = rw (sent_raw last v p.0, encode_decode v vs p.1)
