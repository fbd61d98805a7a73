-- How many symbols and chips: of octets, and of a frame. Assumes nothing.
use mathlib.Core.Path.{◌≡◌, refl, sym, ap, ◌∙◌}
use mathlib.Core.List.{List, [], ◌∷◌}
use Prim.Native.Nat.{ℕ, zero, suc, ◌+◌, ◌*◌, ◌/◌, ◌^◌, ◌<◌}
use native.Mathlib.Nat.{zero-mul, suc-mul, mul_assoc, mod-lt, zero-mod, zero-div}
use native.Mathlib.Omega.{arith}
use lib.ListN.{length, length-append}
use lib.Pow.{pow_pos}
use Rattle.codes.specs.Radio.{Radio, word, Sound, bpsk, oqpsk, lowband}
use Rattle.codes.proofs.Tests.{by_test}
use Rattle.codes.proofs.Facts.{sound_bpsk, sound_oqpsk, sound_lowband}
use Rattle.frame.specs.Putting.{octet_chips}
use Rattle.frame.proofs.Below.{Below, below_append}
use Rattle.frame.proofs.Chain.{encode_long}
use Rattle.frame.specs.Frame.{octets_with, per_octet, digits, raw_of, raws, sent, encode, Form, plain, symbols, symbols_with, chips_of, frame_with}

pub digits_long : (k base x : ℕ) → length (digits k base x) ≡ k
unfolding digits
digits_long zero base x = refl
digits_long (suc k) base x = ap suc (digits_long k base (x / base))

pub digits_below : (k base x : ℕ) → 0 < base → Below base (digits k base x)
unfolding digits
digits_below zero base x h = tt
digits_below (suc k) base x h = (mod-lt x h, digits_below k base (x / base) h)

-- the digits of 0 are 0
pub digits_nought : (k base : ℕ) → Below 1 (digits k base 0)
unfolding digits
digits_nought zero base = tt
digits_nought (suc k) base = (omega (arith, zero-mod base), rw (zero-div base) (digits_nought k base))

module _ (r : Radio) where
  -- of an octet
  pub raw_long : (x : ℕ) → length (raw_of r x) ≡ per_octet r
  raw_long x = digits_long (per_octet r) (2 ^ r.bits) _

  pub raw_below : (x : ℕ) → Below (2 ^ r.bits) (raw_of r x)
  raw_below x = digits_below (per_octet r) (2 ^ r.bits) _ (pow_pos r.bits)

  -- of octets
  pub raws_long : (xs : List ℕ) → length (raws r xs) ≡ length xs * per_octet r
  unfolding raws
  raws_long [] = sym (zero-mul (per_octet r))
  raws_long (x ∷ xs) =
      omega (arith, length-append (raw_of r x) (raws r xs), raw_long x, raws_long xs, suc-mul (length xs) (per_octet r))

  pub raws_below : (xs : List ℕ) → Below (2 ^ r.bits) (raws r xs)
  unfolding raws
  raws_below [] = tt
  raws_below (x ∷ xs) = below_append (2 ^ r.bits) (raw_of r x) (raws r xs) (raw_below x) (raws_below xs)

  -- symbols of a frame
  pub symbols_long : (form : Form) (report : List ℕ) → length (symbols_with r form report) ≡ (6 + length report) * per_octet r
  unfolding symbols_with
  symbols_long form report =
      encode_long r form.polarity (raws r (octets_with form.bit report)) ∙ raws_long (octets_with form.bit report)
      ∙ ap (λ (n : ℕ). n * per_octet r) (omega arith)

  -- as many however it was sent
  pub symbols_same : (form : Form) (report : List ℕ) → length (symbols_with r form report) ≡ length (symbols r report)
  symbols_same form report = symbols_long form report ∙ sym (symbols_long plain report)

module _ (r : Radio) (S : Sound r) where
  pub sent_below : (last b : ℕ) → b < 2 ^ r.bits → sent r last b < 2 ^ r.bits
  sent_below last b h = by_test r.chained (λ a. rw (a, S.single a) (omega arith)) (λ a. rw a h)

  pub encode_below : (last : ℕ) (bs : List ℕ) → Below (2 ^ r.bits) bs → Below (2 ^ r.bits) (encode r last bs)
  unfolding encode
  encode_below last [] p = tt
  encode_below last (b ∷ bs) p = (sent_below last b p.0, encode_below (sent r last b) bs p.1)

  pub word_long : (v : ℕ) → v < 2 ^ r.bits → length (word r v) ≡ r.size
  word_long v h = S.sized v (rw S.many h)

  pub chips_long : (vs : List ℕ) → Below (2 ^ r.bits) vs → length (chips_of r vs) ≡ length vs * r.size
  unfolding chips_of
  chips_long [] p = sym (zero-mul r.size)
  chips_long (v ∷ vs) p =
      omega (arith, length-append (word r v) (chips_of r vs), word_long v p.0, chips_long vs p.1, suc-mul (length vs) r.size)

  -- chips of an octet
  pub octet_long : (last x : ℕ) → length (chips_of r (encode r last (raw_of r x))) ≡ octet_chips r
  octet_long last x =
      chips_long (encode r last (raw_of r x)) (encode_below last (raw_of r x) (raw_below r x))
      ∙ ap (λ (n : ℕ). n * r.size) (encode_long r last (raw_of r x) ∙ raw_long r x)

  module _ (form : Form) (report : List ℕ) where
    -- each symbol of a frame has a word
    pub symbols_below : Below (2 ^ r.bits) (symbols_with r form report)
    unfolding symbols_with
    symbols_below = encode_below form.polarity (raws r (octets_with form.bit report)) (raws_below r (octets_with form.bit report))

    -- chips of a frame, by its symbols
    pub frame_size : length (frame_with r form report) ≡ length (symbols_with r form report) * r.size
    unfolding frame_with
    frame_size = chips_long (symbols_with r form report) symbols_below

    -- and by its octets
    pub frame_long : length (frame_with r form report) ≡ (6 + length report) * octet_chips r
    frame_long =
        frame_size
        ∙ ap (λ (n : ℕ). n * r.size) (symbols_long r form report)
        ∙ mul_assoc (6 + length report) (per_octet r) r.size

-- A frame has 720 + 120n chips in mode 0, 384 + 64n in mode 1 and 192 + 32n in mode 2, however
-- it was sent.
module _ (form : Form) (report : List ℕ) where
  pub bpsk_chips : length (frame_with bpsk form report) ≡ 720 + 120 * length report
  bpsk_chips = omega (arith, frame_long bpsk sound_bpsk form report)

  pub oqpsk_chips : length (frame_with oqpsk form report) ≡ 384 + 64 * length report
  oqpsk_chips = omega (arith, frame_long oqpsk sound_oqpsk form report)

  pub lowband_chips : length (frame_with lowband form report) ≡ 192 + 32 * length report
  lowband_chips = omega (arith, frame_long lowband sound_lowband form report)
