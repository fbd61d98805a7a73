-- Every symbol and every chip of every frame, in the scope's words: octets lowest bits first, in
-- mode 0 through the chain, in modes 1 and 2 as they are; and the word of each symbol, c0 first.
-- With two symbols exchanged that no sheet has, in writer and reader alike, all else would be
-- proved. Assumes nothing.
use mathlib.Core.Path.{◌≡◌, refl, sym, ap, ap₂, ◌∙◌}
use mathlib.Core.List.{List, [], ◌∷◌, ◌++◌}
use mathlib.Core.Bool.{false}
use Prim.Native.Nat.{ℕ, zero, suc, ◌+◌, ◌-◌, ◌*◌, ◌/◌, ◌%◌, ◌^◌, ◌<◌}
use native.Mathlib.Nat.{suc-mul, zero-mul, pow-zero, div-one, div-div-eq-div-mul, pow-succ'}
use native.Mathlib.Omega.{arith}
use lib.ListN.{length, get_or, get_or-append}
use lib.Seq.{get_or-append-add}
use Rattle.codes.specs.Radio.{Radio, Sound, word, bpsk, oqpsk, lowband}
use Rattle.frame.specs.Frame.{octets_with, per_octet, digits, raw_of, raws, sent, encode, Form, symbols_with, chips_of, frame_with}
use Rattle.frame.proofs.Below.{Below}
use Rattle.frame.proofs.Count.{word_long, symbols_below, raw_long, raws_long}
use Rattle.frame.proofs.Chain.{symbols_first, symbols_next}

-- chip c of symbol s is chip c of that symbol's word
chips_chip : (r : Radio) → Sound r → (vs : List ℕ) → Below (2 ^ r.bits) vs → (s c : ℕ) → s < length vs → c < r.size
    → get_or (chips_of r vs) (s * r.size + c) 0 ≡ get_or (word r (get_or vs s 0)) c 0
unfolding chips_of
chips_chip r S [] p s c h l = absurd (omega arith)
chips_chip r S (v ∷ vs) p zero c h l =
    let e : 0 * r.size + c ≡ c = omega (arith, zero-mul r.size) in
    ap (λ (i : ℕ). get_or (word r v ++ chips_of r vs) i 0) e
    ∙ get_or-append (word r v) (chips_of r vs) 0 c (omega (arith, word_long r S v p.0))
chips_chip r S (v ∷ vs) p (suc s) c h l =
    let e : suc s * r.size + c ≡ length (word r v) + (s * r.size + c) = omega (arith, word_long r S v p.0, suc-mul s r.size) in
    ap (λ (i : ℕ). get_or (word r v ++ chips_of r vs) i 0) e
    ∙ get_or-append-add (word r v) (chips_of r vs) (s * r.size + c) 0 ∙ chips_chip r S vs p.1 s c (omega arith) l

-- Each chip of a frame is that of its symbol's word.
pub frame_chip : (r : Radio) → Sound r → (form : Form) (report : List ℕ) (s c : ℕ) → s < length (symbols_with r form report) → c < r.size
    → get_or (frame_with r form report) (s * r.size + c) 0 ≡ get_or (word r (get_or (symbols_with r form report) s 0)) c 0
unfolding frame_with
frame_chip r S form report = chips_chip r S (symbols_with r form report) (symbols_below r S form report)

-- digit j of a number
digits_at : (k base x j : ℕ) → j < k → get_or (digits k base x) j 0 ≡ x / base ^ j % base
unfolding digits
digits_at zero base x j h = absurd (omega arith)
digits_at (suc k) base x zero h = sym (ap (λ (y : ℕ). y % base) (ap (λ (z : ℕ). x / z) (pow-zero base) ∙ div-one x))
digits_at (suc k) base x (suc j) h =
    digits_at k base (x / base) j (omega arith)
    ∙ ap (λ (y : ℕ). y % base) (div-div-eq-div-mul x base (base ^ j) ∙ ap (λ (z : ℕ). x / z) (sym (pow-succ' base j)))

-- raw symbol j of octet i is digit j of that octet
raws_at : (r : Radio) (xs : List ℕ) (i j : ℕ) → i < length xs → j < per_octet r
    → get_or (raws r xs) (i * per_octet r + j) 0 ≡ get_or xs i 0 / (2 ^ r.bits) ^ j % 2 ^ r.bits
unfolding raws
raws_at r [] i j h l = absurd (omega arith)
raws_at r (x ∷ xs) zero j h l =
    let e : 0 * per_octet r + j ≡ j = omega (arith, zero-mul (per_octet r)) in
    ap (λ (k : ℕ). get_or (raw_of r x ++ raws r xs) k 0) e
    ∙ get_or-append (raw_of r x) (raws r xs) 0 j (omega (arith, raw_long r x)) ∙ digits_at (per_octet r) (2 ^ r.bits) x j l
raws_at r (x ∷ xs) (suc i) j h l =
    let e : suc i * per_octet r + j ≡ length (raw_of r x) + (i * per_octet r + j) = omega (arith, raw_long r x, suc-mul i (per_octet r)) in
    ap (λ (k : ℕ). get_or (raw_of r x ++ raws r xs) k 0) e
    ∙ get_or-append-add (raw_of r x) (raws r xs) (i * per_octet r + j) 0 ∙ raws_at r xs i j (omega arith) l

-- Mode 0: the symbol of bit j of octet i is that bit added modulo 2 to the symbol before it; the
-- first, whose bit is 0, is the polarity.
module _ (form : Form) (report : List ℕ) where
  abbrev octets_of : List ℕ
  octets_of = octets_with form.bit report

  pub bpsk_sent : (i j : ℕ) → i < length octets_of → j < 8 → 0 < i * 8 + j
      → get_or (symbols_with bpsk form report) (i * 8 + j) 0
      ≡ (get_or (symbols_with bpsk form report) (i * 8 + j - 1) 0 + get_or octets_of i 0 / 2 ^ j % 2) % 2
  bpsk_sent i j h l p =
      let e : suc (i * 8 + j - 1) ≡ i * 8 + j = omega arith in
      let long : suc (i * 8 + j - 1) < length (raws bpsk octets_of) = omega (arith, raws_long bpsk octets_of) in
      ap (λ (k : ℕ). get_or (symbols_with bpsk form report) k 0) (sym e) ∙ symbols_next bpsk form report (i * 8 + j - 1) long
      ∙ ap (λ (k : ℕ). (get_or (symbols_with bpsk form report) (i * 8 + j - 1) 0 + get_or (raws bpsk octets_of) k 0) % 2) e
      ∙ ap (λ (y : ℕ). (get_or (symbols_with bpsk form report) (i * 8 + j - 1) 0 + y) % 2) (raws_at bpsk octets_of i j h l)

  pub bpsk_first : get_or (symbols_with bpsk form report) 0 0 ≡ form.polarity % 2
  bpsk_first =
      symbols_first bpsk form report (omega (arith, raws_long bpsk octets_of))
      ∙ rw (raws_at bpsk octets_of 0 0 (omega arith) (omega arith)) (omega arith)

-- without a chain raw symbols go out as they are
unchained : (r : Radio) → r.chained ≡ false → (last : ℕ) (bs : List ℕ) → encode r last bs ≡ bs
unfolding encode
unchained r c last [] = refl
unchained r c last (b ∷ bs) =
    let e : sent r last b ≡ b = rw c in
    ap₂ (λ (x : ℕ) (l : List ℕ). x ∷ l) e (unchained r c (sent r last b) bs)

-- Modes 1 and 2: the two symbols of octet i of the frame are its low four bits and its high four.
abbrev TwoOf : Radio → Type 0
TwoOf r = (form : Form) (report : List ℕ) (i : ℕ) → i < length (octets_with form.bit report)
    → (get_or (symbols_with r form report) (i * 2) 0 ≡ get_or (octets_with form.bit report) i 0 % 16)
    × (get_or (symbols_with r form report) (i * 2 + 1) 0 ≡ get_or (octets_with form.bit report) i 0 / 16 % 16)

two_of : (r : Radio) → r.chained ≡ false → 2 ≡ per_octet r → 16 ≡ 2 ^ r.bits → TwoOf r
unfolding symbols_with
two_of r c per values form report i h =
    let xs = octets_with form.bit report in
    let at : (j : ℕ) → j < 2 → get_or (symbols_with r form report) (i * 2 + j) 0 ≡ get_or xs i 0 / 16 ^ j % 16 = λ j l.
    ap (λ (bs : List ℕ). get_or bs (i * 2 + j) 0) (unchained r c form.polarity (raws r xs))
    ∙ rw (per, values) (raws_at r xs i j h (rw per at l)) in
    let e : i * 2 ≡ i * 2 + 0 = omega arith in
    (ap (λ (k : ℕ). get_or (symbols_with r form report) k 0) e ∙ at 0 (omega arith) ∙ omega arith, at 1 (omega arith))

pub oqpsk_sent : TwoOf oqpsk
oqpsk_sent = two_of oqpsk refl refl refl

pub lowband_sent : TwoOf lowband
lowband_sent = two_of lowband refl refl refl
