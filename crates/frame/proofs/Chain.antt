-- The chain runs through the whole frame: symbol j is what is sent for raw symbol j after the
-- symbol before it, the first after the frame's polarity. Assumes nothing.
use mathlib.Core.Path.{◌≡◌, refl, ap}
use mathlib.Core.List.{List, [], ◌∷◌}
use Prim.Native.Nat.{ℕ, zero, suc, ◌<◌}
use native.Mathlib.Omega.{arith}
use lib.ListN.{length, get_or}
use Rattle.codes.specs.Radio.{Radio}
use Rattle.frame.specs.Frame.{octets_with, raws, sent, encode, Form, symbols_with}

module _ (r : Radio) where
  pub encode_long : (last : ℕ) (bs : List ℕ) → length (encode r last bs) ≡ length bs
  unfolding encode
  encode_long last [] = refl
  encode_long last (b ∷ bs) = ap suc (encode_long (sent r last b) bs)

  encode_next : (last : ℕ) (bs : List ℕ) (j : ℕ) → suc j < length bs
      → get_or (encode r last bs) (suc j) 0 ≡ sent r (get_or (encode r last bs) j 0) (get_or bs (suc j) 0)
  unfolding encode
  encode_next last [] j h = absurd (omega arith)
  encode_next last (b ∷ []) j h = absurd (omega arith)
  encode_next last (b ∷ c ∷ bs) zero h = refl
  encode_next last (b ∷ c ∷ bs) (suc j) h = encode_next (sent r last b) (c ∷ bs) j (omega arith)

  encode_first : (last : ℕ) (bs : List ℕ) → 0 < length bs → get_or (encode r last bs) 0 0 ≡ sent r last (get_or bs 0 0)
  unfolding encode
  encode_first last [] h = absurd (omega arith)
  encode_first last (b ∷ bs) h = refl

  module _ (form : Form) (report : List ℕ) where
    abbrev all : List ℕ
    all = raws r (octets_with form.bit report)

    pub symbols_next : (j : ℕ) → suc j < length all
        → get_or (symbols_with r form report) (suc j) 0 ≡ sent r (get_or (symbols_with r form report) j 0) (get_or all (suc j) 0)
    unfolding symbols_with
    symbols_next j h = encode_next form.polarity all j h

    pub symbols_first : 0 < length all → get_or (symbols_with r form report) 0 0 ≡ sent r form.polarity (get_or all 0 0)
    unfolding symbols_with
    symbols_first h = encode_first form.polarity all h
