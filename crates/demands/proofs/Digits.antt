-- Digits and the number that they make: each gives the other back. Assumes nothing.
use mathlib.Core.Path.{◌≡◌, refl, ap, ◌∙◌}
use mathlib.Core.List.{List, [], ◌∷◌}
use Prim.Native.Nat.{ℕ, zero, suc, ◌+◌, ◌*◌, ◌/◌, ◌%◌, ◌^◌, ◌<◌}
use native.Mathlib.Nat.{
  pow-zero,
  pow-suc,
  mod-add-div,
  div-lt_iff_lt-mul,
  add-mul-mod_self_left,
  mod-eq_of_lt,
  add-mul-div_left,
  div-eq_of_lt,
  mul_comm,
  mul-zero,
}
use native.Mathlib.Omega.{arith}
use lib.Arith.{digits_lt}
use lib.ListN.{length}
use Rattle.frame.specs.Frame.{digits}
use Rattle.frame.proofs.Below.{Below}
use Rattle.order.specs.Received.{value_of}

module _ (base : ℕ) (pos : 0 < base) where
  -- the digits of a number make it
  pub value_digits : (k x : ℕ) → x < base ^ k → value_of base (digits k base x) ≡ x
  unfolding digits value_of
  value_digits zero x h = omega (arith, pow-zero base)
  value_digits (suc k) x h =
      let l : x < base ^ k * base = rw (← pow-suc base k) h in
      ap (λ (z : ℕ). x % base + base * z) (value_digits k (x / base) ((div-lt_iff_lt-mul pos).1 l)) ∙ mod-add-div x base

  -- a number made of digits has them
  pub digits_value : (bs : List ℕ) → Below base bs → digits (length bs) base (value_of base bs) ≡ bs
  unfolding digits value_of
  digits_value [] p = refl
  digits_value (b ∷ bs) p =
      let m : (b + base * value_of base bs) % base ≡ b = add-mul-mod_self_left b base (value_of base bs) ∙ mod-eq_of_lt p.0 in
      let q : (b + base * value_of base bs) / base ≡ value_of base bs = add-mul-div_left b (value_of base bs) pos ∙ omega (arith, div-eq_of_lt p.0) in
      rw (m, q, digits_value bs p.1)

  -- k digits make a number below the k-th power
  pub value_below : (bs : List ℕ) → Below base bs → value_of base bs < base ^ length bs
  unfolding value_of
  value_below [] p = omega (arith, pow-zero base)
  value_below (b ∷ bs) p =
      omega (arith, digits_lt (value_below bs p.1) p.0, pow-suc base (length bs), mul_comm base (value_of base bs))

-- digits that are 0 make 0
pub value_nought : (base : ℕ) (bs : List ℕ) → Below 1 bs → value_of base bs ≡ 0
unfolding value_of
value_nought base [] p = refl
value_nought base (b ∷ bs) p = rw (value_nought base bs p.1, mul-zero) (omega (arith, p.0))
