-- The octets of the report gather, each when its last symbol is taken. Assumes nothing.
use mathlib.Core.Path.{◌≡◌, sym, ap, ◌∙◌}
use mathlib.Core.Bool.{true}
use mathlib.Core.List.{List, [], ◌∷◌, ◌++◌}
use Prim.Native.Nat.{ℕ, suc, ◌+◌, ◌-◌, ◌*◌, ◌/◌, ◌%◌, ◌≤◌, ◌<◌}
use native.Mathlib.Nat.{le-div_iff_mul-le, mul-le-mul_right, le-add_right, mul-mod_left, mul-div_cancel, div-add-mod', mod-eq_of_lt}
use native.Mathlib.Omega.{arith}
use lib.ListN.{length, get_or, take, length-append, length-set}
use lib.Seq.{ext_get_or, get_or-take, get_or-set_same, get_or-set_other, length-take-le}
use lib.Dec.{eqb, leb, ltb}
use borrow.Author.Tests.{lt-ltb, le-leb, eq-eqb, eqb-true, leb-true, leb-false}
use Rattle.codes.specs.Radio.{Radio, Sound}
use Rattle.codes.specs.declared.Symbol.{Symbol}
use Rattle.codes.proofs.Tests.{by_test}
use Rattle.frame.specs.Frame.{per_octet}
use Rattle.order.specs.declared.Hand.{Hand}
use Rattle.order.specs.Received.{raw_after, received, octet_at, octets_from}
use Rattle.order.specs.Order.{values}
use Rattle.order.specs.Taking.{kept_in}
use Rattle.order.proofs.Raw.{decode_below, octet_stays, octets_long, octets_each, per_positive, last_octet}
use Rattle.order.proofs.Carried.{Carries, value_before, received_snoc, received_long}

-- what keeping the octet in hand does to octet k
module _ (per : ℕ) (p : 0 < per) (h : Hand) (octets : List ℕ) (k : ℕ) where
  kept_other : ((7 + k) * per ≡ h.taken → ⊥) → get_or (kept_in per h octets) k 0 ≡ get_or octets k 0
  kept_other n =
      by_test (leb (7 * per) h.taken)
      (λ a. by_test (eqb (h.taken % per) 0)
      (λ b. by_test (ltb (h.taken / per - 7) 127)
      (λ c. rw (a, b, c) (get_or-set_other octets (h.taken / per - 7) k (h.octet % 256) 0 (λ e. n (place a b e))))
      (λ c. rw (a, b, c)))
      (λ b. rw (a, b)))
      (λ a. rw a)
    where
      place : leb (7 * per) h.taken ≡ true → eqb (h.taken % per) 0 ≡ true → k ≡ h.taken / per - 7 → (7 + k) * per ≡ h.taken
      place a b e =
          let q : 7 ≤ h.taken / per = (le-div_iff_mul-le {k = per} {x = 7} {y = h.taken} p).1 (leb-true (7 * per) h.taken a) in
          let s : 7 + k ≡ h.taken / per = omega arith in
          ap (λ (m : ℕ). m * per) s ∙ omega (arith, div-add-mod' h.taken per, eqb-true (h.taken % per) 0 b)

  kept_same : (7 + k) * per ≡ h.taken → k < 127 → length octets ≡ 127 → get_or (kept_in per h octets) k 0 ≡ h.octet % 256
  kept_same e l o =
      let z : h.taken % per ≡ 0 = rw (← e) (mul-mod_left (7 + k) per) in
      let q : h.taken / per ≡ 7 + k = rw (← e) (mul-div_cancel (7 + k) p) in
      let j : h.taken / per - 7 ≡ k = omega arith in
      rw (le-leb (7 * per) h.taken (omega (arith, mul-le-mul_right per (le-add_right 7 k))), eq-eqb (h.taken % per) 0 z, j, lt-ltb k 127 l)
      (get_or-set_same octets k (h.octet % 256) 0 (omega arith))

pub kept_long : (per : ℕ) (h : Hand) (octets : List ℕ) → length (kept_in per h octets) ≡ length octets
kept_long per h octets =
    by_test (leb (7 * per) h.taken)
    (λ a. by_test (eqb (h.taken % per) 0)
    (λ b. by_test (ltb (h.taken / per - 7) 127)
    (λ c. rw (a, b, c) (length-set octets (h.taken / per - 7) (h.octet % 256)))
    (λ c. rw (a, b, c)))
    (λ b. rw (a, b)))
    (λ a. rw a)

-- every octet of the report that is whole stands in its place
abbrev pub Gathered : Radio → List Symbol → List ℕ → Type 0
Gathered r before octets = (k : ℕ) → k < 127 → (7 + k) * per_octet r ≤ length before → get_or octets k 0 ≡ octet_at r (6 + k) (received r (values before))

module _ (r : Radio) (S : Sound r) where
  pub gathered_none : (octets : List ℕ) → Gathered r [] octets
  gathered_none octets k l e = absurd (omega (arith, per_positive r S, mul-le-mul_right (per_octet r) (le-add_right 7 k)))

  pub gathered_more : (before : List Symbol) (x : Symbol) (octets : List ℕ) (g : Hand) → Gathered r before octets → Carries r (before ++ x ∷ []) g
      → length octets ≡ 127 → Gathered r (before ++ x ∷ []) (kept_in (per_octet r) g octets)
  gathered_more before x octets g G C o k l e =
      let b = length-append before (x ∷ []) in
      let t = C.taken in
      let old = received r (values before) in
      let s : 7 + k ≡ suc (6 + k) = omega arith in
      by_test (leb ((7 + k) * per_octet r) (length before))
      (λ a.
      let h : (7 + k) * per_octet r ≤ length before = leb-true _ _ a in
      let m : suc (6 + k) * per_octet r ≤ length old = rw (← s, received_long r before) h in
      kept_other (per_octet r) (per_positive r S) g octets k (λ q. omega arith)
      ∙ G k l h
      ∙ sym (ap (octet_at r (6 + k)) (received_snoc r before x)
      ∙ octet_stays r (6 + k) old (raw_after r (value_before r (values before) x.value) x.value ∷ []) m))
      (λ a.
      let h : length before < (7 + k) * per_octet r = leb-false _ _ a in
      let w : (7 + k) * per_octet r ≡ g.taken = omega arith in
      let c = last_octet r S (received r (values (before ++ x ∷ []))) (6 + k) (decode_below r S _ (values (before ++ x ∷ [])) C.below)
      (received_long r (before ++ x ∷ []) ∙ sym t ∙ sym w ∙ ap (λ (j : ℕ). j * per_octet r) s) in
      let v : g.octet ≡ octet_at r (6 + k) (received r (values (before ++ x ∷ []))) = C.octet ∙ c.0 in
      kept_same (per_octet r) (per_positive r S) g octets k w l o ∙ ap (λ (j : ℕ). j % 256) v ∙ mod-eq_of_lt c.1)

  -- once all are, they are the report
  pub gathered_report : (before : List Symbol) (octets : List ℕ) (n : ℕ)
      → Gathered r before octets → length octets ≡ 127 → n ≤ 127 → (6 + n) * per_octet r ≤ length before
      → take n octets ≡ octets_from r 6 n (received r (values before))
  gathered_report before octets n G o l e =
      ext_get_or 0 (take n octets) (octets_from r 6 n (received r (values before)))
      (length-take-le n octets (omega arith) ∙ sym (octets_long r 6 n (received r (values before))))
      (λ i h.
      let m : i < n = omega (arith, length-take-le n octets (omega arith)) in
      get_or-take n octets i 0 m
      ∙ G i (omega arith) (omega (arith, mul-le-mul_right (per_octet r) (next i m)))
      ∙ sym (octets_each r 6 n (received r (values before)) i m))
    where
      next : (i : ℕ) → i < n → 7 + i ≤ 6 + n
      next i m = omega arith
