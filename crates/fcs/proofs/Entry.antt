-- An octet by the table: what eight bits of 0 make of the low eight bits of register and octet is
-- looked up, and the others come down. That the table has its rule is one computed test. Assumes
-- nothing.
use mathlib.Core.Path.{◌≡◌, refl, sym, ap, ◌∙◌}
use mathlib.Core.Bool.{true}
use mathlib.Core.List.{List}
use Prim.Native.Nat.{ℕ, ◌*◌, ◌/◌, ◌%◌, ◌<◌}
use native.Mathlib.Nat.{div-add-mod'}
use native.Mathlib.Omega.{arith}
use lib.Bits.{bit_xor, xor_comm, xor_shifted, xor_shr, xor_zero_r}
use lib.Dec.{eqb}
use lib.ListN.{length, get_or}
use borrow.Author.Tests.{eqb-true}
use Rattle.codes.proofs.Tests.{every, each}
use Rattle.frame.specs.Frame.{digits}
use Rattle.fcs.specs.Fcs.{entered, register_after}
use Rattle.fcs.specs.Table.{Ruled}
use Rattle.fcs.specs.declared.TheConstants.{TABLE}
use Rattle.fcs.proofs.Register.{enter_digits, comes_down}

-- the test of each entry, carried to each
pub ruled : (table : List ℕ) → length table ≡ 256 → every (λ k. eqb (get_or table k 0) (register_after k (digits 8 2 0))) 256 ≡ true → Ruled table
ruled table l t =
    record { long = l; rule = λ k h. eqb-true _ _ (each (λ k. eqb (get_or table k 0) (register_after k (digits 8 2 0))) 256 t k h) }

pub table_ruled : Ruled TABLE
unfolding every digits register_after entered
table_ruled = ruled TABLE refl refl

-- a number is its low eight bits, and the others eight places up
pub in_two : (x : ℕ) → bit_xor (x % 256) (x / 256 * 256) ≡ x
in_two x = xor_comm (x % 256) (x / 256 * 256) ∙ xor_shifted (x / 256) 8 (x % 256) (omega arith) ∙ div-add-mod' x 256

-- the eight bits of an octet enter at once
pub by_entry_lem : (table : List ℕ) → Ruled table → (c x : ℕ) → x < 256
    → bit_xor (c / 256) (get_or table (bit_xor c x % 256) 0) ≡ register_after c (digits 8 2 x)
by_entry_lem table R c x h =
    let z : x / 256 ≡ 0 = omega arith in
    let u : bit_xor c x / 256 ≡ c / 256 = xor_shr c x 8 ∙ ap (bit_xor (c / 256)) z ∙ xor_zero_r (c / 256) in
    sym
    (enter_digits 8 c x h
    ∙ ap (λ (y : ℕ). register_after y (digits 8 2 0)) (sym (in_two (bit_xor c x)))
    ∙ comes_down 8 (bit_xor c x % 256) (bit_xor c x / 256)
    ∙ ap (bit_xor (register_after (bit_xor c x % 256) (digits 8 2 0))) u
    ∙ xor_comm (register_after (bit_xor c x % 256) (digits 8 2 0)) (c / 256)
    ∙ ap (bit_xor (c / 256)) (sym (R.rule (bit_xor c x % 256) (omega arith))))
