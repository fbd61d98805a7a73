-- `eight_at` meets its contract: the library's number of eight bytes has them as its digits.
-- Assumes nothing.
use Rattle.std.proofs.Common.{◌≡◌, ℕ, ◌+◌, ◌-◌, ◌<◌, ◌≤◌, List, length, get_or, sym, ap, ◌∙◌, arith, get_or-take}
use Rattle.codes.specs.Packed.{packed}
use Rattle.codes.proofs.Chips.{window_chip}
use Rattle.codes.proofs.eight_at.Goals as goal

pub returns : goal.returns
unfolding packed
returns c =
    let a = c.args in
    let rest = c.in_ok-get.ensures.lookup.0 in
    let e = c.in_ok-eight.ensures.cases in
    let long : a.at + 8 ≤ length a.part.now = omega (arith, e.enough, rest.3) in
    let same : (i : ℕ) → i < 8 → get_or c.in_ok-eight.eight.now i 0 ≡ get_or a.part.now (a.at + i) 0
    = λ i h.
    ap (λ (xs : List ℕ). get_or xs i 0) e.same
    ∙ get_or-take 8 c.in_ok-get.field-0.now i 0 h
    ∙ ap (λ (xs : List ℕ). get_or xs i 0) rest.2
    ∙ sym (window_chip a.part.now a.at (length a.part.now - a.at) i (omega (arith, long, h))) in (
      long,
      omega (
        arith,
        c.from_le_bytes.ensures,
        same 0 (omega arith),
        same 1 (omega arith),
        same 2 (omega arith),
        same 3 (omega arith),
        same 4 (omega arith),
        same 5 (omega arith),
        same 6 (omega arith),
        same 7 (omega arith),
      ),
    )
