-- `Phy::gather` meets its contract: each test is the definition's, and the sum is its sum.
-- Assumes nothing.
use Rattle.std.proofs.Common.{◌+◌, ◌*◌, ◌∙◌, arith, le-ltb, lt-ltb}
use Rattle.codes.specs.Gathered.{gathered}
use Rattle.codes.proofs.Packed.{eight_bad, eight_good}
use Rattle.codes.proofs.Phy.gather.Goals as goal

pub returns-then-self-k : goal.returns-then-self-k
unfolding gathered
returns-then-self-k c = rw (le-ltb _ _ c.if-self-k.true)

pub returns-in_err-eight : goal.returns-in_err-eight
unfolding gathered
returns-in_err-eight c =
    c.from_residual.ensures ∙ rw (lt-ltb _ _ c.if-self-k.false, lt-ltb _ _ c.in_err-eight.ensures)

pub returns-then-eight-ne0 : goal.returns-then-eight-ne0
unfolding gathered
returns-then-eight-ne0 c =
    let a = c.args in
    let e = c.in_ok-eight.ensures in
    rw (
      lt-ltb _ _ c.if-self-k.false,
      le-ltb _ _ e.0,
      eight_bad a.part.now (a.k * a.self.step) _ e.0 (λ i. omega (arith, c.type_inv.part (a.k * a.self.step + i))) e.1 c.if-eight-ne0.true,
    )

pub returns : goal.returns
unfolding gathered
returns c =
    let a = c.args in
    let e = c.in_ok-eight.ensures in
    rw (
      lt-ltb _ _ c.if-self-k.false,
      le-ltb _ _ e.0,
      eight_good a.part.now (a.k * a.self.step) _ e.0 (λ i. omega (arith, c.type_inv.part (a.k * a.self.step + i))) e.1 c.if-eight-ne0.false,
      ← e.1,
    )
