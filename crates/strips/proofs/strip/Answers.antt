-- `strip` meets its contract: the definition's chips over zeros (Runs.antt). Assumes nothing.
use Rattle.std.proofs.Common.{◌∙◌, ap, arith}
use Rattle.codes.specs.declared.Phy.{Phy}
use Rattle.codes.specs.Gathered.{listed}
use Rattle.strips.specs.Strip.{strip_chip, strip_at}
use Rattle.strips.proofs.Runs.{phy_few, phy_fits, first_half, second_half, behind, made_none, made_turn, made_all}
use Rattle.strips.proofs.strip.Goals as goal
use Rattle.strips.proofs.strip.Goals.{then-i-half, else-i-half}

pub loop-i-init : goal.loop-i-init
loop-i-init c = made_none (strip_chip c.phy_of-phy.result)

pub chip-word_chip-requires : goal.chip-word_chip-requires
chip-word_chip-requires c = let z = c.phy_of-phy in phy_fits _ z.result z.ensures (omega (arith, c.loop-i-test.true))

pub loop-i-preserved : goal.loop-i-preserved
loop-i-preserved c =
    let p = c.phy_of-phy.result in
    let t = c.loop-i-test.true in
    made_turn (strip_chip p) _ _ _ (omega (arith, (phy_few _ p c.phy_of-phy.ensures).0, t))
    (elim c.if-i-half.branch [
      | then-i-half w ↦ rw (w.x-is, c.chip-word_chip.ensures) (first_half p _ w.if-i-half.true)
      | else-i-half w ↦ rw (w.x-is, c.chip-word_chip.ensures, w.flip.ensures) (second_half p _ w.if-i-half.false t)
    ]) c.loop-i.invariant

pub returns : goal.returns
unfolding strip_at
returns c =
    let p = c.phy_of-phy.result in
    made_all (strip_chip p) _ _ c.loop-i.invariant (λ j h. behind p j (omega (arith, c.loop-i-test.false)))
    ∙ ap (λ (q : Phy). listed (strip_chip q) 128) c.phy_of-phy.ensures
