-- `tell` meets its contract: a law for each of its ways (Ways.antt). Assumes nothing.
use Rattle.std.proofs.Common.{◌≡◌, sym, ap, ◌∙◌, arith}
use Rattle.codes.specs.Numbers.{DONE, MORE}
use Rattle.reader.specs.Read.{told}
use Rattle.receiver.proofs.Ways.{takes_forged, takes_open, takes_refused}
use Rattle.receiver.proofs.Receiver.tell.Goals as goal

pub returns-then-forged : goal.returns-then-forged
returns-then-forged c =
    let f = sym c.forged.ensures ∙ c.if-forged.true in
    c.refusal.ensures ∙ rw c.into.ensures (ap told (takes_forged c.args.self c.args.room f))

pub returns-in-13 : goal.returns-in-13
returns-in-13 c =
    let f = sym c.forged.ensures ∙ c.if-forged.false in
    c.refusal-in-13.ensures ∙ rw c.into-in-13.ensures (ap told (takes_open c.args.self c.args.room f c.in-13.is))

pub returns-in_default : goal.returns-in_default
returns-in_default c =
    let f = sym c.forged.ensures ∙ c.if-forged.false in
    let m : c.args.self.ended ≡ MORE → ⊥ = λ e. omega (arith, e) in
    let d : c.args.self.ended ≡ DONE → ⊥ = λ e. omega (arith, e) in
    c.refusal-in_default.ensures ∙ ap told (takes_refused c.args.self c.args.room f m d)
