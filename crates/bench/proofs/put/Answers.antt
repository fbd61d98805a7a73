-- `put` meets its contract: the digits that `itoa` promises are the number in decimal (Text.antt).
-- Assumes nothing.
use Rattle.std.proofs.Common.{[], ◌∷◌, ◌∙◌, append_assoc}
use Rattle.bench.specs.Lines.{decimal}
use Rattle.bench.proofs.Text.{digits_decimal}
use Rattle.bench.proofs.put.Goals as goal

pub returns-clause-text_after : goal.returns-clause-text_after
returns-clause-text_after c =
    c.push.ensures.ascii c.requires.ascii
    ∙ rw (c.push_str.ensures.bytes, c.format.ensures.text, digits_decimal c.args.n c.ranges.n.fits)
    (append_assoc c.args.text.now.bytes (decimal c.args.n) (c.args.after ∷ []))
