-- `is_option` meets its contract: the test is the option's definition. Assumes nothing.
use Rattle.std.proofs.Common.{◌∙◌}
use Rattle.send.proofs.Option.{equal_option}
use Rattle.send.proofs.is_option.Goals as goal

pub returns : goal.returns
returns c = c.eq.ensures ∙ rw c.as_slice.ensures (equal_option c.args.text.now)
