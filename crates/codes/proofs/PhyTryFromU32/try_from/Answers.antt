-- `try_from` gives a mode's row: that of the radio in each arm, whose numbers antt computes.
-- Assumes nothing.
use Rattle.std.proofs.Common.{refl}
use Rattle.codes.specs.Radio.{bpsk_words, oqpsk_word, oqpsk_words, lowband_word, lowband_words, turned_words, turns}
use Rattle.codes.specs.Chips.{bad}
use Rattle.codes.specs.Packed.{packed}
use Rattle.codes.specs.Gathered.{gathered, gathered_all}
use Rattle.codes.proofs.PhyTryFromU32.try_from.Goals as goal

pub returns-in-0 : goal.returns-in-0
unfolding gathered_all gathered packed bad bpsk_words
returns-in-0 c = rw c.in-0.is (refl, refl)

pub returns-in-1 : goal.returns-in-1
unfolding gathered_all gathered packed bad oqpsk_words turned_words turns oqpsk_word
returns-in-1 c = rw c.in-1.is (refl, refl)

pub returns-in-2 : goal.returns-in-2
unfolding gathered_all gathered packed bad lowband_words turned_words turns lowband_word
returns-in-2 c = rw c.in-2.is (refl, refl)
