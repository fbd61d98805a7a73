-- Not to be believed: what the reader makes of the hand that its loop ends with, and of the octets
-- gathered beside it. That they tell the reading order's answer is shown in proofs/Sofar.antt and
-- proofs/Told.antt.
use Rattle.std.specs.Prelude.{◌≡◌, ℕ, List, length, take, eqb, ltb}
use Rattle.std.proofs.Math.Seq.{paste}
use Rattle.codes.specs.Numbers.{DONE, RUNOUT, MORE}
use Rattle.codes.specs.Chips.{pick}
use Rattle.codes.specs.Radio.{Radio}
use Rattle.order.specs.declared.Hand.{Hand}
use Rattle.order.specs.Order.{Answer, refused, done}
use Rattle.order.specs.Taking.{Complete}
use Rattle.reader.specs.declared.Reading.{Reading}
use Rattle.reader.specs.Read.{reported, told}

-- the first n octets over the first n bytes of a buffer, as it was where there are not so many
-- of both
unfoldable pub stored_in : ℕ → List ℕ → List ℕ → List ℕ
stored_in n octets buffer = pick (ltb 127 n) buffer (pick (ltb (length buffer) n) buffer (paste buffer 0 octets n))

-- what is given back of a hand that has ended, or whose chips have run out
unfoldable pub told_by : Hand → Reading
told_by h =
    pick (eqb h.number MORE) (told (refused RUNOUT h.taken))
    (pick (eqb h.number DONE) (reported h.taken h.length h.count h.gap h.polarity)
    (told (refused h.number h.taken)))

-- and as the reading order's answer, with the octets gathered
unfoldable pub handed : Hand → List ℕ → Answer
handed h octets =
    pick (eqb h.number MORE) (refused RUNOUT h.taken)
    (pick (eqb h.number DONE) (done h.taken (take h.length octets) h.count h.gap h.polarity)
    (refused h.number h.taken))

-- the hand and the octets gathered tell the answer
pub record Tells (r : Radio) (room : ℕ) (answer : Answer) (octets : List ℕ) (h : Hand) : Type 0 where
  pub is : answer ≡ handed h octets
  pub well : h.number ≡ DONE → Complete r room h
  pub long : length octets ≡ 127
