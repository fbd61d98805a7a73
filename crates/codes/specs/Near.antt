-- Not to be believed: the word nearest to a symbol's chips and both distances in one number, which
-- matching makes and takes apart again (`matching`, proofs/Judging.antt).
use Rattle.std.specs.Prelude.{ℕ, ◌+◌, ◌*◌, List}
use Rattle.codes.specs.Chips.{pick}
use Rattle.codes.specs.Radio.{Radio, known, radio_of}
use Rattle.codes.specs.Symbol.{nearest, nearest_word, next_nearest}
use Rattle.codes.specs.Gathered.{chips_in}

-- 1024 times the next-nearest word's distance, 16 times the nearest's, and its number
unfoldable pub nearest_of : Radio → List ℕ → ℕ
nearest_of r chips = next_nearest r chips * 1024 + nearest r chips * 16 + nearest_word r chips

-- for the chips that the bits hold; 0 where there is no radio
unfoldable pub nearest_in : ℕ → ℕ → ℕ
nearest_in mode bits = pick (known mode) (nearest_of (radio_of mode) (chips_in (radio_of mode) bits)) 0
