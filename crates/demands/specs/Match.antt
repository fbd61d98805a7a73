-- The words that the theorems of matching one symbol are stated with: what a word, its distance and
-- the next-nearest other word's have to be, by all the words' distances from the chips.
use Rattle.std.specs.Prelude.{◌≡◌, List, ℕ, ◌≤◌, ◌<◌, length}
use Rattle.codes.specs.Chips.{distance}
use Rattle.codes.specs.Radio.{Radio, word}
use Rattle.codes.specs.declared.Symbol.{Symbol}

-- The word is a word of the radio, at that distance; none is nearer, and none with a lower number
-- as near. Every other word is at least as far as the next-nearest is said to be, and one of them
-- just so far.
pub record Says (r : Radio) (chips : List ℕ) (x : Symbol) : Type 0 where
  pub known : x.value < length r.words
  pub apart : x.distance ≡ distance chips (word r x.value)
  pub nearest : (u : ℕ) → u < length r.words → x.distance ≤ distance chips (word r u)
  pub lowest : (u : ℕ) → u < x.value → x.distance < distance chips (word r u)
  pub next : (u : ℕ) → u < length r.words → (u ≡ x.value → ⊥) → x.next ≤ distance chips (word r u)
  pub other : (u : ℕ) × (u < length r.words) × (u ≡ x.value → ⊥) × (distance chips (word r u) ≡ x.next)
