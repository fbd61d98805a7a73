-- Not to be believed: what the writer's loops do, piece by piece. The writer's promise does not
-- name it; that the pieces come to the frame is shown in proofs/Turns.antt (`octet_ends`,
-- `frame_ends`) and proofs/Writer.antt (`done`).
use Rattle.std.specs.Prelude.{ℕ, ◌+◌, ◌*◌, List, [], ◌∷◌, ◌++◌, length, take, drop}
use Rattle.codes.specs.Radio.{Radio}
use Rattle.frame.specs.Frame.{per_octet, sent}

-- a list with `new` written over it from a place on
unfoldable pub over : List ℕ → ℕ → List ℕ → List ℕ
over d at new = take at d ++ (new ++ drop (at + length new) d)

-- the symbol sent last for raw ones, after the symbol `last`
unfoldable pub last_sent : Radio → ℕ → List ℕ → ℕ
last_sent r last [] = last
last_sent r last (b ∷ bs) = last_sent r (sent r last b) bs

-- chips of an octet
abbrev pub octet_chips : Radio → ℕ
octet_chips r = per_octet r * r.size
