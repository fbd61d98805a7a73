-- The octets of a frame, one by one. Assumes nothing.
use mathlib.Core.Path.{◌≡◌, refl}
use mathlib.Core.List.{List}
use Prim.Native.Nat.{ℕ, zero, suc, ◌+◌, ◌<◌}
use native.Mathlib.Omega.{arith}
use lib.ListN.{length, get_or}
use Rattle.frame.specs.Frame.{octets}

pub octets_long : (report : List ℕ) → length (octets report) ≡ 6 + length report
octets_long report = omega arith

pub preamble_octet : (report : List ℕ) (j : ℕ) → j < 4 → get_or (octets report) j 0 ≡ 0
preamble_octet report zero h = refl
preamble_octet report (suc zero) h = refl
preamble_octet report (suc (suc zero)) h = refl
preamble_octet report (suc (suc (suc zero))) h = refl
preamble_octet report (suc (suc (suc (suc j)))) h = absurd (omega arith)
