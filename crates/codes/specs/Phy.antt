-- Not to be believed: a radio's numbers as the code has them, those of its row, how its symbols are
-- gathered, and word 0 so gathered, shown to serve in proofs/Gathering.antt and, for the writer's
-- strip, in `strips`.
use Rattle.std.specs.Prelude.{◌≡◌, ℕ, ◌/◌, ◌^◌, true, false, Result, MatchResult}
use Rattle.codes.specs.declared.Phy.{Phy}
use Rattle.codes.specs.declared.Refusal.{Refusal}
use Rattle.codes.specs.declared.Refusal.TheVariants.{BadMode}
use Rattle.codes.specs.Chips.{pick}
use Rattle.codes.specs.Radio.{Radio, known, radio_of, word}
use Rattle.codes.specs.Gathered.{layout_of, gathered_all}

abbrev pub phy_of : Radio → Phy
phy_of r =
    record {
      size = r.size;
      per = 8 / r.bits;
      values = 2 ^ r.bits;
      limit = r.limit;
      chained = r.chained;
      eights = (layout_of r).eights;
      step = (layout_of r).step;
      lift = (layout_of r).lift;
      word = gathered_all r (word r 0);
    }

-- zeros where there is no radio
abbrev pub no_phy : Phy
no_phy = record { size = 0; per = 0; values = 0; limit = 0; chained = false; eights = 0; step = 0; lift = 0; word = 0 }

-- those of a mode's radio
unfoldable pub phy_at : ℕ → Phy
phy_at mode = pick (known mode) (phy_of (radio_of mode)) no_phy

-- those of a mode that has a radio, or the refusal of one that has none
abbrev pub IsRowOf : ℕ → Result Phy Refusal → Type 0
IsRowOf mode r =
    MatchResult r (λ p. (known mode ≡ true) × (p ≡ phy_of (radio_of mode))) (λ e. (known mode ≡ false) × (e ≡ BadMode))
