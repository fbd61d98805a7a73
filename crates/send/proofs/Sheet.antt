-- The arguments in numerals, by computation: which mode an argument names, at both sides of each
-- bound; what is the option; and which profile it asks for. Assumes nothing.
use mathlib.Core.Path.{◌≡◌, refl}
use mathlib.Core.Bool.{true, false}
use mathlib.Core.List.{[], ◌∷◌}
use Rattle.codes.specs.Radio.{lowband_word, lowband_words, turned_words, turns, turned, odd_inverted}
use Rattle.frame.specs.Frame.{digits, raws, encode, symbols_with, chips_of, frame_with}
use Rattle.frame.specs.Write.{written}
use Rattle.checked.specs.Profile.{all_zero, written_checked}
use Rattle.send.specs.Mode.{mode_from, mode_of}
use Rattle.send.specs.Option.{is_option, written_as}

-- "0", "2", "10", "007"; "4294967294", "4294967295", "4294967296", "4294967298"; no argument, "/",
-- ":", "1 ", "-1": no number, which no radio has
pub mode_sheet : (mode_of (48 ∷ []) ≡ 0) × (mode_of (50 ∷ []) ≡ 2) × (mode_of (49 ∷ 48 ∷ []) ≡ 10) × (mode_of (48 ∷ 48 ∷ 55 ∷ []) ≡ 7)
    × (mode_of (57 ∷ []) ≡ 9) × (mode_of (52 ∷ 50 ∷ 57 ∷ 52 ∷ 57 ∷ 54 ∷ 55 ∷ 50 ∷ 57 ∷ 52 ∷ []) ≡ 4294967294)
    × (mode_of (52 ∷ 50 ∷ 57 ∷ 52 ∷ 57 ∷ 54 ∷ 55 ∷ 50 ∷ 57 ∷ 54 ∷ []) ≡ 4294967295)
    × (mode_of (52 ∷ 50 ∷ 57 ∷ 52 ∷ 57 ∷ 54 ∷ 55 ∷ 50 ∷ 57 ∷ 56 ∷ []) ≡ 4294967295)
    × (mode_of [] ≡ 4294967295) × (mode_of (47 ∷ []) ≡ 4294967295) × (mode_of (58 ∷ []) ≡ 4294967295) × (mode_of (49 ∷ 32 ∷ []) ≡ 4294967295)
    × (mode_of (45 ∷ 49 ∷ []) ≡ 4294967295)
unfolding mode_from mode_of
mode_sheet = (refl, refl, refl, refl, refl, refl, refl, refl, refl, refl, refl, refl, refl)

-- "-c", and not "", "-", "c", "c-", "-d", "-cc"
pub option_sheet : (is_option (45 ∷ 99 ∷ []) ≡ true) × (is_option [] ≡ false) × (is_option (45 ∷ []) ≡ false) × (is_option (99 ∷ []) ≡ false)
    × (is_option (99 ∷ 45 ∷ []) ≡ false) × (is_option (45 ∷ 100 ∷ []) ≡ false) × (is_option (45 ∷ 99 ∷ 99 ∷ []) ≡ false)
unfolding is_option
option_sheet = (refl, refl, refl, refl, refl, refl, refl)

-- with it an empty report is 14; without it, into no room, 3
pub profile_sheet : ((written_as true 2 [] []).answer.number ≡ 14) × ((written_as false 2 [] []).answer.number ≡ 3)
unfolding written_as written_checked written all_zero digits raws encode symbols_with chips_of frame_with
    lowband_word lowband_words turned_words turns turned odd_inverted
profile_sheet = (refl, refl)
