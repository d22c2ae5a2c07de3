-- The definitions run on examples: the order of the checks on one street that is mended fault by fault, the seconds of street A, and those of a street with a signal that rests. Assumes nothing.
use Prim.Native.Nat.{ℕ}
use mathlib.Core.Path.{◌≡◌, refl}
use mathlib.Core.List.{List, [], ◌∷◌, map}
use lib.IntN.{pos}
use Rattle.circle.specs.Over.{first_below, sum_below, list_below, all_below, over_below}
use Rattle.circle.specs.Method.{u, pair_width, b, B, reference, phase, offset, equal_width, red_end, red_start}
use Rattle.circle.specs.Moved.{g, in_range, chosen, outbound_lowering, lowered, other_width}
use Rattle.street.specs.Lists.{typed}
use Rattle.street.specs.Codes.{code_of, place_of}
use Rattle.street.specs.Checks.{count_check, room_check, cycle_check, red_check, distance_check, speed_check}
use Rattle.street.specs.Verdicts.{Verdict}
use Rattle.widths.specs.Checks.{width_check}
use Rattle.widths.specs.declared.Request.TheVariants.{Equal, Outbound}
use Rattle.promises.specs.Rows.{two_signals, street_A, crossing, lent, plan}
use Rattle.seconds.specs.Seconds.{seconds_check, second_of}
use Rattle.cabinets.specs.Calls.{seconds_checks, seconds_answer, seconds_after}

-- two signals at fault in every check: the cycle, the second red and distance, the outbound speed, the inbound speeds, of which there should be one, and the lent list's room
abbrev judged : ℕ → ℕ → ℕ → ℕ → List ℕ → ℕ → Verdict
judged cycle red distance speed inbound room =
    seconds_checks (Outbound 0) (typed cycle (5 ∷ red ∷ []) (50 ∷ distance ∷ []) (speed ∷ []) inbound) room

abbrev verdicts : List Verdict
verdicts =
    judged 9 20 50 999 [] 1
    ∷ judged 9 20 50 999 (1000 ∷ []) 1
    ∷ judged 9 20 50 999 (1000 ∷ []) 2
    ∷ judged 19 20 50 999 (1000 ∷ []) 2
    ∷ judged 20 20 50 999 (1000 ∷ []) 2
    ∷ judged 20 9 50 999 (1000 ∷ []) 2
    ∷ judged 20 9 51 999 (1000 ∷ []) 2
    ∷ judged 20 9 51 1000 (1000 ∷ []) 2
    ∷ []

in_order : map code_of verdicts ≡ 2 ∷ 3 ∷ 4 ∷ 13 ∷ 5 ∷ 6 ∷ 7 ∷ 9 ∷ []
unfolding seconds_check count_check room_check cycle_check red_check distance_check speed_check width_check in_range g first_below sum_below all_below over_below u pair_width b B
in_order = refl

in_place : map place_of verdicts ≡ 0 ∷ 0 ∷ 0 ∷ 0 ∷ 2 ∷ 2 ∷ 1 ∷ 0 ∷ []
unfolding seconds_check count_check room_check cycle_check red_check distance_check speed_check width_check in_range g first_below sum_below all_below over_below u pair_width b B
in_place = refl

-- street A turns green at 40 and 60 halves; with 80 halves outbound signal 1 does so 20 halves sooner
street_a : seconds_after Equal street_A lent ≡ 2 ∷ 3 ∷ 7 ∷ []
unfolding two_signals street_A lent first_below sum_below list_below u pair_width b B reference phase offset lowered all_below over_below count_check room_check cycle_check red_check distance_check speed_check seconds_check second_of
street_a = refl

street_a_moved :
    (seconds_answer (Outbound 80) street_A 3 ≡ plan 1 (pos 60) 80 40 0 20 140)
    × (seconds_after (Outbound 80) street_A lent ≡ 1 ∷ 3 ∷ 7 ∷ [])
unfolding two_signals street_A lent plan first_below sum_below list_below u pair_width b B reference phase offset equal_width red_end red_start g in_range chosen outbound_lowering lowered other_width all_below over_below count_check room_check cycle_check red_check distance_check speed_check width_check seconds_check second_of
street_a_moved = (refl, refl)

-- a crossing that rests at 45 halves and so has its green start there, between a signal whose green starts half-way between two seconds and one that keeps its own
crossing_rests :
    (seconds_answer Equal crossing 3 ≡ plan 3 (pos 1250) 1250 1250 0 220 1580)
    × (seconds_after Equal crossing lent ≡ 62 ∷ 2 ∷ 11 ∷ [])
unfolding crossing lent plan first_below sum_below list_below u pair_width b B reference phase offset equal_width red_end red_start lowered all_below over_below count_check room_check cycle_check red_check distance_check speed_check seconds_check second_of
crossing_rests = (refl, refl)
