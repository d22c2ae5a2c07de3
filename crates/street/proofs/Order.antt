-- The order of the checks, seen on one street: it is at fault in every check and mended fault by fault, and the codes come in the order of document 01's table, each at its place.
-- Assumes nothing.
use Prim.Native.Nat.{ℕ}
use mathlib.Core.Path.{◌≡◌, refl}
use mathlib.Core.List.{List, [], ◌∷◌, map}
use Rattle.circle.specs.Over.{first_below}
use Rattle.street.specs.Lists.{typed}
use Rattle.street.specs.Codes.{code_of, place_of}
use Rattle.street.specs.Checks.{count_check, room_check, cycle_check, red_check, distance_check, speed_check, plan_checks}
use Rattle.street.specs.Verdicts.{Verdict}

-- two signals: the cycle, the second red and distance, the outbound speed, the inbound speeds, of which there should be one, and the lent list's room
abbrev judged : ℕ → ℕ → ℕ → ℕ → List ℕ → ℕ → Verdict
judged cycle red distance speed inbound room =
    plan_checks (typed cycle (5 ∷ red ∷ []) (50 ∷ distance ∷ []) (speed ∷ []) inbound) room

abbrev verdicts : List Verdict
verdicts =
    judged 9 10 50 999 [] 1
    ∷ judged 9 10 50 999 (1000 ∷ []) 1
    ∷ judged 9 10 50 999 (1000 ∷ []) 2
    ∷ judged 10 10 50 999 (1000 ∷ []) 2
    ∷ judged 10 9 50 999 (1000 ∷ []) 2
    ∷ judged 10 9 51 999 (1000 ∷ []) 2
    ∷ judged 10 9 51 1000 (1000 ∷ []) 2
    ∷ []

pub in_order : map code_of verdicts ≡ 2 ∷ 3 ∷ 4 ∷ 5 ∷ 6 ∷ 7 ∷ 0 ∷ []
unfolding plan_checks count_check room_check cycle_check red_check distance_check speed_check first_below
in_order = refl

-- the second red and the second distance are at fault, and the speed of link 1
pub in_place : map place_of verdicts ≡ 0 ∷ 0 ∷ 0 ∷ 2 ∷ 2 ∷ 1 ∷ 0 ∷ []
unfolding plan_checks count_check room_check cycle_check red_check distance_check speed_check first_below
in_place = refl
