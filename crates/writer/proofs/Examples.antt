-- The writer's definitions worked out: the checks in their order on one street that is mended fault by fault, street A's sheet in a list that is too short, just long enough and
-- longer, the numbers of an answer, and the longest sheet that there is. The bytes that a list held are sevens, so that a byte that was not written shows. Assumes nothing.
use Rattle.std.specs.Prelude.{Ok}
use Prim.Native.Nat.{ℕ, ◌+◌}
use mathlib.Core.Path.{◌≡◌, refl, sym}
use mathlib.Core.List.{List, [], ◌∷◌, ◌++◌, map}
use lib.ListN.{length, replicate}
use Rattle.circle.specs.Over.{first_below, list_below}
use Rattle.street.specs.Lists.{Lists, typed}
use Rattle.street.specs.Codes.{code_of, place_of}
use Rattle.street.specs.Checks.{count_check, room_check, cycle_check, red_check, distance_check, speed_check}
use Rattle.street.specs.Verdicts.{Verdict}
use Rattle.decimal.specs.Decimal.{digits_up_to}
use Rattle.sheet.specs.Form.{pair_lines, text}
use Rattle.sheet.specs.Reading.{passing, Reads}
use Rattle.sheet.proofs.ByForm.{reads}
use Rattle.sheet.proofs.Examples.{street_A, sheet_A, reading_a}
use Rattle.writer.specs.Writing.{write_checks, writing_of, bytes_after, WritesSheet, writing_numbers}
use Rattle.writer.specs.RoundTrips.{max_sheet, StreetPasses}
use Rattle.writer.specs.Steps.{section_text}

-- two signals: the cycle, the second red and distance, the outbound speed, the inbound speeds, of which there should be one, and the lent list's room; mended, its sheet has 29 bytes
abbrev judged : ℕ → ℕ → ℕ → ℕ → List ℕ → ℕ → Verdict
judged cycle red distance speed inbound room =
    write_checks (typed cycle (5 ∷ red ∷ []) (50 ∷ distance ∷ []) (speed ∷ []) inbound) room

abbrev verdicts : List Verdict
verdicts =
    judged 9 10 50 999 [] 0
    ∷ judged 9 10 50 999 (1000 ∷ []) 0
    ∷ judged 10 10 50 999 (1000 ∷ []) 0
    ∷ judged 10 9 50 999 (1000 ∷ []) 0
    ∷ judged 10 9 51 999 (1000 ∷ []) 0
    ∷ judged 10 9 51 1000 (1000 ∷ []) 0
    ∷ judged 10 9 51 1000 (1000 ∷ []) 28
    ∷ judged 10 9 51 1000 (1000 ∷ []) 29
    ∷ []

-- the room is judged last of all
pub in_order : map code_of verdicts ≡ 2 ∷ 4 ∷ 5 ∷ 6 ∷ 7 ∷ 3 ∷ 3 ∷ 0 ∷ []
unfolding write_checks count_check room_check cycle_check red_check distance_check speed_check first_below text pair_lines digits_up_to
in_order = refl

pub in_place : map place_of verdicts ≡ 0 ∷ 0 ∷ 2 ∷ 2 ∷ 1 ∷ 0 ∷ 0 ∷ 0 ∷ []
unfolding write_checks count_check room_check cycle_check red_check distance_check speed_check first_below text pair_lines digits_up_to
in_place = refl

-- ---- street A, whose sheet has 36 bytes

abbrev sevens : ℕ → List ℕ
sevens n = replicate n 7

-- with one byte too few nothing is written; two bytes past the sheet stay
pub too_short : bytes_after street_A (sevens 35) ≡ sevens 35
unfolding write_checks count_check room_check cycle_check red_check distance_check speed_check first_below text pair_lines digits_up_to
too_short = refl

pub with_two-left : bytes_after street_A (sevens 38) ≡ sheet_A ++ 7 ∷ 7 ∷ []
unfolding write_checks count_check room_check cycle_check red_check distance_check speed_check first_below text pair_lines digits_up_to
with_two-left = refl

pub numbers_a :
    map (λ (room : ℕ). writing_numbers (writing_of street_A room)) (35 ∷ 36 ∷ 38 ∷ [])
    ≡ record { code = 3; place = 0; count = 0 } ∷ record { code = 0; place = 0; count = 36 } ∷ record { code = 0; place = 0; count = 36 } ∷ []
unfolding write_checks count_check room_check cycle_check red_check distance_check speed_check first_below text pair_lines digits_up_to
numbers_a = refl

-- a section has its count before its lines: `2`, `0 40`, `30000 50`
section_a : section_text (0 ∷ 30000 ∷ []) (40 ∷ 50 ∷ []) ≡ 50 ∷ 10 ∷ 48 ∷ 32 ∷ 52 ∷ 48 ∷ 10 ∷ 51 ∷ 48 ∷ 48 ∷ 48 ∷ 48 ∷ 32 ∷ 53 ∷ 48 ∷ 10 ∷ []
unfolding pair_lines digits_up_to
section_a = refl

-- so there is a street that is written, and a sheet that is read: the premises of both round trips
pub written_a : WritesSheet street_A (sevens 38) (sheet_A ++ 7 ∷ 7 ∷ []) (Ok 36)
unfolding write_checks count_check room_check cycle_check red_check distance_check speed_check first_below text pair_lines digits_up_to
written_a = record { reply = refl; after = refl }

pub read_a : Reads sheet_A (passing street_A)
read_a = reads (sym reading_a)

-- ---- the longest sheet: 32 signals, and every number with as many digits as its limit has

abbrev longest : Lists
longest = typed 6000 (replicate 32 1000) (list_below 32 (λ j. 10000000 + j)) (replicate 31 10000) (replicate 31 10000)

pub longest_passes : StreetPasses longest
unfolding count_check cycle_check red_check distance_check speed_check first_below list_below
longest_passes = refl

pub longest_sheet : length (text longest) ≡ max_sheet
unfolding text pair_lines digits_up_to list_below
longest_sheet = refl
