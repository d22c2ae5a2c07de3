-- The witnesses by computation: the checks, the method's numbers, the exact widths and the measure of two signals on a cycle of 20 halves. A link's time is whole in the unit by one division.
-- Assumes nothing.
use Prim.Native.Nat.{ℕ, ◌+◌, ◌-◌, ◌*◌, ◌%◌, ◌<◌}
use mathlib.Core.Path.{◌≡◌, refl, ap, ◌∙◌}
use mathlib.Core.List.{[], ◌∷◌}
use native.Mathlib.Omega.{arith}
use lib.ListN.{get_or}
use Rattle.circle.specs.Over.{first_below, sum_below, list_below, all_below, over_below}
use Rattle.circle.specs.Method.{u, pair_width, b, B, reference, phase, offset, equal_width, red_end, red_start}
use Rattle.circle.specs.Bands.{greatest_up_to, clear, stretch, width, band_start}
use Rattle.circle.specs.Moved.{g, in_range, chosen, outbound_lowering, lowered, other_width}
use Rattle.street.specs.Checks.{count_check, room_check, cycle_check, red_check, distance_check, speed_check, plan_checks}
use Rattle.widths.specs.Checks.{width_check}
use Rattle.bands.specs.Measure.{size_check, offset_check, measure_checks}
use Rattle.promises.specs.Exact.{Fine}
use Rattle.promises.specs.Rows.{two_signals, plan}
use Rattle.promises.specs.Witnesses.{WiderByM, ShortByM, RedWithinM, MeasuredElsewhere}

-- the one link between two signals
pub fine_link : (cycle red red' at at' speed N : ℕ) → 0 < N → 20 * (at' - at) * N % speed ≡ 0 → Fine (two_signals cycle red red' at at' speed speed) N
unfolding two_signals
fine_link cycle red red' at at' speed N some whole = record { some = some; outbound = each; inbound = each }
  where
    each : (k : ℕ) → k < 1 → 20 * (get_or (at ∷ at' ∷ []) (k + 1) 0 - get_or (at ∷ at' ∷ []) k 0) * N % get_or (speed ∷ []) k 0 ≡ 0
    each k h =
        let e : k ≡ 0 = omega arith in
        ap (λ (i : ℕ). 20 * (get_or (at ∷ at' ∷ []) (i + 1) 0 - get_or (at ∷ at' ∷ []) i 0) * N % get_or (speed ∷ []) i 0) e ∙ whole

pub wider_by_m : WiderByM
unfolding two_signals first_below sum_below u pair_width b B reference phase offset equal_width red_end red_start all_below greatest_up_to clear stretch width count_check room_check cycle_check red_check distance_check speed_check plan_checks over_below
wider_by_m = ((refl, refl, fine_link 10 6 4 3350 3800 3000 1 (omega arith) refl), refl, refl, refl)

pub short_by_m : ShortByM
unfolding two_signals first_below sum_below u pair_width b B reference phase offset equal_width red_end red_start all_below greatest_up_to clear stretch width count_check room_check cycle_check red_check distance_check speed_check plan_checks over_below
short_by_m = ((refl, refl, fine_link 10 1 1 0 450 1000 1 (omega arith) refl), refl, refl, refl)

pub red_within_m : RedWithinM
unfolding two_signals first_below sum_below u pair_width b B reference phase offset equal_width red_end red_start all_below greatest_up_to clear stretch width count_check room_check cycle_check red_check distance_check speed_check plan_checks over_below
red_within_m = (
  (refl, refl, fine_link 10 1 1 0 450 1000 100 (omega arith) refl),
  (refl, refl, fine_link 10 1 1 0 250 1000 100 (omega arith) refl),
  (refl, refl),
  (refl, refl),
  (refl, refl),
  (refl, refl),
)

pub measured_elsewhere : MeasuredElsewhere
unfolding two_signals plan first_below sum_below list_below u pair_width b B reference phase offset equal_width red_end red_start all_below greatest_up_to clear stretch width band_start g in_range chosen outbound_lowering lowered other_width count_check room_check cycle_check red_check distance_check speed_check plan_checks width_check size_check offset_check measure_checks over_below
measured_elsewhere = (refl, refl, refl, refl)
