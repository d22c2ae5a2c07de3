-- One theorem over the table of rows: each row's reply and list by computation, and row 9's exact best by demand 3. Assumes nothing.
use mathlib.Core.Path.{refl}
use native.Mathlib.Omega.{arith}
use mathlib.Core.List.{◌++◌}
use Rattle.circle.specs.Over.{first_below, sum_below, list_below, all_below, over_below}
use Rattle.circle.specs.Bands.{greatest_up_to, clear, stretch, width}
use Rattle.circle.specs.Method.{u, pair_width, b, B, reference, phase, offset, equal_width, red_end, red_start}
use Rattle.circle.specs.Moved.{g, in_range, chosen, outbound_lowering, inbound_lowering, lowered, other_width, found_width, platoon_width}
use Rattle.street.specs.Checks.{count_check, room_check, cycle_check, red_check, distance_check, speed_check, plan_checks}
use Rattle.widths.specs.Moved.{platoon_shift}
use Rattle.traffic.specs.Checks.{volume_check}
use Rattle.widths.specs.Checks.{platoon_check, traffic_check, width_check}
use Rattle.promises.specs.Rows.{best_is, ExactBest, lent, Holds, All, two_signals, two_alike, street_A, school_street, long_cycle, plan, row, best_row, refusal, equal_rows, rounding_rows, width_rows, platoon_rows, volume_rows, crossing, one_red, no_red, resting_rows, rows}
use Rattle.promises.proofs.Streets.Directions.{near_exact}
use Rattle.promises.proofs.Kept.Bounds.{none-wider}
use Rattle.promises.proofs.Witnesses.{fine_link}

-- row 9's exact best: offsets 0, 0 attain it both ways, and none attain more, which is the bound by m at its numbers
nine : ExactBest (two_alike 10 5 50) (best_is 9)
unfolding ExactBest two_signals two_alike first_below sum_below u pair_width b B reference phase offset equal_width red_end red_start all_below greatest_up_to clear stretch width count_check room_check cycle_check red_check distance_check speed_check plan_checks over_below
nine = (
  (fine_link 10 5 5 0 50 1000 1 (omega arith) refl, ((λ j. 0), refl, refl)),
  λ N fine. none-wider (two_alike 10 5 50) 2 refl N 1 (near_exact (two_alike 10 5 50) 2 refl N fine),
)

pub rows_hold : All rows
unfolding All Holds ExactBest best_row row plan refusal rows equal_rows rounding_rows width_rows platoon_rows volume_rows resting_rows two_signals two_alike street_A school_street long_cycle crossing one_red no_red lent
rows_hold =
    unfold count_check room_check cycle_check red_check distance_check speed_check plan_checks platoon_check volume_check traffic_check width_check in
    unfold first_below sum_below list_below u pair_width b B reference phase offset equal_width red_end red_start g in_range chosen outbound_lowering inbound_lowering lowered other_width found_width platoon_width platoon_shift over_below all_below in
    let resting : All resting_rows = ((refl, refl, tt), ((refl, refl, tt), ((refl, refl, tt), ((refl, refl, tt), ((refl, refl, tt), ((refl, refl, tt), ((refl, refl, tt), ((refl, refl, tt), tt)))))))) in
    let volumes : All (volume_rows ++ resting_rows) = ((refl, refl, tt), ((refl, refl, tt), ((refl, refl, tt), ((refl, refl, tt), ((refl, refl, tt), ((refl, refl, tt), ((refl, refl, tt), ((refl, refl, tt), ((refl, refl, tt), ((refl, refl, tt), resting)))))))))) in
    let platoons : All (platoon_rows ++ (volume_rows ++ resting_rows)) = ((refl, refl, tt), ((refl, refl, tt), ((refl, refl, tt), ((refl, refl, tt), ((refl, refl, tt), ((refl, refl, tt), ((refl, refl, tt), ((refl, refl, tt), ((refl, refl, tt), volumes))))))))) in
    let widths : All (width_rows ++ (platoon_rows ++ (volume_rows ++ resting_rows))) = ((refl, refl, tt), ((refl, refl, tt), ((refl, refl, tt), ((refl, refl, tt), ((refl, refl, tt), ((refl, refl, tt), ((refl, refl, tt), ((refl, refl, tt), platoons)))))))) in
    let roundings : All (rounding_rows ++ (width_rows ++ (platoon_rows ++ (volume_rows ++ resting_rows)))) = ((refl, refl, tt), ((refl, refl, tt), widths)) in
    ((refl, refl, tt), ((refl, refl, tt), ((refl, refl, tt), ((refl, refl, tt), ((refl, refl, tt), ((refl, refl, nine), ((refl, refl, tt), roundings)))))))
