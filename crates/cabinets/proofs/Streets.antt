-- The streets by computation. Assumes nothing.
use mathlib.Core.Path.{refl}
use native.Mathlib.Omega.{arith}
use Rattle.circle.specs.Over.{first_below, sum_below, list_below, all_below, over_below}
use Rattle.circle.specs.Method.{u, pair_width, b, B, reference, phase, offset, equal_width, red_end, red_start}
use Rattle.circle.specs.Bands.{greatest_up_to, clear, stretch, width}
use Rattle.circle.specs.Moved.{lowered}
use Rattle.street.specs.Checks.{count_check, room_check, cycle_check, red_check, distance_check, speed_check}
use Rattle.promises.specs.Rows.{two_signals, plan}
use Rattle.promises.proofs.Witnesses.{fine_link}
use Rattle.seconds.specs.Seconds.{seconds_check, second_of}
use Rattle.cabinets.specs.Streets.{OutwardLoses, InwardLoses, OtherEnds}

pub outward-loses : OutwardLoses
unfolding two_signals plan first_below sum_below list_below u pair_width b B reference phase offset equal_width red_end red_start lowered all_below over_below greatest_up_to clear stretch width count_check room_check cycle_check red_check distance_check speed_check seconds_check second_of
outward-loses = (refl, refl, refl, (refl, refl), (refl, refl), fine_link 30 9 10 0 2850 1000 1 (omega arith) refl, refl, (refl, refl))

pub inward-loses : InwardLoses
unfolding two_signals plan first_below sum_below list_below u pair_width b B reference phase offset equal_width red_end red_start lowered all_below over_below greatest_up_to clear stretch width count_check room_check cycle_check red_check distance_check speed_check seconds_check second_of
inward-loses = (refl, refl, refl, (refl, refl), (refl, refl), fine_link 30 10 9 0 2850 1000 1 (omega arith) refl, refl, (refl, refl))

pub other_ends : OtherEnds
unfolding two_signals plan first_below sum_below list_below u pair_width b B reference phase offset equal_width red_end red_start lowered all_below over_below greatest_up_to clear stretch width count_check room_check cycle_check red_check distance_check speed_check seconds_check second_of
other_ends = (refl, refl, fine_link 30 10 10 0 2950 1000 1 (omega arith) refl, (refl, refl), refl, refl, fine_link 30 9 9 0 2950 1000 1 (omega arith) refl, (refl, refl))
