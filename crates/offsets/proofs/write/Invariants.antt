-- `offsets::write` meets its contract. The loop's invariant: the offsets before `j` are written, and the list is as it was from there on.
use Rattle.std.proofs.Common.{◌≡◌, ◌++◌, length, drop}
use Rattle.circle.specs.Over.{list_below}
use Rattle.street.specs.Steps.{timed_by}
use Rattle.offsets.specs.Moved.{moved_offset}
use Rattle.offsets.proofs.write.Given as goal

abbrev pub invariant-loop-j : goal.invariant-loop-j
invariant-loop-j l =
    let s = l.s-inside in
    (length l.offsets ≡ length l.initial.offsets)
    × (l.offsets ≡ list_below l.j (moved_offset l.shift (timed_by s.cycle s.road.signals s.reds s.road.outbound s.road.inbound)) ++ drop l.j l.initial.offsets)
