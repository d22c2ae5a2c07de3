-- `bands::ends::ends` meets its contract. The loop's invariant: the array's entries before j are the red ends.
use Rattle.std.proofs.Common.{◌≡◌, ◌<◌, ℕ, length, get_or}
use Rattle.road.specs.Limits.{max_signals}
use Rattle.street.specs.Steps.{timed_by}
use Rattle.bands.specs.Steps.{end_of}
use Rattle.bands.proofs.ends.ends.Given as goal

abbrev pub invariant-loop-j : goal.invariant-loop-j
invariant-loop-j l =
    let s = l.s-inside in
    (length l.all ≡ max_signals)
    × ((k : ℕ) → k < l.j → get_or l.all k 0 ≡ end_of l.direction (timed_by s.cycle s.road.signals s.reds s.road.outbound s.road.inbound) l.offsets k)
