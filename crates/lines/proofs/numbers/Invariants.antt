-- `lines::numbers` meets its contract. The loop's invariant: there are as many entries as may be named, no more of them are the line's, and the rest is one of the bytes and no longer than they are. The measure is the rest, of which each number takes some. Assumes nothing.
use Rattle.std.proofs.Common.{◌≡◌, ◌≤◌, length}
use Rattle.lines.specs.Steps.{max_entries, IsRest}
use Rattle.lines.proofs.numbers.Given as goal

abbrev pub invariant-loop-value : goal.invariant-loop-value
invariant-loop-value l = record { all_entries : length l.entries ≡ max_entries; count_fits : l.count ≤ max_entries; rest_within : IsRest l.bytes l.rest; no_longer : length l.rest ≤ length l.bytes }

abbrev pub decreases-loop-value : goal.decreases-loop-value
decreases-loop-value l = length l.rest
