-- `lines::digits` meets its contract. The loop's invariant: the rest is one of the bytes and no longer than they are. The measure is the rest, of which each digit takes one byte. Assumes nothing.
use Rattle.std.proofs.Common.{◌≤◌, length}
use Rattle.lines.specs.Steps.{IsRest}
use Rattle.lines.proofs.digits.Given as goal

abbrev pub invariant-loop-next : goal.invariant-loop-next
invariant-loop-next l = record { rest_within : IsRest l.bytes l.rest; no_longer : length l.rest ≤ length l.bytes }

abbrev pub decreases-loop-next : goal.decreases-loop-next
decreases-loop-next l = length l.rest
