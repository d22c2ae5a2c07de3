-- `digits` meets its contract. The loop's invariant: from here on the number is what it was from the start. The measure is the rest, of which
-- each digit takes one.
use Rattle.std.proofs.Common.{◌≡◌, length}
use Rattle.sheet.specs.Steps.Numbers.{more}
use Rattle.sheet.proofs.digits.Given as goal

abbrev pub invariant-loop-byte : goal.invariant-loop-byte
invariant-loop-byte l = record { same : more l.end l.value l.rest ≡ more l.end l.first l.bytes }

abbrev pub decreases-loop-byte : goal.decreases-loop-byte
decreases-loop-byte l = length l.rest
