-- `omega` alone, so that a refusal names the count of numbers at which one more would find no room.
use Rattle.std.proofs.Common.{arith}
use Rattle.lines.proofs.numbers.Goals as goal

pub bounds-entries-count : goal.bounds-entries-count
bounds-entries-count c = omega arith
