-- `search::least` meets its contract. The loop's invariant: `low` is the least over the limits before the index, and over the first, which is looked at twice: from 0 on, the
-- limits fill whole vectors.
use Rattle.std.proofs.Common.{◌≡◌, max, pos}
use Rattle.circle.specs.Over.{least_below}
use Rattle.search.specs.Steps.{wider}
use Rattle.search.proofs.least.Given as goal

abbrev pub invariant-loop-widths : goal.invariant-loop-widths
invariant-loop-widths l = pos l.low ≡ least_below (max 1 l.widths-index) (λ q. pos (wider l.row q))
