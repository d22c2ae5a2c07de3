-- `search::fill` meets its contract. The loop's invariant: the row holds the pairs of the limits before `j`.
use Rattle.std.proofs.Common.{◌≡◌, ◌<◌, ℕ, [], length, get_or}
use Rattle.road.specs.Limits.{max_signals}
use Rattle.search.specs.Steps.{pair_of}
use Rattle.search.proofs.fill.Given as goal

abbrev pub invariant-loop-j : goal.invariant-loop-j
invariant-loop-j l = (length l.row ≡ max_signals) × ((q : ℕ) → q < l.j → get_or l.row q [] ≡ pair_of l.cycle l.from (get_or l.anchors q 0) (get_or l.reds q 0))
