-- `search::reduce` meets its contract. The loop's invariant: the array holds the anchors of the signals before `k`.
use Rattle.std.proofs.Common.{◌≡◌, ◌<◌, ℕ, length, get_or}
use Rattle.road.specs.Limits.{max_signals}
use Rattle.street.specs.Steps.{timed_by}
use Rattle.search.specs.Steps.{anchor}
use Rattle.search.proofs.reduce.Given as goal

abbrev pub invariant-loop-k : goal.invariant-loop-k
invariant-loop-k l =
    let s = l.s-inside in
    (length l.anchors ≡ max_signals) × ((q : ℕ) → q < l.k → get_or l.anchors q 0 ≡ anchor (timed_by s.cycle s.road.signals s.reds s.road.outbound s.road.inbound) q)
