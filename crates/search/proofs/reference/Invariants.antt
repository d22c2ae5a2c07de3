-- `search::reference` meets its contract. The first loop's invariant: the rows before `i` are filled. The second's: `signal` leads among the candidates before `k`, the
-- first of those with the greatest rank, which `most` is.
use Rattle.std.proofs.Common.{ℕ, ◌≡◌, ◌<◌, List, [], length, get_or}
use Rattle.road.specs.Limits.{max_signals}
use Rattle.circle.proofs.Formulas.{rank}
use Rattle.street.specs.Steps.{timed_with, Sound}
use Rattle.search.proofs.Leading.{Leading}
use Rattle.search.specs.Steps.{PairRow, Reduced}
use Rattle.search.proofs.reference.Given as goal

-- who leads after k candidates, whatever the times are
abbrev pub Leads : ℕ → ℕ → List ℕ → List ℕ → ℕ → ℕ → ℕ → Type 0
Leads cycle n reds x k signal most =
    (out back : ℕ → ℕ) → Sound (timed_with cycle n reds out back) → Reduced (timed_with cycle n reds out back) x →
    Leading (rank (timed_with cycle n reds out back)) k signal most

abbrev pub invariant-loop-i : goal.invariant-loop-i
invariant-loop-i l = (length l.widths ≡ max_signals) × ((q : ℕ) → q < l.i → PairRow l.cycle l.n l.reds l.anchors q (get_or l.widths q []))

abbrev pub invariant-loop-k : goal.invariant-loop-k
invariant-loop-k l = Leads l.cycle l.n l.reds l.anchors l.k l.signal l.most
