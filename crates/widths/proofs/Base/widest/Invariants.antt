-- `widths::Base::widest` meets its contract. The loop's invariant: `low` is the least H - 2r of the signals before `j`, of which there is one at least.
use Rattle.std.proofs.Common.{ℕ, ◌≡◌, ◌*◌, ◌≤◌, List, get_or, pos, ◌-ℤ◌}
use lib.IntN.{ℤ}
use Rattle.circle.specs.Over.{least_below}
use Rattle.widths.proofs.Base.widest.Given as goal

abbrev pub open_at : ℕ → List ℕ → ℕ → ℤ
open_at cycle reds j = pos (2 * cycle) -ℤ pos (2 * get_or reds j 0)

abbrev pub invariant-loop-j : goal.invariant-loop-j
invariant-loop-j l = (1 ≤ l.j) × (pos l.low ≡ least_below l.j (open_at l.s-inside.cycle l.s-inside.reds))
