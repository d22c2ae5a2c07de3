-- `stretches::longest` meets its contract. The loop's invariant: `least` is the least of the cycle and of what the reds before j leave. A turn takes the red at j in,
-- and the least of all of them is the longest stretch.
use mathlib.Core.Path.{◌≡◌}
use lib.ListN.{get_or, length}
use Rattle.circle.proofs.Numbers.Over.{min_below}
use Rattle.circle.proofs.Stretches.{left}
use Rattle.stretches.specs.Steps.{seen_by}
use Rattle.stretches.proofs.longest.Given as goal

abbrev pub invariant-loop-j : goal.invariant-loop-j
invariant-loop-j l = l.least ≡ min_below l.h l.j (left (seen_by l.h (length l.reds) (λ k. get_or l.reds k 0) l.ends) l.x)
