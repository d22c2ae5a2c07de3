-- `street::checks::distance` meets its contract, as that of the reds does: no distance before `i` is misplaced.
use Prim.Native.Nat.{ℕ, ◌<◌}
use mathlib.Core.Bool.{false}
use mathlib.Core.Path.{◌≡◌}
use Rattle.street.specs.Checks.{bad_distance}
use Rattle.street.proofs.checks.distance.Given as goal

abbrev pub invariant-loop-i : goal.invariant-loop-i
invariant-loop-i l = (k : ℕ) → k < l.i → bad_distance l.distances k ≡ false
