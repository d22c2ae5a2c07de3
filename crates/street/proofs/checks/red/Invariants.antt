-- `street::checks::red` meets its contract. The loop's invariant: no red before `i` is too long. So the red that ends it is the first fault, and at the
-- end there is none. The measure is what is left of the list.
use Prim.Native.Nat.{ℕ, ◌<◌}
use mathlib.Core.Bool.{false}
use mathlib.Core.Path.{◌≡◌}
use Rattle.street.specs.Checks.{bad_red}
use Rattle.street.proofs.checks.red.Given as goal

abbrev pub invariant-loop-i : goal.invariant-loop-i
invariant-loop-i l = (k : ℕ) → k < l.i → bad_red l.ticks l.reds k ≡ false
