-- `street::checks::speed` meets its contract, as that of the reds does: no link before `i` is off its speeds.
use Prim.Native.Nat.{ℕ, ◌<◌}
use mathlib.Core.Bool.{false}
use mathlib.Core.Path.{◌≡◌}
use Rattle.street.specs.Checks.{bad_speed}
use Rattle.street.proofs.checks.speed.Given as goal

abbrev pub invariant-loop-i : goal.invariant-loop-i
invariant-loop-i l = (k : ℕ) → k < l.i → bad_speed l.outbound l.inbound k ≡ false
