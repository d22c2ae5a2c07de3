-- `bands::offset` meets its contract. The loop's invariant: no offset before j is a fault. So the first one that is not below H is the first fault, and where the loop ends
-- there is none.
use Prim.Native.Nat.{ℕ, ◌<◌}
use mathlib.Core.Bool.{false}
use mathlib.Core.Path.{◌≡◌}
use Rattle.bands.specs.Measure.{bad_offset}
use Rattle.bands.proofs.offset.Given as goal

abbrev pub invariant-loop-j : goal.invariant-loop-j
invariant-loop-j l = (k : ℕ) → k < l.j → bad_offset l.cycle l.offsets k ≡ false
