-- `survey::gathered` meets its contract. The loop's invariant: the rows before `i` are those of the lists.
use Prim.Native.Nat.{ℕ, ◌<◌}
use mathlib.Core.Path.{◌≡◌}
use lib.ListN.{length}
use Rattle.road.specs.Limits.{max_signals}
use Rattle.survey.specs.Typing.{in_rows, in_lists}
use Rattle.survey.proofs.gathered.Given as goal

abbrev pub invariant-loop-i : goal.invariant-loop-i
invariant-loop-i l =
    record {
      room : length l.rows ≡ max_signals;
      rows : (j : ℕ) → j < l.i → in_rows l.rows j ≡ in_lists l.kinds l.positions l.outbound l.inbound l.reds j;
    }
