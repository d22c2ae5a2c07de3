-- `seconds::convert` meets its contract. The loop's invariant: the entries before `j` are seconds, and the list is as it was from there on.
use Prim.Native.Nat.{ℕ}
use mathlib.Core.Path.{◌≡◌}
use mathlib.Core.List.{List, ◌++◌}
use lib.ListN.{drop, get_or}
use Rattle.circle.specs.Over.{list_below}
use Rattle.seconds.specs.Seconds.{second_of}
use Rattle.seconds.proofs.convert.Given as goal

-- the seconds of a list of offsets
abbrev pub seconds : ℕ → ℕ → List ℕ → List ℕ → ℕ → ℕ
seconds cycle frame reds list j = second_of cycle frame (get_or list j 0) (get_or reds j 0)

abbrev pub invariant-loop-j : goal.invariant-loop-j
invariant-loop-j l =
    l.list ≡ list_below l.j (seconds l.cycle l.frame l.reds l.initial.list) ++ drop l.j l.initial.list
