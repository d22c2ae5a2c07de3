-- `road::Road::new` meets its contract. The loop's invariant: both sums are the times to the signal at `k`, m is counted over the links before it, and each array holds
-- the times up to it and zeros behind them.
use Prim.Native.Nat.{ℕ, ◌+◌}
use mathlib.Core.Path.{◌≡◌}
use mathlib.Core.List.{List, ◌++◌}
use lib.ListN.{drop, replicate}
use Rattle.circle.specs.Over.{count_below, list_below}
use Rattle.road.specs.Limits.{max_signals}
use Rattle.road.specs.Times.{time_to, rounded_link}
use Rattle.road.proofs.Road.new.Given as goal

-- an array that holds the times to the signals up to one
abbrev pub HoldsTimes : List ℕ → List ℕ → ℕ → List ℕ → Type 0
HoldsTimes distances speeds k all = all ≡ list_below (k + 1) (time_to distances speeds) ++ drop (k + 1) (replicate max_signals 0)

abbrev pub invariant-loop-k : goal.invariant-loop-k
invariant-loop-k l =
    record {
      out : l.out ≡ time_to l.distances l.outbound l.k;
      back : l.back ≡ time_to l.distances l.inbound l.k;
      rounded : l.rounded ≡ count_below l.k (rounded_link l.distances l.outbound l.inbound);
      there : HoldsTimes l.distances l.outbound l.k l.there;
      home : HoldsTimes l.distances l.inbound l.k l.home;
    }
