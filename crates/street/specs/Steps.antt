-- Steps: what the library's functions say to each other and to the proofs. No contract of a public call cites it.
use Rattle.std.specs.Prelude.{ℕ, ◌-◌, ◌*◌, ◌≤◌, ◌<◌, List, get_or, Result}
use Rattle.circle.specs.Method.{Timed}
use Rattle.road.specs.Limits.{min_signals, max_signals}
use Rattle.road.specs.Steps.{max_time, padded, road_of}
use Rattle.street.specs.Limits.{min_cycle, max_cycle}
use Rattle.street.specs.Lists.{Lists, signals}
use Rattle.street.specs.Checks.{plan_checks}
use Rattle.road.specs.declared.Road.{Road}
use Rattle.street.specs.declared.Refusal.{Refusal}
use Rattle.street.specs.Verdicts.{answered}

-- the longest cycle, in halves
abbrev pub max_halves : ℕ
max_halves = 2 * max_cycle

-- a street whose checks have all passed: a road, the cycle in ticks, and each signal's red in ticks
pub record Checked : Type 0 where
  pub road : Road
  pub cycle : ℕ
  pub reds : List ℕ

-- the street of lists that pass every check
abbrev pub street_of : Lists → Checked
street_of l =
    record {
      road = road_of (signals l) l.distances l.outbound l.inbound;
      cycle = l.cycle;
      reds = padded (signals l) (λ j. get_or l.reds j 0);
    }

-- what the constructor answers to a plan's lists and the lent list's room
abbrev pub built : Lists → ℕ → Result Checked Refusal
built l room = answered (plan_checks l room) (street_of l)

-- a street as the method takes it, of a cycle, a number of signals and their reds, whatever the times are
abbrev pub timed_with : ℕ → ℕ → List ℕ → (ℕ → ℕ) → (ℕ → ℕ) → Timed
timed_with cycle n reds outbound inbound =
    record { cycle = cycle; signals = n; red = λ j. get_or reds j 0; outbound = outbound; inbound = inbound }

-- with the times in arrays too, as a street's numbers are handed on one by one
abbrev pub timed_by : ℕ → ℕ → List ℕ → List ℕ → List ℕ → Timed
timed_by cycle n reds outbound inbound = timed_with cycle n reds (λ j. get_or outbound j 0) (λ j. get_or inbound j 0)

-- and of a street
abbrev pub timed_street : Checked → Timed
timed_street s = timed_by s.cycle s.road.signals s.reds s.road.outbound s.road.inbound

-- what holds of every street whose checks passed: what the search builds on. Its inbound times grow along it, so that none is above signal n's
pub record Sound (s : Timed) : Type 0 where
  pub some : min_signals ≤ s.signals
  pub few : s.signals ≤ max_signals
  pub out : (k : ℕ) → k < s.signals → s.outbound k ≤ max_time
  pub back : (k : ℕ) → k < s.signals → s.inbound k ≤ max_time
  pub onward : (k : ℕ) → k < s.signals → s.inbound k ≤ s.inbound (s.signals - 1)
  pub shortest : min_cycle ≤ s.cycle
  pub longest : s.cycle ≤ max_cycle
  pub goes : (k : ℕ) → k < s.signals → s.red k < s.cycle
