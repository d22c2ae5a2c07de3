-- Steps: what the library's functions say to each other and to the proofs. No contract of a public call cites it.
use Rattle.std.specs.Prelude.{ℕ, ◌+◌, ◌-◌, ◌*◌, ◌/◌, ◌≤◌, ◌<◌, ◌≡◌, List, ◌++◌, length, get_or, drop, replicate}
use Rattle.circle.specs.Over.{list_below}
use Rattle.road.specs.Limits.{max_signals, max_distance, min_speed, max_speed}
use Rattle.road.specs.Times.{time_to, rounded_links}
use Rattle.road.specs.declared.Road.{Road}

-- a link's time in ticks is at most that of the whole distance at the least speed, and one tick for its rounding
abbrev pub max_link_time : ℕ
max_link_time = 10 * max_distance / min_speed + 1

-- and the time of a way along the road at most that on every link
abbrev pub max_time : ℕ
max_time = (max_signals - 1) * max_link_time

-- distances and one direction's speeds that have passed the checks: one distance more than speeds, none below the one before, none after the first too great, and all speeds in range
pub record Driveable (distances speeds : List ℕ) : Type 0 where
  pub ends : length distances ≡ length speeds + 1
  pub few : length distances ≤ max_signals
  pub rising : (k : ℕ) → k < length speeds → get_or distances k 0 ≤ get_or distances (k + 1) 0
  pub near : (k : ℕ) → k < length speeds → get_or distances (k + 1) 0 ≤ max_distance
  pub slow : (k : ℕ) → k < length speeds → min_speed ≤ get_or speeds k 0
  pub fast : (k : ℕ) → k < length speeds → get_or speeds k 0 ≤ max_speed

-- an array of which every entry is 0
abbrev pub Zeros : List ℕ → Type 0
Zeros all = all ≡ replicate max_signals 0

-- as many entries as a road can have signals: f at the indices below n, and 0 from there on
abbrev pub padded : ℕ → (ℕ → ℕ) → List ℕ
padded n f = list_below n f ++ drop n (replicate max_signals 0)

-- the road of n signals with these distances and speeds: the times to each signal, and how many links have a rounded one. No cycle enters
abbrev pub road_of : ℕ → List ℕ → List ℕ → List ℕ → Road
road_of n distances outbound inbound =
    record {
      signals = n;
      outbound = padded n (time_to distances outbound);
      inbound = padded n (time_to distances inbound);
      rounded = rounded_links n distances outbound inbound;
    }
