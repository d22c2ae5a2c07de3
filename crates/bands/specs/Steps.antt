-- Steps: what the library's functions say to each other and to the proofs. No contract of a public call cites it.
-- A direction is its lags; seen from where it departs, a street is its reds' lengths and the instants at which they end.
use Rattle.std.specs.Prelude.{ℕ, ◌+◌, ◌-◌, ◌*◌, ◌<◌, ◌≡◌, List, pos, ◌-ℤ◌, length, get_or}
use Rattle.circle.specs.Man.{man}
use Rattle.circle.specs.Method.{Timed, halves, red_start}
use Rattle.circle.specs.Bands.{Way}
use Rattle.stretches.specs.Steps.{seen_by}
use Rattle.bands.specs.declared.Direction.{Direction}
use Rattle.bands.specs.declared.Direction.TheVariants.{Outbound, Inbound}

-- how long after its departure a car is at a signal, in halves, from the signal's travel times and the last signal's inbound one (01, 'Red, departure, band')
abbrev pub lag_by : Direction → ℕ → ℕ → ℕ → ℕ
lag_by Outbound out back last = 2 * out
lag_by Inbound out back last = 2 * (last - back)

-- the same at signal j of a street (01, 'Red, departure, band')
abbrev pub lag_of : Direction → Timed → ℕ → ℕ
lag_of direction s j = lag_by direction (s.outbound j) (s.inbound j) (s.inbound (s.signals - 1))

-- a direction's way under given offsets
abbrev pub way_of : Direction → Timed → List ℕ → Way
way_of direction s offsets =
    record {
      around = halves s;
      signals = s.signals;
      start = λ j. red_start s j (get_or offsets j 0);
      length = λ j. 2 * s.red j;
      lag = lag_of direction s;
    }

-- the instant, at the departure signal, of the car that comes to signal j as its red ends: the red's end is the offset and the red together (01, 'Red, departure, band')
abbrev pub end_of : Direction → Timed → List ℕ → ℕ → ℕ
end_of direction s offsets j = man (halves s) (pos (get_or offsets j 0 + s.red j) -ℤ pos (lag_of direction s j))

-- an offset for each signal, each below H (01, 'Red, departure, band')
pub record Placed (s : Timed) (offsets : List ℕ) : Type 0 where
  pub count : length offsets ≡ s.signals
  pub each : (j : ℕ) → j < s.signals → get_or offsets j 0 < halves s

-- a direction's red end for each signal
pub record Ended (direction : Direction) (s : Timed) (offsets ends : List ℕ) : Type 0 where
  pub each : (j : ℕ) → j < s.signals → get_or ends j 0 ≡ end_of direction s offsets j

-- a street's way, seen from where a direction departs, by its red ends (01, 'Red, departure, band')
abbrev pub seen : Timed → List ℕ → Way
seen s ends = seen_by (halves s) s.signals s.red ends
