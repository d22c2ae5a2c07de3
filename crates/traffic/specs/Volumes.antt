-- Vehicles an hour and platoons (02, 2026-03). A volume is in vehicles an hour, the cycle C and a headway h in ticks, a platoon and a width in halves.
use Rattle.std.specs.Prelude.{ℕ, ◌+◌, ◌-◌, ◌*◌, ◌/◌, ◌≤◌, ◌<◌}
use Rattle.street.specs.Limits.{max_volume}

-- half an hour, in ticks
abbrev pub half_hour : ℕ
half_hour = 18000

-- the platoon of a volume: V·C·h/18,000 halves, rounded up. An hour has twice 18,000 ticks, so V·C/36,000 vehicles come in a cycle, each of which takes h ticks; a tick has two halves
abbrev pub platoon_of : ℕ → ℕ → ℕ → ℕ
platoon_of C h volume = (volume * C * h + (half_hour - 1)) / half_hour

-- p is V·C·h/18,000 rounded up: the least number of halves that is not below it
pub record RoundedUp (C h volume p : ℕ) : Type 0 where
  pub enough : volume * C * h ≤ half_hour * p
  pub least : (q : ℕ) → volume * C * h ≤ half_hour * q → p ≤ q

-- the largest volume from 0 to 10,000 whose platoon fits the width w: it fits, and unless it is 10,000 the next one does not
pub record Largest (C h w volume : ℕ) : Type 0 where
  pub most : volume ≤ max_volume
  pub fits : platoon_of C h volume ≤ w
  pub next : volume < max_volume → w < platoon_of C h (volume + 1)
