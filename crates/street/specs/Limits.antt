-- The limits of what a street has beside its road (01, 'Units and the street'). The code's associated constants are proved equal to these and to the road's.
use Rattle.std.specs.Prelude.{ℕ}

-- the cycle, in ticks
abbrev pub min_cycle : ℕ
min_cycle = 10

abbrev pub max_cycle : ℕ
max_cycle = 6000

-- a platoon, in halves; the least is 0
abbrev pub max_platoon : ℕ
max_platoon = 100000

-- a volume, in vehicles an hour; the least is 0 (02, 2026-03)
abbrev pub max_volume : ℕ
max_volume = 10000

-- a headway, in ticks (02, 2026-03)
abbrev pub min_headway : ℕ
min_headway = 1

abbrev pub max_headway : ℕ
max_headway = 100
