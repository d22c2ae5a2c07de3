-- The limits of a road (01, 'Units and the street').
use Rattle.std.specs.Prelude.{ℕ}

-- signals on it
abbrev pub min_signals : ℕ
min_signals = 1

abbrev pub max_signals : ℕ
max_signals = 32

-- a distance from the origin, in mm; the least is 0
abbrev pub max_distance : ℕ
max_distance = 20000000

-- a speed on a link, in mm/s
abbrev pub min_speed : ℕ
min_speed = 1000

abbrev pub max_speed : ℕ
max_speed = 40000
