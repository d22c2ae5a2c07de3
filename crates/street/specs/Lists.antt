-- The numbers that a caller hands over for a street, just as typed (01, 'Units and the street').
use Rattle.std.specs.Prelude.{ℕ, List, length}

-- the cycle in ticks, each signal's red in ticks and distance in mm, and each link's two speeds in mm/s
pub record Lists : Type 0 where
  pub cycle : ℕ
  pub reds : List ℕ
  pub distances : List ℕ
  pub outbound : List ℕ
  pub inbound : List ℕ

-- n: as many signals as there are reds
abbrev pub signals : Lists → ℕ
signals l = length l.reds

-- the record of the lists that a call is handed
abbrev pub typed : ℕ → List ℕ → List ℕ → List ℕ → List ℕ → Lists
typed cycle reds distances outbound inbound =
    record { cycle = cycle; reds = reds; distances = distances; outbound = outbound; inbound = inbound }
