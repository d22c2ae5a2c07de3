-- Travel times, their rounding, and which links were rounded (01, 'Travel time').
use Rattle.std.specs.Prelude.{ℕ, ◌+◌, ◌-◌, ◌*◌, ◌/◌, ◌%◌, ◌≤◌, ◌<◌, Bool, not, List, get_or, eqb}
use Rattle.circle.specs.Over.{◌or◌, sum_below, count_below}

-- a link of d mm at v mm/s takes exactly 10d/v ticks; rounded to the nearest, one half going up, that is the whole part of 10d/v + 1/2
abbrev pub ticks : ℕ → ℕ → ℕ
ticks d v = (20 * d + v) / (2 * v)

-- t is the whole number nearest to 10d/v, one half going up: 10d/v is t - 1/2 or more and less than t + 1/2, here with 1/2 added and 2v times as large
pub record Nearest (d v t : ℕ) : Type 0 where
  pub least : 2 * v * t ≤ 20 * d + v
  pub below : 20 * d + v < 2 * v * t + 2 * v

-- whether 10d/v is a whole number of ticks
abbrev pub whole : ℕ → ℕ → Bool
whole d v = eqb (10 * d % v) 0

-- the length of link k, between the signals at k and k + 1 counted from 0, in mm
abbrev pub link_length : List ℕ → ℕ → ℕ
link_length distances k = get_or distances (k + 1) 0 - get_or distances k 0

-- one direction's time on link k, rounded by itself
abbrev pub link_ticks : List ℕ → List ℕ → ℕ → ℕ
link_ticks distances speeds k = ticks (link_length distances k) (get_or speeds k 0)

-- one direction's time over all links before the signal at j: a sum of rounded times, never a rounded sum
abbrev pub time_to : List ℕ → List ℕ → ℕ → ℕ
time_to distances speeds j = sum_below j (link_ticks distances speeds)

-- whether either direction's time on link k was not whole
abbrev pub rounded_link : List ℕ → List ℕ → List ℕ → ℕ → Bool
rounded_link distances outbound inbound k =
    not (whole (link_length distances k) (get_or outbound k 0)) or not (whole (link_length distances k) (get_or inbound k 0))

-- how many of the links between n signals have a rounded time
abbrev pub rounded_links : ℕ → List ℕ → List ℕ → List ℕ → ℕ
rounded_links n distances outbound inbound = count_below (n - 1) (rounded_link distances outbound inbound)
