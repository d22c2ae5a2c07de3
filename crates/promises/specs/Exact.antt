-- Both directions through a street at rounded and at exact times (01, 'Travel time', and 'Red, departure, band', last paragraph), counted in a unit of N to the half. Cycle, reds, offsets
-- and times are in that unit; bands are measured by the same definitions as everywhere.
use Rattle.std.specs.Prelude.{ℕ, ◌-◌, ◌*◌, ◌/◌, ◌%◌, ◌<◌, ◌≡◌, List, get_or}
use Rattle.circle.specs.Over.{sum_below}
use Rattle.circle.specs.Method.{in_units}
use Rattle.circle.specs.Bands.{Way, way_through, outbound_way, inbound_way}
use Rattle.road.specs.Times.{link_length}
use Rattle.street.specs.Lists.{Lists, signals}
use Rattle.street.specs.Streets.{timed}

-- a unit of N to the half, N above 0, is fine for a street where on every link each direction's speed divides 20dN, so that no exact time has a fraction (01, 'Red, departure,
-- band')
pub record Fine (l : Lists) (N : ℕ) : Type 0 where
  pub some : 0 < N
  pub outbound : (k : ℕ) → k < signals l - 1 → 20 * link_length l.distances k * N % get_or l.outbound k 0 ≡ 0
  pub inbound : (k : ℕ) → k < signals l - 1 → 20 * link_length l.distances k * N % get_or l.inbound k 0 ≡ 0

-- one direction's exact time on link k: d mm at v mm/s take 10d/v ticks, and a tick has 2N units (01, 'Travel time')
abbrev pub exact_link : ℕ → List ℕ → List ℕ → ℕ → ℕ
exact_link N distances speeds k = 20 * link_length distances k * N / get_or speeds k 0

-- one direction's exact time over all links before the signal at j, nothing rounded (01, 'Travel time')
abbrev pub exact_to : ℕ → List ℕ → List ℕ → ℕ → ℕ
exact_to N distances speeds j = sum_below j (exact_link N distances speeds)

-- both directions through a street, each a way by the offsets, and how many of the unit make a half
pub record Ways : Type 0 where
  pub unit : ℕ
  pub outbound : (ℕ → ℕ) → Way
  pub inbound : (ℕ → ℕ) → Way

-- at rounded times, with offsets and departures at every instant of the unit: whole halves where N is 1, finer ones above
abbrev pub rounded_ways : Lists → ℕ → Ways
rounded_ways l N = record { unit = N; outbound = outbound_way (in_units N (timed l)); inbound = inbound_way (in_units N (timed l)) }

-- at exact times: outbound counted at signal 1, inbound at signal n
abbrev pub exact_ways : Lists → ℕ → Ways
exact_ways l N =
    let out = exact_to N l.distances l.outbound in
    let back = exact_to N l.distances l.inbound in
    record {
      unit = N;
      outbound = λ f. way_through (in_units N (timed l)) f out;
      inbound = λ f. way_through (in_units N (timed l)) f (λ j. back (signals l - 1) - back j);
    }
