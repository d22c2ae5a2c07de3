-- The two directions of a street, at rounded times and at exact ones. Counted in a finer unit the rounded times are as they were. Where the checks found no fault every speed is above 0, so each
-- link obeys the law of one link, and a link that is rounded in either direction counts: each direction's exact lags stay within a window of N times m about its rounded ones. So both kinds
-- of times are lags near the rounded ones, within r halves, r being 0 or m; what comes after is said once, of any such lags. Assumes nothing.
use Rattle.std.specs.Prelude.{Ok}
use Prim.Native.Nat.{ℕ, ◌-◌, ◌*◌, ◌<◌}
use mathlib.Core.Path.{◌≡◌}
use native.Mathlib.Omega.{arith}
use Rattle.circle.specs.Method.{in_units}
use Rattle.circle.specs.Bands.{Way, way_through, outbound_way, inbound_way}
use Rattle.circle.proofs.Bands.{Finer, outbound_finer, inbound_finer}
use Rattle.road.specs.Times.{link_ticks, rounded_link}
use Rattle.road.proofs.Nearest.{link_near, out_marked, back_marked}
use Rattle.street.specs.Lists.{Lists, signals}
use Rattle.street.specs.Checks.{plan_checks}
use Rattle.street.specs.Streets.{m, timed}
use Rattle.street.proofs.Passed.{in_limits}
use Rattle.promises.specs.Exact.{Fine, exact_link, Ways, rounded_ways, exact_ways}
use Rattle.promises.proofs.Streets.Passing.{fit}
use Rattle.promises.proofs.Streets.Windows.{Window, unmoved, from_first, to_last}

-- the way through a street in a unit of N to the half, under offsets f and given lags
abbrev pub way_in : Lists → ℕ → (ℕ → ℕ) → (ℕ → ℕ) → Way
way_in l N f lag = way_through (in_units N (timed l)) f lag

-- the lags of one direction, rounded in halves, rounded in units of N to the half, and some near them: the first two are the same, and the third stay within r halves
pub record Direction (l : Lists) (N r : ℕ) (coarse rounded near : ℕ → ℕ) : Type 0 where
  pub finer : (f : ℕ → ℕ) → Finer N (way_through (timed l) f coarse) (way_in l N (λ j. N * f j) rounded)
  pub window : Window (signals l - 1) (N * r) rounded near

-- lags of that kind in both directions
pub record Near (l : Lists) (N r : ℕ) (out back : ℕ → ℕ) : Type 0 where
  pub some : 0 < N
  pub outwards : Direction l N r (outbound_way (timed l) (λ j. 0)).lag (outbound_way (in_units N (timed l)) (λ j. 0)).lag out
  pub inwards : Direction l N r (inbound_way (timed l) (λ j. 0)).lag (inbound_way (in_units N (timed l)) (λ j. 0)).lag back

-- and the ways along them
abbrev pub ways_by : Lists → ℕ → (ℕ → ℕ) → (ℕ → ℕ) → Ways
ways_by l N out back = record { unit = N; outbound = λ f. way_in l N f out; inbound = λ f. way_in l N f back }

module _ (l : Lists) (room : ℕ) (passed : plan_checks l room ≡ (Ok tt)) (N : ℕ) where
  pub near_rounded : 0 < N → Near l N 0 ((rounded_ways l N).outbound (λ j. 0)).lag ((rounded_ways l N).inbound (λ j. 0)).lag
  near_rounded some =
      let turns = (fit l room passed).turns in
      record {
        some = some;
        outwards = record { finer = λ f. outbound_finer N (timed l) f some turns; window = unmoved (signals l - 1) (outbound_way (in_units N (timed l)) (λ j. 0)).lag (N * 0) };
        inwards = record { finer = λ f. inbound_finer N (timed l) f some turns; window = unmoved (signals l - 1) (inbound_way (in_units N (timed l)) (λ j. 0)).lag (N * 0) };
      }

  pub near_exact : Fine l N → Near l N (m l) ((exact_ways l N).outbound (λ j. 0)).lag ((exact_ways l N).inbound (λ j. 0)).lag
  near_exact fine =
      let turns = (fit l room passed).turns in
      let ok = in_limits l room passed in
      let marks = rounded_link l.distances l.outbound l.inbound in
      record {
        some = fine.some;
        outwards = record {
          finer = λ f. outbound_finer N (timed l) f fine.some turns;
          window =
              from_first N (signals l - 1) (link_ticks l.distances l.outbound) (exact_link N l.distances l.outbound) marks
              (λ k h.
              let slow = ok.outbound.slow k (omega (arith, ok.counts.outbound)) in
              link_near l.distances l.outbound l.inbound N k l.outbound (out_marked l.distances l.outbound l.inbound N k) (omega arith) (fine.outbound k h));
        };
        inwards = record {
          finer = λ f. inbound_finer N (timed l) f fine.some turns;
          window =
              to_last N (signals l - 1) (link_ticks l.distances l.inbound) (exact_link N l.distances l.inbound) marks
              (λ k h.
              let slow = ok.inbound.slow k (omega (arith, ok.counts.inbound)) in
              link_near l.distances l.outbound l.inbound N k l.inbound (back_marked l.distances l.outbound l.inbound N k) (omega arith) (fine.inbound k h));
        };
      }
