-- What the theory asks of a street holds of every street that the checks pass: a signal, every red below the cycle, and inbound times that grow with the distance.
-- Assumes nothing.
use Rattle.std.specs.Prelude.{Ok}
use Prim.Native.Nat.{ℕ, ◌-◌, ◌<◌}
use mathlib.Core.Path.{◌≡◌}
use native.Mathlib.Omega.{arith}
use Rattle.circle.proofs.Formulas.{Fit}
use Rattle.circle.proofs.Stretches.{Rising}
use Rattle.circle.proofs.Bands.{scaled, fit_scaled, rising_scaled, Bounded, bound}
use Rattle.circle.proofs.Numbers.{sum_rises}
use Rattle.road.specs.Times.{link_ticks}
use Rattle.street.specs.Lists.{Lists, signals}
use Rattle.street.specs.Checks.{plan_checks}
use Rattle.street.specs.Streets.{timed}
use Rattle.street.proofs.Passed.{in_limits}

module _ (l : Lists) (room : ℕ) (passed : plan_checks l room ≡ (Ok tt)) where
  pub fit : Fit (timed l)
  fit =
      let ok = in_limits l room passed in
      record {
        some = ok.counts.least;
        turns = omega (arith, ok.cycle.low);
        goes = λ k h. omega (arith, ok.reds k h, ok.cycle.low);
      }

  pub rising : Rising (timed l)
  rising j h = sum_rises (link_ticks l.distances l.inbound) (signals l - 1) j (omega arith)

  -- two bands make 2B at most, in halves and in finer units
  pub bounded : Bounded (timed l)
  bounded = bound (timed l) fit rising

  pub bounded_fine : (N : ℕ) → 0 < N → Bounded (scaled N (timed l))
  bounded_fine N fine =
      bound (scaled N (timed l)) (fit_scaled N (timed l) fine fit) (rising_scaled N (timed l) fine fit rising)
