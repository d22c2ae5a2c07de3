-- Perturbation: starts, lags and reds may all move, each signal by its own amount, and a stretch shrinks by no more than the amounts spread. Each new red, as it is seen from
-- the departure, lies inside the old one moved by a - δ(j), round the cycle, with 0 ≤ δ(j) ≤ m: so the amounts lie in a window of length m. Departures a later then find each
-- red ended longer ago by between 0 and m, beyond what the red itself lost, and all but m of them still pass. Assumes nothing.
use Prim.Native.Nat.{ℕ, ◌+◌, ◌-◌, ◌≤◌, ◌<◌}
use mathlib.Core.Path.{◌≡◌, refl, subst}
use native.Mathlib.Omega.{arith}
use lib.IntN.{pos, ◌-ℤ◌}
use Rattle.circle.specs.Man.{man}
use Rattle.circle.specs.Bands.{Way}
use Rattle.circle.proofs.Numbers.Man.{Turns, man_turns}
use Rattle.circle.proofs.Stretches.Arcs.{since, Passes}
use Rattle.circle.proofs.Stretches.Since.{along, since_turns, passes_at}

-- signal j's red in z, seen from the departure, starts `inside` past the start of its red in w moved by a - δ, and ends no later than that red's end so moved
pub record Moved (w z : Way) (a m j : ℕ) : Type 0 where
  pub δ : ℕ
  pub within : δ ≤ m
  pub inside : ℕ
  pub fits : inside + z.length j ≤ w.length j
  pub turns : Turns w.around (z.start j + w.lag j + δ) (w.start j + z.lag j + a + inside)

-- two ways of one cycle and count, each of whose reds so moves
pub record Near (w z : Way) (a m : ℕ) : Type 0 where
  pub around : w.around ≡ z.around
  pub signals : w.signals ≡ z.signals
  pub each : (j : ℕ) → j < z.signals → 0 < z.length j → Moved w z a m j

-- all but m of k departures that pass through w pass through z, a later
pub near_passes : (w z : Way) (a m x k : ℕ) → Near w z a m → m ≤ k → Passes w x k → Passes z (x + a) (k - m)
near_passes w z a m x k n l passes =
    record {
      most = omega (arith, passes.most, n.around);
      each =
          λ j h r.
          let c = n.each j h r in
          let room = passes.each j (omega (arith, n.signals)) (omega (arith, c.fits)) in
          let α = since_turns w x j (omega (arith, c.fits)) in
          let g : ℕ = since w x j + c.δ + (w.length j - (c.inside + z.length j)) in
          let e : Turns w.around (g + (z.start j + z.length j)) (x + a + z.lag j) = record { p = α.p + c.turns.p; q = α.q + c.turns.q; eq = omega (arith, α.eq, c.turns.eq, c.fits) } in
          passes_at z (x + a) (k - m) j g r
          (omega (arith, n.around, c.within, c.fits))
          (subst (λ M. Turns M (g + (z.start j + z.length j)) (x + a + z.lag j)) n.around e);
    }

-- where only the lags move: the new one and a make up the old one and δ(j)
module _ (w : Way) (lag δ : ℕ → ℕ) (a m : ℕ) (moved : (j : ℕ) → j < w.signals → lag j + a ≡ w.lag j + δ j) (within : (j : ℕ) → j < w.signals → δ j ≤ m) where
  pub lags_passes : (x k : ℕ) → m ≤ k → Passes w x k → Passes (along w lag) (x + a) (k - m)
  lags_passes x k =
      near_passes w (along w lag) a m x k
      (record {
        around = refl;
        signals = refl;
        each =
            λ j h r.
            record {
              δ = δ j;
              within = within j h;
              inside = 0;
              fits = omega arith;
              turns = record { p = 0; q = 0; eq = omega (arith, moved j h) };
            };
      })

  -- and back
  pub lags_back : (x k : ℕ) → 0 < w.around → m ≤ k → Passes (along w lag) x k → Passes w (x + man w.around (pos m -ℤ pos a)) (k - m)
  lags_back x k around =
      let c = man_turns w.around m a around in
      near_passes (along w lag) w (man w.around (pos m -ℤ pos a)) m x k
      (record {
        around = refl;
        signals = refl;
        each =
            λ j h r.
            record {
              δ = m - δ j;
              within = omega arith;
              inside = 0;
              fits = omega arith;
              turns = record { p = c.q; q = c.p; eq = omega (arith, c.eq, moved j h, within j h) };
            };
      })

-- of k departures that pass, those from the a-th on pass, but for any at the end
pub part : (w : Way) (a m x k : ℕ) → a ≤ m → m ≤ k → Passes w x k → Passes w (x + a) (k - m)
part w a m x k l = lags_passes w w.lag (λ j. a) a m (λ j h. refl) (λ j h. l) x k
