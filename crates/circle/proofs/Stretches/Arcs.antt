-- The working form of a stretch: how long since each signal's red last ended. No proof after this one speaks of single instants. Assumes nothing.
use Prim.Native.Nat.{ℕ, ◌+◌, ◌≤◌, ◌<◌}
use native.Mathlib.Omega.{arith}
use native.Mathlib.Decide.{dec_le}
use lib.IntN.{pos, ◌-ℤ◌}
use Rattle.circle.specs.Man.{man}
use Rattle.circle.specs.Bands.{Way}

-- the time since signal j's red last ended, as the departure at x comes by
abbrev pub since : Way → ℕ → ℕ → ℕ
since w x j = man w.around (pos (x + w.lag j) -ℤ pos (w.start j + w.length j))

-- k departures from x on, at most the cycle, pass every signal that has a red before that red comes round again
pub record Passes (w : Way) (x k : ℕ) : Type 0 where
  pub most : k ≤ w.around
  pub each : (j : ℕ) → j < w.signals → 0 < w.length j → since w x j + k + w.length j ≤ w.around

-- a stretch of signed length v - a from x on, at most the cycle: each signal that has a red leaves room for v departures, or lacks a of it at most
pub record Spans (w : Way) (x v a : ℕ) : Type 0 where
  pub most : v ≤ w.around + a
  pub each : (j : ℕ) → j < w.signals → 0 < w.length j → since w x j + v + w.length j ≤ w.around + a

pub spans : {w : Way} {x k : ℕ} → Passes w x k → Spans w x k 0
spans passes = record { most = omega (arith, passes.most); each = λ j l r. omega (arith, passes.each j l r) }

-- a width that keeps to a bound where there is one keeps to it
pub where_some : (v top : ℕ) → (1 ≤ v → v ≤ top) → v ≤ top
where_some v top keeps = go (dec_le 1 v)
  where
    go : Dec (1 ≤ v) → v ≤ top
    go (yes some) = keeps some
    go (no none) = omega arith
