-- How a stretch is settled at one signal. A number in range that differs by whole turns from the time past the red's end is the time since the red ended. So a proof that k
-- departures pass names that time for each signal and adds it up. Assumes nothing.
use Prim.Native.Nat.{ℕ, ◌+◌, ◌-◌, ◌/◌, ◌%◌, ◌≤◌, ◌<◌}
use mathlib.Core.Path.{◌≡◌, ap}
use native.Mathlib.Omega.{arith}
use native.Mathlib.Nat.{mod-lt, mod-add-div'}
use Rattle.circle.specs.Man.{man}
use Rattle.circle.specs.Method.{Timed, halves, red_end, red_start}
use Rattle.circle.specs.Bands.{Way}
use Rattle.circle.proofs.Numbers.Signed.{pos_sub}
use Rattle.circle.proofs.Numbers.Man.{Turns, man_back, man_is, man_turns}
use Rattle.circle.proofs.Stretches.Arcs.{since}

-- the same signals under other lags
abbrev pub along : Way → (ℕ → ℕ) → Way
along w lag =
    record {
      around = w.around;
      signals = w.signals;
      start = w.start;
      length = w.length;
      lag = lag;
    }

-- no signal is farther inbound than the last one, so an inbound lag is a plain difference
abbrev pub Rising : Timed → Type 0
Rising s = (j : ℕ) → j < s.signals → s.inbound j ≤ s.inbound (s.signals - 1)

-- the time since j's red ended, added to that end, is the instant at j
pub since_turns : (w : Way) (x j : ℕ) → 0 < w.around → Turns w.around (since w x j + (w.start j + w.length j)) (x + w.lag j)
since_turns w x j h = man_turns w.around (x + w.lag j) (w.start j + w.length j) h

-- and a number in range that is so added up is that time
pub since_is : (w : Way) (x j g : ℕ) → g < w.around → Turns w.around (g + (w.start j + w.length j)) (x + w.lag j) → since w x j ≡ g
since_is w x j g less turns = man_is w.around (x + w.lag j) (w.start j + w.length j) g less turns

-- out of range such a number is at least that time
pub since_le : (w : Way) (x j g : ℕ) → 0 < w.around → Turns w.around (g + (w.start j + w.length j)) (x + w.lag j) → since w x j ≤ g
since_le w x j g h turns =
    let M = w.around in
    let split = mod-add-div' g M in
    let same = since_is w x j (g % M) (mod-lt g h) (record { p = turns.p + g / M; q = turns.q; eq = omega (arith, turns.eq) }) in
    omega arith

-- k departures from x on pass signal j where it leaves room for them before the next red
pub passes_at : (w : Way) (x k j g : ℕ) → 0 < w.length j → g + k + w.length j ≤ w.around → Turns w.around (g + (w.start j + w.length j)) (x + w.lag j) → since w x j + k + w.length j ≤ w.around
passes_at w x k j g red room turns = let same = since_is w x j g (omega arith) turns in omega arith

-- a red's start, and its end, are half its length before and after its offset
pub start_turns : (s : Timed) (j f : ℕ) → 0 < halves s → Turns (halves s) (red_start s j f + s.red j) f
unfolding red_start
start_turns s j f h = man_turns (halves s) f (s.red j) h

pub end_turns : (s : Timed) (j f : ℕ) → 0 < halves s → Turns (halves s) (red_end s j f) (f + s.red j)
unfolding red_end
end_turns s j f h =
    let c = man_back (halves s) (f + s.red j) 0 h in
    record { p = c.p; q = c.q; eq = omega (arith, c.eq, ap (man (halves s)) (pos_sub (f + s.red j))) }
