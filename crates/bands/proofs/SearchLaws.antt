-- A sound street's reds fit its cycle, and two ways whose reds end at the same instants, seen from the departure, have the same band. Assumes nothing.
use Prim.Native.Nat.{ℕ, ◌+◌, ◌*◌, ◌≤◌, ◌<◌}
use mathlib.Core.Path.{◌≡◌, refl, sym, ap, ap₂}
use mathlib.Core.List.{List}
use native.Mathlib.Omega.{arith}
use lib.IntN.{pos, ◌-ℤ◌}
use lib.ListN.{length, get_or, take}
use Rattle.std.proofs.lemmas.List.{length-take-le, get_or-take}
use Rattle.circle.specs.Man.{man}
use Rattle.circle.specs.Method.{Timed, halves, red_start}
use Rattle.circle.specs.Bands.{Way}
use Rattle.circle.proofs.Numbers.{man_lt, man_is, man_turns}
use Rattle.circle.proofs.Stretches.{Alike, width_alike, start_alike}
use Rattle.street.specs.Steps.{Sound}
use Rattle.stretches.specs.Stretches.{band_of}
use Rattle.stretches.specs.Steps.{Fitting, seen_by}
use Rattle.bands.specs.Steps.{seen}

-- an instant on the cycle for each signal, from 0 to H - 1
pub record OnCycle (s : Timed) (ends : List ℕ) : Type 0 where
  pub each : (j : ℕ) → j < s.signals → get_or ends j 0 < halves s

-- a sound street's reds fit its cycle
pub fitting : (s : Timed) (ends : List ℕ) → Sound s → OnCycle s ends → Fitting (halves s) s.signals s.red ends
fitting s ends ok on =
    record {
      turns = omega (arith, ok.shortest);
      goes = λ j l. omega (arith, ok.goes j l);
      each = on.each;
    }

-- a street seen from the departure, and the way itself: the same departures are clear
pub seen_alike : (s : Timed) (offsets ends : List ℕ) (lag : ℕ → ℕ) → 0 < s.cycle → ((j : ℕ) → j < s.signals → get_or ends j 0 ≡ man (halves s) (pos (get_or offsets j 0 + s.red j) -ℤ pos (lag j))) → Alike (seen s ends) (record { around = halves s; signals = s.signals; start = λ j. red_start s j (get_or offsets j 0); length = λ j. 2 * s.red j; lag = lag })
unfolding red_start
seen_alike s offsets ends lag some ended =
    record {
      around = refl;
      signals = refl;
      length = λ j l. refl;
      past =
          λ x j l.
          let H = halves s in
          let f = get_or offsets j 0 in
          let turns : 0 < H = omega arith in
          let start = man H (pos f -ℤ pos (s.red j)) in
          let back = man H (pos (get_or ends j 0) -ℤ pos (2 * s.red j)) in
          let z = man H (pos (x + 0) -ℤ pos back) in
          let c = man_turns H f (s.red j) turns in
          let d = man_turns H (f + s.red j) (lag j) turns in
          let e = man_turns H (get_or ends j 0) (2 * s.red j) turns in
          let t = man_turns H (x + 0) back turns in
          sym
          (man_is H (x + lag j) start z (man_lt H (pos (x + 0) -ℤ pos back) turns)
          (record {
            p = t.p + e.q + d.q + c.p;
            q = t.q + e.p + d.p + c.q;
            eq = omega (arith, c.eq, d.eq, e.eq, t.eq, ended j l);
          }));
    }

pub band_alike : (v w : Way) → Alike v w → band_of v ≡ band_of w
band_alike v w same = λ i. record { width = width_alike v w same i; start = start_alike v w same i }

-- what the search is given, the first reds and as many ends, is all of the street
module _ (h n : ℕ) (reds ends : List ℕ) (room : n ≤ length reds) where
  pub front_fits : Fitting h n (λ j. get_or reds j 0) ends → Fitting h (length (take n reds)) (λ j. get_or (take n reds) j 0) (take n ends)
  front_fits ok =
      let count = length-take-le n reds room in
      record {
        turns = ok.turns;
        goes = λ j l. let below : j < n = omega (arith, count) in omega (arith, get_or-take n reds j 0 below, ok.goes j below);
        each = λ j l. let below : j < n = omega (arith, count) in omega (arith, get_or-take n ends j 0 below, ok.each j below);
      }

  front_alike : Alike (seen_by h (length (take n reds)) (λ j. get_or (take n reds) j 0) (take n ends)) (seen_by h n (λ j. get_or reds j 0) ends)
  front_alike =
      let count = length-take-le n reds room in
      record {
        around = refl;
        signals = count;
        length = λ j l. ap (λ (r : ℕ). 2 * r) (get_or-take n reds j 0 (omega (arith, count)));
        past =
            λ x j l.
            let below : j < n = omega (arith, count) in
            ap₂ (λ (e r : ℕ). man h (pos (x + 0) -ℤ pos (man h (pos e -ℤ pos (2 * r))))) (get_or-take n ends j 0 below) (get_or-take n reds j 0 below);
      }

  pub front_band : band_of (seen_by h (length (take n reds)) (λ j. get_or (take n reds) j 0) (take n ends)) ≡ band_of (seen_by h n (λ j. get_or reds j 0) ends)
  front_band =
      band_alike (seen_by h (length (take n reds)) (λ j. get_or (take n reds) j 0) (take n ends)) (seen_by h n (λ j. get_or reds j 0) ends) front_alike
