-- Steps: what the library's functions say to each other and to the proofs. No contract of a public call cites it.
-- Seen from where a direction departs, a street is its reds' lengths and the instants at which they end.
use Rattle.std.specs.Prelude.{ℕ, ◌+◌, ◌-◌, ◌*◌, ◌<◌, cond, List, pos, ◌-ℤ◌, get_or, ltb}
use Rattle.circle.specs.Man.{man}
use Rattle.circle.specs.Bands.{Way, greatest_up_to, stretch}
use Rattle.stretches.specs.declared.Band.{Band}

-- at each of n signals a red that does not take all of a cycle of h halves, and may have no length, and an instant on the cycle at which it ends (01, 'Units and the street'; 02, 2026-05)
pub record Fitting (h n : ℕ) (red : ℕ → ℕ) (ends : List ℕ) : Type 0 where
  pub turns : 0 < h
  pub goes : (j : ℕ) → j < n → 2 * red j < h
  pub each : (j : ℕ) → j < n → get_or ends j 0 < h

-- the way through n signals on a cycle of h halves whose reds, seen from where a car departs, end at given instants: seen from there every lag is 0 (01, 'Red, departure, band')
abbrev pub seen_by : ℕ → ℕ → (ℕ → ℕ) → List ℕ → Way
seen_by h n red ends =
    record {
      around = h;
      signals = n;
      start = λ j. man h (pos (get_or ends j 0) -ℤ pos (2 * red j));
      length = λ j. 2 * red j;
      lag = λ j. 0;
    }

-- what a red that ends at an instant leaves of the cycle for a stretch from x on: all but the red and the time since it ended, and all where it has no length (01, 'Red, departure, band'; 02, 2026-05)
abbrev pub left_by : ℕ → ℕ → ℕ → ℕ → ℕ
left_by h x end red = cond (ltb 0 red) (h - (2 * red + man h (pos x -ℤ pos end))) h

-- the length of the longest stretch from an instant on (01, 'Red, departure, band')
abbrev pub longest_from : Way → ℕ → ℕ
longest_from w x = greatest_up_to w.around (stretch w x)

-- the wider of two bands, and of two as wide the one that starts sooner (01, 'Measuring')
unfoldable pub wider_of : Band → Band → Band
wider_of best other =
    cond (ltb best.width other.width) other
    (cond (ltb other.width best.width) best (cond (ltb other.start best.start) other best))
