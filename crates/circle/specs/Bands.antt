-- Departures, stretches and bands (01, 'Red, departure, band' and 'Measuring'), over any cycle, reds and lags. A direction is its lags, a unit its numbers: outbound and
-- inbound, rounded and exact are arguments of the same definitions.
use Rattle.std.specs.Prelude.{ℕ, zero, suc, ◌+◌, ◌-◌, ◌*◌, Bool, cond, pos, ◌-ℤ◌, leb}
use Rattle.circle.specs.Man.{man}
use Rattle.circle.specs.Over.{first_below, index_of, all_below, some_below}
use Rattle.circle.specs.Method.{Timed, halves, red_start}

-- the greatest number up to n that passes the test, or 0 where none does
unfoldable pub greatest_up_to : ℕ → (ℕ → Bool) → ℕ
greatest_up_to zero test = 0
greatest_up_to (suc n) test = cond (test (suc n)) (suc n) (greatest_up_to n test)

-- one direction through the signals: the cycle, and for each signal the instant at which its red starts, how long that red lasts, and how long after its departure a car is
-- there, all in one unit
pub record Way : Type 0 where
  pub around : ℕ
  pub signals : ℕ
  pub start : ℕ → ℕ
  pub length : ℕ → ℕ
  pub lag : ℕ → ℕ

-- whether the departure at the instant x meets no red: at each signal its instant is at least the red's length after the red's start, round the cycle. The start is red and the
-- end is green; a red of no length blocks nothing
unfoldable pub clear : Way → ℕ → Bool
clear w x = all_below w.signals (λ j. leb (w.length j) (man w.around (pos (x + w.lag j) -ℤ pos (w.start j))))

-- whether the k departures from the instant x on, one for each unit of time, all meet no red: an unbroken stretch of length k, driven or empty
unfoldable pub stretch : Way → ℕ → ℕ → Bool
stretch w x k = all_below k (λ i. clear w (x + i))

-- the band's width: the length of the longest stretch there is, at most the cycle
unfoldable pub width : Way → ℕ
width w = greatest_up_to w.around (λ k. some_below w.around (λ x. stretch w x k))

-- the smallest instant at which a stretch as long as the band starts; 0 where the width is 0
unfoldable pub band_start : Way → ℕ
band_start w = index_of (first_below w.around (λ x. stretch w x (width w)))

-- the way through a street under given offsets, in halves, for a car that is at each signal some lag after its departure: a red of r ticks lasts 2r
abbrev pub way_through : Timed → (ℕ → ℕ) → (ℕ → ℕ) → Way
way_through s offset lag =
    record {
      around = halves s;
      signals = s.signals;
      start = λ j. red_start s j (offset j);
      length = λ j. 2 * s.red j;
      lag = lag;
    }

-- outbound, counted at signal 1: a time of t ticks adds 2t
abbrev pub outbound_way : Timed → (ℕ → ℕ) → Way
outbound_way s offset = way_through s offset (λ j. 2 * s.outbound j)

-- inbound, counted at signal n
abbrev pub inbound_way : Timed → (ℕ → ℕ) → Way
inbound_way s offset = way_through s offset (λ j. 2 * (s.inbound (s.signals - 1) - s.inbound j))
