-- Bands worked out: on a way through two signals, and on a street's two ways under its equal plan. Assumes nothing.
use mathlib.Core.Path.{◌≡◌, refl}
use mathlib.Core.Bool.{true, false}
use mathlib.Core.List.{[], ◌∷◌}
use lib.ListN.{get_or}
use Rattle.circle.specs.Over.{first_below, sum_below, count_below, all_below, list_below}
use Rattle.circle.specs.Method.{u, pair_width, phase, offset, red_end, red_start}
use Rattle.circle.specs.Bands.{Way, greatest_up_to, clear, stretch, width, band_start, outbound_way, inbound_way}
use Rattle.circle.proofs.Examples.Method.{three}

-- two signals on a cycle of 10: one is red from 1 to 3, the other from 7 to 9. A car is at the other 2 after its departure, so that departures from 5 to 7 meet its red
abbrev way : Way
way =
    record {
      around = 10;
      signals = 2;
      start = λ j. get_or (1 ∷ 7 ∷ []) j 0;
      length = λ j. 2;
      lag = λ j. get_or (0 ∷ 2 ∷ []) j 0;
    }

-- which of the ten departures are clear: a red's start is red, and its end is green
instants : list_below 10 (clear way) ≡ true ∷ false ∷ false ∷ true ∷ true ∷ false ∷ false ∷ true ∷ true ∷ true ∷ []
unfolding list_below clear all_below
instants = refl

-- six departures are clear, in two stretches, 3 to 5 and 7 round to 1: the band is the longer one, of 4 from 7 on
band : count_below 10 (clear way) ∷ width way ∷ band_start way ∷ [] ≡ 6 ∷ 4 ∷ 7 ∷ []
unfolding sum_below width band_start greatest_up_to stretch clear all_below first_below
band = refl

-- a red of 6 ticks around the instant 17: it starts at 11 and ends, past the cycle's end, at 3
red : red_start three 2 17 ∷ red_end three 2 17 ∷ [] ≡ 11 ∷ 3 ∷ []
unfolding red_start red_end
red = refl

-- after its departure a car is at each of three signals so many halves later, outbound from the first and inbound from the last
out_lags : list_below 3 (outbound_way three (λ j. 0)).lag ≡ 0 ∷ 4 ∷ 10 ∷ []
unfolding list_below
out_lags = refl

back_lags : list_below 3 (inbound_way three (λ j. 0)).lag ≡ 8 ∷ 2 ∷ 0 ∷ []
unfolding list_below
back_lags = refl

-- each direction's band under the equal plan's offsets: as wide as B
out : width (outbound_way three (offset three 1)) ∷ band_start (outbound_way three (offset three 1)) ∷ [] ≡ 5 ∷ 1 ∷ []
unfolding width band_start greatest_up_to stretch clear all_below first_below red_start offset phase pair_width u
out = refl

back : width (inbound_way three (offset three 1)) ∷ band_start (inbound_way three (offset three 1)) ∷ [] ≡ 5 ∷ 8 ∷ []
unfolding width band_start greatest_up_to stretch clear all_below first_below red_start offset phase pair_width u
back = refl
